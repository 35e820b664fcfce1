use Rattle.std.proofs.Common.{◌≡◌, take, slice_index}
use Rattle.std.specs.Prelude.{filter, nat_le}
use Rattle.algo_core.proofs.cores.with_few_ends.Given as goal

abbrev pub invariant-loop-v : goal.invariant-loop-v
invariant-loop-v l = l.few.items ≡ filter (λ v. nat_le (slice_index l.ends v) l.level) (take l.v-index l.left)
