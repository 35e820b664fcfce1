use Rattle.std.proofs.Common.{◌≡◌, take}
use Rattle.std.specs.Prelude.{filter}
use Rattle.algo_core.specs.Peeling.{is_left}
use Rattle.algo_core.proofs.cores.still_left.Given as goal

abbrev pub invariant-loop-v : goal.invariant-loop-v
invariant-loop-v l = l.still ≡ filter (is_left l.cores) (take l.v-index l.left)
