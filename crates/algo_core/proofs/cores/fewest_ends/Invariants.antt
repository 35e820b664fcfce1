use Rattle.std.proofs.Common.{◌≡◌, ℕ, ◌<◌, ◌≤◌, slice_index}
use Rattle.std.specs.Prelude.{Contains}
use Rattle.algo_core.proofs.cores.fewest_ends.Given as goal

abbrev pub invariant-loop-v : goal.invariant-loop-v
invariant-loop-v l = record {
  least : (k : ℕ) → k < l.v-index → l.fewest ≤ slice_index l.ends (slice_index l.left k);
  some : (v : ℕ) × Contains l.left v × (slice_index l.ends v ≡ l.fewest);
}
