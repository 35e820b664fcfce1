use Rattle.std.proofs.Common.{ℕ, ◌<◌, ◌≤◌, slice_index}
use Rattle.std.specs.Prelude.{Contains}
use Rattle.algo_rank.proofs.blocks.least.Given as goal

abbrev pub invariant-loop-v : goal.invariant-loop-v
invariant-loop-v l = record {
  has : Contains l.block l.least;
  low : (k : ℕ) → k < l.v-index → l.least ≤ slice_index l.block k;
}
