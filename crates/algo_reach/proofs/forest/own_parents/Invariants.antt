use Rattle.std.proofs.Common.{◌≡◌, ℕ, ◌<◌, length, slice_index}
use Rattle.algo_reach.proofs.forest.own_parents.Given as goal

abbrev pub invariant-loop-v : goal.invariant-loop-v
invariant-loop-v l = record {
  long : length l.parents ≡ l.v;
  own : (u : ℕ) → u < l.v → slice_index l.parents u ≡ u;
}
