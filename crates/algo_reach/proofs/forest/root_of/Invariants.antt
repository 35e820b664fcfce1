use Rattle.std.proofs.Common.{◌≡◌, ℕ, ◌≤◌, length, slice_index}
use Rattle.algo_digraph.specs.Digraph.{Digraph}
use Rattle.algo_reach.specs.Forest.{IsForest}
use Rattle.algo_reach.proofs.forest.root_of.Given as goal

abbrev pub invariant-up : goal.invariant-up
invariant-up l = record {
  kept : (g : Digraph) (root : ℕ → ℕ) → IsForest g l.initial.parents root → IsForest g l.parents root × (root l.at ≡ root l.v);
  falls : (u : ℕ) → slice_index l.parents u ≤ u;
  long : length l.parents ≡ length l.initial.parents;
  least : l.at ≤ l.v;
}

abbrev pub decreases-up : goal.decreases-up
decreases-up l = l.at
