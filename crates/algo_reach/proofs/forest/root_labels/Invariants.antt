use Rattle.std.proofs.Common.{◌≡◌, ℕ, ◌<◌, length, slice_index}
use Rattle.algo_digraph.specs.Digraph.{Digraph}
use Rattle.algo_reach.specs.Forest.{IsForest}
use Rattle.algo_reach.proofs.forest.root_labels.Given as goal

abbrev pub invariant-loop-v : goal.invariant-loop-v
invariant-loop-v l = record {
  long : length l.labels ≡ l.v;
  each : (g : Digraph) (root : ℕ → ℕ) → IsForest g l.parents root → (u : ℕ) → u < l.v → slice_index l.labels u ≡ root u;
}
