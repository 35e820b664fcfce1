-- Trees of vertices that edges join, for labels by one thread. No public contract names these words.
use Rattle.std.specs.Prelude.{◌≡◌, ℕ, ◌<◌, ◌≤◌, List, length, slice_index}
use Rattle.algo_digraph.specs.Digraph.{Digraph}
use Rattle.algo_digraph.specs.Walks.{AreConnected}

-- each vertex has a parent, itself or a smaller one, and `root` is where the way up ends; a vertex is connected to its root
pub record IsForest (g : Digraph) (parents : List ℕ) (root : ℕ → ℕ) : Type 0 where
  pub long : length parents ≡ g.vertices
  pub falls : (v : ℕ) → slice_index parents v ≤ v
  pub up : (v : ℕ) → v < g.vertices → root (slice_index parents v) ≡ root v
  pub top : (v : ℕ) → v < g.vertices → slice_index parents v ≡ v → root v ≡ v
  pub fixed : (v : ℕ) → v < g.vertices → slice_index parents (root v) ≡ root v
  pub least : (v : ℕ) → root v ≤ v
  pub connected : (v : ℕ) → v < g.vertices → AreConnected g v (root v)

abbrev pub HasForest : Digraph → List ℕ → Type 0
HasForest g parents = (root : ℕ → ℕ) × IsForest g parents root

-- trees grew together: those that were one are one, and the vertices of each such pair are in one
abbrev pub IsJoining : Digraph → (ℕ → ℕ → Type 0) → List ℕ → List ℕ → Type 0
IsJoining g Pair old new =
    (root : ℕ → ℕ) → IsForest g old root
    → (next : ℕ → ℕ) × IsForest g new next × ((u w : ℕ) → root u ≡ root w → next u ≡ next w) × ((u w : ℕ) → Pair u w → next u ≡ next w)
