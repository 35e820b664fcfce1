-- Core numbers, by sets of vertices. A set is a test.
use Rattle.std.specs.Prelude.{ℕ, ◌+◌, ◌<◌, ◌≤◌, ◌==◌, ◌&&◌, Bool, IsTrue, count_by}
use Rattle.algo_digraph.specs.Digraph.{Digraph}

-- both ends of an edge lie in the set
abbrev pub is_inside : (ℕ → Bool) → ℕ × ℕ → Bool
is_inside set p = set p.0 && set p.1

-- how many edge ends a vertex has inside the set: a loop has two, and parallel edges count each
abbrev pub ends_inside : Digraph → (ℕ → Bool) → ℕ → ℕ
ends_inside g set v =
    count_by (λ p. (p.0 == v) && is_inside set p) g.edges + count_by (λ p. (p.1 == v) && is_inside set p) g.edges

-- some set of vertices holds v, and each member has at least k edge ends inside the set
pub record IsInCore (g : Digraph) (v k : ℕ) : Type 0 where
  pub set : ℕ → Bool
  pub vertices : (u : ℕ) → IsTrue (set u) → u < g.vertices
  pub holds : IsTrue (set v)
  pub ends : (u : ℕ) → IsTrue (set u) → k ≤ ends_inside g set u

-- the core number is the greatest such k
abbrev pub IsCoreNumber : Digraph → ℕ → ℕ → Type 0
IsCoreNumber g v k = IsInCore g v k × ((j : ℕ) → IsInCore g v j → j ≤ k)
