-- Strong components, by walks.
use Rattle.std.specs.Prelude.{ℕ, ◌≤◌, List}
use Rattle.algo_digraph.specs.Digraph.{Digraph}
use Rattle.algo_digraph.specs.Walks.{IsWalk}

-- a walk leads from a to b
abbrev pub Reaches : Digraph → ℕ → ℕ → Type 0
Reaches g a b = (es : List ℕ) × IsWalk g a es b

-- walks lead from a to b and from b to a
abbrev pub AreStrong : Digraph → ℕ → ℕ → Type 0
AreStrong g a b = Reaches g a b × Reaches g b a

-- the strong label of v is the least index of a vertex to which and from which walks lead
abbrev pub IsStrongLabel : Digraph → ℕ → ℕ → Type 0
IsStrongLabel g v l = AreStrong g v l × ((u : ℕ) → AreStrong g v u → l ≤ u)
