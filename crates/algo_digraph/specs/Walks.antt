-- Walks, hop distances, components and least weights.
use Rattle.std.specs.Prelude.{◌≡◌, ℕ, ℤ, pos, negsuc, ◌<◌, ◌≤◌, ◌^◌, ◌⊎◌, List, [], ◌∷◌, Option, Some, None, length, slice_index, sum_by}
use Rattle.algo_digraph.specs.Digraph.{Digraph, Goes}

-- a walk from a to b: edges, each going from where the one before it ended
abbrev pub IsWalk : Digraph → ℕ → List ℕ → ℕ → Type 0
IsWalk g a [] b = a ≡ b
IsWalk g a (e ∷ es) b = (c : ℕ) × Goes g e a c × IsWalk g c es b

-- the hop distance from a to b is the least length of a walk; there is none where there is no walk
abbrev pub IsHopDistance : Digraph → ℕ → ℕ → Option ℕ → Type 0
IsHopDistance g a b None = (es : List ℕ) → IsWalk g a es b → ⊥
IsHopDistance g a b (Some k) =
    ((es : List ℕ) × IsWalk g a es b × (length es ≡ k)) × ((es : List ℕ) → IsWalk g a es b → k ≤ length es)

-- an edge joins a and b, taken either way
abbrev pub Joins : Digraph → ℕ → ℕ → ℕ → Type 0
Joins g e a b = Goes g e a b ⊎ Goes g e b a

-- a path from a to b: edges, each taken either way, from where the one before it led
abbrev pub IsPath : Digraph → ℕ → List ℕ → ℕ → Type 0
IsPath g a [] b = a ≡ b
IsPath g a (e ∷ es) b = (c : ℕ) × Joins g e a c × IsPath g c es b

-- two vertices are connected where a path joins them
abbrev pub AreConnected : Digraph → ℕ → ℕ → Type 0
AreConnected g a b = (es : List ℕ) × IsPath g a es b

-- the label of a vertex is the least index connected to it
abbrev pub IsLabel : Digraph → ℕ → ℕ → Type 0
IsLabel g v l = AreConnected g v l × ((b : ℕ) → AreConnected g v b → l ≤ b)

-- the weight of a walk is the sum of its edges' weights
abbrev pub weight_of : List ℕ → List ℕ → ℕ
weight_of weights es = sum_by (slice_index weights) es

-- the least weight of a walk from a to b; there is none where no walk has a weight below 2 ^ 63
abbrev pub IsLeastWeight : Digraph → List ℕ → ℕ → ℕ → Option ℤ → Type 0
IsLeastWeight g weights a b None = (es : List ℕ) → IsWalk g a es b → 2 ^ 63 ≤ weight_of weights es
IsLeastWeight g weights a b (Some (pos k)) =
    (k < 2 ^ 63) × ((es : List ℕ) × IsWalk g a es b × (weight_of weights es ≡ k))
    × ((es : List ℕ) → IsWalk g a es b → k ≤ weight_of weights es)
IsLeastWeight g weights a b (Some (negsuc k)) = ⊥
