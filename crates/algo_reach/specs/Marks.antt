-- How marks spread over a digraph from one level of a search to the next. No public contract names these words.
use Rattle.std.specs.Prelude.{◌≡◌, ◌≢◌, ◌⊎◌, ℕ, ◌+◌, ◌<◌, List, Option, Some, None, Contains, length, slice_index_or, sum_by}
use Rattle.algo_digraph.specs.Digraph.{Digraph, Goes}

-- the mark of a vertex, if it has one
abbrev pub mark_of : List (Option ℕ) → ℕ → Option ℕ
mark_of marks v = slice_index_or marks v None

-- 1 for a vertex without a mark
abbrev pub unmarked : Option ℕ → ℕ
unmarked None = 1
unmarked (Some k) = 0

-- some vertex with the mark has an edge to v
abbrev pub HasSource : Digraph → List (Option ℕ) → ℕ → ℕ → Type 0
HasSource g marks mark v = (e : ℕ) × (u : ℕ) × Goes g e u v × (mark_of marks u ≡ Some mark)

-- vertices without a mark, for which a cause stands, got the mark, and the list of new vertices grew by exactly these
pub record IsMarking (Cause : ℕ → Type 0) (mark : ℕ) (old new : List (Option ℕ)) (before after : List ℕ) : Type 0 where
  pub long : length new ≡ length old
  pub kept : (v d : ℕ) → mark_of old v ≡ Some d → mark_of new v ≡ Some d
  pub fresh : (v : ℕ) → mark_of old v ≡ None → (mark_of new v ≡ None) ⊎ ((mark_of new v ≡ Some mark) × Cause v)
  pub listed : (v : ℕ) → Contains after v → Contains before v ⊎ ((v < length old) × (mark_of old v ≡ None) × (mark_of new v ≡ Some mark))
  pub stays : (v : ℕ) → Contains before v → Contains after v
  pub has : (v : ℕ) → mark_of old v ≡ None → mark_of new v ≡ Some mark → Contains after v
  pub count : length after + sum_by unmarked new ≡ length before + sum_by unmarked old

-- r is the mark of v after a round in which each vertex without one looks for a cause
abbrev pub IsPulled : (Cause : Type 0) → ℕ → Option ℕ → Option ℕ → Type 0
IsPulled Cause mark (Some d) r = r ≡ Some d
IsPulled Cause mark None None = Cause → ⊥
IsPulled Cause mark None (Some d) = (d ≡ mark) × Cause
