-- Digraphs: vertices by index, edges by number.
use Rattle.std.specs.Prelude.{◌≡◌, ℕ, ◌<◌, List, Some, map, slice_get, slice_index_or}
use Rattle.csr_rows.specs.Rows.{places_of}

-- how many vertices there are, and for each edge the indexes of the vertices that it goes from and to
pub record Digraph : Type 0 where
  pub vertices : ℕ
  pub edges : List (ℕ × ℕ)

-- the edge of a number goes from a to b
abbrev pub Goes : Digraph → ℕ → ℕ → ℕ → Type 0
Goes g e a b = slice_get g.edges e ≡ Some (a, b)

-- each edge goes from a vertex to a vertex
abbrev pub IsClosed : Digraph → Type 0
IsClosed g = (e a b : ℕ) → Goes g e a b → (a < g.vertices) × (b < g.vertices)

-- where the edge of a number starts and ends
abbrev pub source_of : Digraph → ℕ → ℕ
source_of g e = (slice_index_or g.edges e (0, 0)).0

abbrev pub target_of : Digraph → ℕ → ℕ
target_of g e = (slice_index_or g.edges e (0, 0)).1

-- the numbers of the edges that leave, or enter, a vertex, in rising order
abbrev pub leaving : Digraph → ℕ → List ℕ
leaving g v = places_of (map (λ p. p.0) g.edges) v

abbrev pub entering : Digraph → ℕ → List ℕ
entering g v = places_of (map (λ p. p.1) g.edges) v
