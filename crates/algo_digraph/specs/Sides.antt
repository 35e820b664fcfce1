-- The edges of a table as a search reads them from one of their ends. No public contract names these words.
use Rattle.std.specs.Prelude.{◌≡◌, ℕ, ℤ, pos, ◌+◌, ◌-◌, ◌<◌, ◌≤◌, nat_lt, if◌then◌else◌, List, [], ◌∷◌, ◌++◌, All, length, map, drop, flat_map, slice_index_or, sum, take}
use Rattle.std.specs.Int.RustNames.{unsigned_abs}
use Rattle.csr_rows.specs.Rows.{rows_of, row_at}
use Rattle.graph_model.specs.Graph.{GraphData}
use Rattle.algo_digraph.specs.declared.arcs.Arc.{Arc}
use Rattle.algo_digraph.specs.declared.side.Side.{Side}
use Rattle.algo_digraph.specs.Arcs.{arc}
use Rattle.algo_digraph.specs.DigraphOf.{table_sizes}

-- the arc of the edge of a place, whose other end is kept as the place of a vertex in its table
abbrev pub arc_at : ℕ → ℕ → List ℤ → ℕ → Arc
arc_at first_edge there_first there place = arc (first_edge + place) (there_first + unsigned_abs (slice_index_or there place (pos 0)))

-- the places of the edges of a vertex on its side; none where its table is not that of the side
abbrev pub side_row : Side → ℕ → List ℕ
side_row s v = if nat_lt v s.here_first then [] else row_at s.rows.now (v - s.here_first)

-- the arcs of a vertex
abbrev pub side_arcs : ℕ → Side → List Arc
side_arcs v s = map (arc_at s.first_edge s.there_first s.there.now) (side_row s v)

-- for each edge the index of the vertex at its other end
abbrev pub side_ends : Side → List ℕ
side_ends s = map (λ z. s.there_first + unsigned_abs z) s.there.now

abbrev pub all_ends : List Side → List ℕ
all_ends sides = flat_map side_ends sides

-- a place that is kept as an INTEGER is that of one of n vertices, where the first of its table has this index
abbrev pub IsEnd : ℕ → ℕ → ℤ → Type 0
IsEnd n first z = (k : ℕ) × (z ≡ pos k) × (first + k < n)

-- ---- both sides of each table

-- one side of a table whose first edge has this number, where the other side is that of the other ends
pub record IsSide (n first : ℕ) (side other : Side) : Type 0 where
  pub number : side.first_edge ≡ first
  pub long : length side.there.now ≡ length other.there.now
  pub here : side.here_first ≡ other.there_first
  pub rows : side.rows.now ≡ rows_of (map unsigned_abs other.there.now)
  pub ends : All (IsEnd n side.there_first) side.there.now

-- one side of each table and the other, where the edges are numbered on from table to table
abbrev pub AreSides : ℕ → ℕ → List Side → List Side → Type 0
AreSides n first [] [] = Unit {0}
AreSides n first [] (o ∷ others) = ⊥
AreSides n first (s ∷ sides) [] = ⊥
AreSides n first (s ∷ sides) (o ∷ others) = IsSide n first s o × AreSides n (first + length s.there.now) sides others

-- what a digraph keeps: how many vertices there are, and for each table its side of the ends where its edges start and that
-- of the ends where they end
pub record IsFlat (vertices : ℕ) (out into : List Side) : Type 0 where
  pub few_vertices : vertices ≤ 1048576
  pub few_edges : length (all_ends out) ≤ 4194304
  pub out_are : AreSides vertices 0 out into
  pub into_are : AreSides vertices 0 into out

-- ---- what is left of the arcs of a vertex

-- those of a row of a table, and those in the tables from one on
abbrev pub arcs_left : ℕ → ℕ → List ℤ → List ℕ → ℕ → List Side → ℕ → List Arc
arcs_left first_edge there_first there row v sides table = map (arc_at first_edge there_first there) row ++ flat_map (side_arcs v) (drop table sides)

-- the places of a row are those of edges, and the edges lead to vertices
pub record IsRow (first_edge there_first : ℕ) (there : List ℤ) (row : List ℕ) : Type 0 where
  pub few : first_edge + length there ≤ 4194304
  pub ends : All (IsEnd 1048576 there_first) there
  pub places : All (λ p. p < length there) row

abbrev pub HasRows : Side → Type 0
HasRows s = (i : ℕ) → IsRow s.first_edge s.there_first s.there.now (row_at s.rows.now i)

pub record AreLeft (first_edge there_first : ℕ) (there : List ℤ) (row : List ℕ) (sides : List Side) : Type 0 where
  pub here : IsRow first_edge there_first there row
  pub later : All HasRows sides

-- ---- the sides of the edges of a table of a graph

-- the table's first edge has this number, `from` is the vertex table on this side and `to` that on the other, and the places of
-- the vertices are these
pub record IsSideOf (g : GraphData) (first from to : ℕ) (here there : List ℕ) (s : Side) : Type 0 where
  pub number : s.first_edge ≡ first
  pub here_first : s.here_first ≡ sum (take from (table_sizes g))
  pub there_first : s.there_first ≡ sum (take to (table_sizes g))
  pub rows : s.rows.now ≡ rows_of here
  pub ends : s.there.now ≡ map pos there
