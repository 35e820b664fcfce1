-- Vertices with their degrees and places, and places that move.
use Rattle.std.specs.Prelude.{◌≡◌, ℕ, ◌+◌, ◌<◌, List, [], ◌∷◌, map, length, slice_index_or}
use Rattle.graph_model.specs.declared.row.VertexRow.{VertexRow}
use Rattle.graph_mutate.specs.declared.degrees.Ranked.{Ranked}
use Rattle.graph_model.specs.Keys.{rows_at}
use Rattle.graph_model.specs.Graph.{GraphData}
use Rattle.graph_mutate.specs.Sorted.{falling, row_degree}

abbrev pub rank_degree : Ranked → ℕ
rank_degree r = r.degree

abbrev pub rank_place : Ranked → ℕ
rank_place r = r.place

-- each vertex of a list with its number and its place, the first of them at the i-th
abbrev pub ranks_from : ℕ → (VertexRow → ℕ) → List VertexRow → List Ranked
ranks_from i n [] = []
ranks_from i n (r ∷ rows) = record { degree = n r; place = i } ∷ ranks_from (i + 1) n rows

abbrev pub ranks : (VertexRow → ℕ) → List VertexRow → List Ranked
ranks n rows = ranks_from 0 n rows

-- the places of vertices by falling number
abbrev pub order_of : (VertexRow → ℕ) → List VertexRow → List ℕ
order_of n rows = map rank_place (falling rank_degree (ranks n rows))

-- of each old place that the order has, a new place at which it has it
pub record Inverts (order new : List ℕ) : Type 0 where
  pub count : length new ≡ length order
  pub within : (j : ℕ) → j < length order → slice_index_or new (slice_index_or order j 0) 0 < length order
  pub back : (j : ℕ) → j < length order → slice_index_or order (slice_index_or new (slice_index_or order j 0) 0) 0 ≡ slice_index_or order j 0

-- the places of a table's vertices by falling degree
abbrev pub table_order : GraphData → ℕ → List ℕ
table_order g t = order_of (row_degree g t) (rows_at g.vertices t)

-- for each vertex table the new places of its vertices
pub record AreInverses (g : GraphData) (new : List (List ℕ)) : Type 0 where
  pub count : length new ≡ length g.vertices
  pub each : (t : ℕ) → t < length g.vertices → Inverts (table_order g t) (slice_index_or new t [])
