-- The graph that the lines of an inline source stand for.
use Rattle.std.specs.Prelude.{◌≡◌, ◌↔◌, ℕ, ℤ, List, [], ◌∷◌, map, codes, Result, Ok, IsOk}
use Rattle.graph_schema.specs.declared.schema.Keys.TheVariants.{Whole}
use Rattle.graph_schema.specs.Schema.{SchemaData, schema_with}
use Rattle.graph_model.specs.declared.row.VertexRow.{VertexRow}
use Rattle.graph_model.specs.declared.row.EdgeRow.{EdgeRow}
use Rattle.graph_model.specs.declared.change.Change.{Change}
use Rattle.graph_model.specs.declared.change.Change.TheVariants.{InsertVertex, InsertEdge}
use Rattle.graph_model.specs.Graph.{GraphData, IsGraph, empty_graph}
use Rattle.table_loader.specs.declared.fault.LoadFault.{LoadFault}
use Rattle.table_loader.specs.Fault.{◌>>=◌}
use Rattle.table_loader.specs.Put.{put_all}

-- a vertex table V, and an edge table E from V to V, without properties; keys differ over all tables
abbrev pub inline_schema : SchemaData
inline_schema =
    schema_with Whole (record { name = codes "V"; props = [] } ∷ []) (record { name = codes "E"; source = 0; destination = 0; props = [] } ∷ [])

-- a `v` line, and an `e` line with a key, a source and a destination, as records without a fault of their own
abbrev pub vertex_line : ℤ → Result Change ℕ
vertex_line key = Ok (InsertVertex 0 key [])

abbrev pub edge_line : ℤ × ℤ × ℤ → Result Change ℕ
edge_line edge = Ok (InsertEdge 0 edge.0 edge.1 edge.2 [])

-- the graph after `v` lines, which are file 0, and after `e` lines, which are file 1; the first line has this number
abbrev pub put_vertices : ℕ → GraphData → List ℤ → Result GraphData LoadFault
put_vertices row g keys = put_all 0 row g (map vertex_line keys)

abbrev pub put_edges : ℕ → GraphData → List (ℤ × ℤ × ℤ) → Result GraphData LoadFault
put_edges row g edges = put_all 1 row g (map edge_line edges)

-- the graph of a source: its `v` lines, and then its `e` lines
abbrev pub inline_of : List ℤ → List (ℤ × ℤ × ℤ) → Result GraphData LoadFault
inline_of vertices edges = put_vertices 1 (empty_graph inline_schema) vertices >>= (λ g. put_edges 1 g edges)

-- the rows of the lines, whether or not they are a graph
abbrev pub vertex_row : ℤ → VertexRow
vertex_row key = record { key = key; values = [] }

abbrev pub edge_row : ℤ × ℤ × ℤ → EdgeRow
edge_row edge = record { key = edge.0; source = edge.1; destination = edge.2; values = [] }

abbrev pub rows_of_lines : List ℤ → List (ℤ × ℤ × ℤ) → GraphData
rows_of_lines vertices edges = record {
  schema = inline_schema;
  vertices = map vertex_row vertices ∷ [];
  edges = map edge_row edges ∷ [];
}

-- lines are accepted exactly where their rows are a graph, and then these rows are the graph
abbrev pub LinesStandForAGraph : Type 0
LinesStandForAGraph =
    ((vertices : List ℤ) (edges : List (ℤ × ℤ × ℤ)) → IsOk (inline_of vertices edges) ↔ IsGraph (rows_of_lines vertices edges))
    × ((vertices : List ℤ) (edges : List (ℤ × ℤ × ℤ)) (g : GraphData) → inline_of vertices edges ≡ Ok g → g ≡ rows_of_lines vertices edges)
