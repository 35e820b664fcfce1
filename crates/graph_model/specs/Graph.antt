-- What a graph is.
use Rattle.std.specs.Prelude.{◌≡◌, ℕ, ◌+◌, ◌≤◌, ℤ, Bool, ◌&&◌, ◌||◌, ◌==◌, List, [], length, All, IsTrue, Option, Some, None, slice_get, replicate}
use Rattle.std.specs.List.{AllZip, list_any, list_all, zip}
use Rattle.std.specs.Ordering.{int_eq}
use Rattle.column_types.specs.declared.value.Value.{Value}
use Rattle.column_types.specs.Value.{fits_kind}
use Rattle.graph_schema.specs.declared.schema.Prop.{Prop}
use Rattle.graph_schema.specs.declared.schema.VertexTable.{VertexTable}
use Rattle.graph_schema.specs.declared.schema.EdgeTable.{EdgeTable}
use Rattle.graph_schema.specs.Schema.{SchemaData, IsSchema}
use Rattle.graph_model.specs.declared.row.VertexRow.{VertexRow}
use Rattle.graph_model.specs.declared.row.EdgeRow.{EdgeRow}
use Rattle.graph_model.specs.Keys.{rows_at, has_key_in, has_key, AreDistinct, row_total, value_total}

-- a schema, for each vertex table its rows, and for each edge table its rows
pub record GraphData : Type 0 where
  pub schema : SchemaData
  pub vertices : List (List VertexRow)
  pub edges : List (List EdgeRow)

-- ---- tables of a schema

abbrev pub vertex_table_props : Option VertexTable → List Prop
vertex_table_props None = []
vertex_table_props (Some t) = t.props

abbrev pub edge_table_props : Option EdgeTable → List Prop
edge_table_props None = []
edge_table_props (Some t) = t.props

-- the properties of a table, none where there is no such table
abbrev pub vertex_props_at : SchemaData → ℕ → List Prop
vertex_props_at s t = vertex_table_props (slice_get s.vertices t)

abbrev pub edge_props_at : SchemaData → ℕ → List Prop
edge_props_at s t = edge_table_props (slice_get s.edges t)

abbrev pub source_table : Option EdgeTable → ℕ
source_table None = 0
source_table (Some t) = t.source

abbrev pub destination_table : Option EdgeTable → ℕ
destination_table None = 0
destination_table (Some t) = t.destination

-- the vertex tables in which an edge table's edges start and end
abbrev pub source_at : SchemaData → ℕ → ℕ
source_at s t = source_table (slice_get s.edges t)

abbrev pub destination_at : SchemaData → ℕ → ℕ
destination_at s t = destination_table (slice_get s.edges t)

-- ---- rows

abbrev pub vertex_key : VertexRow → ℤ
vertex_key r = r.key

abbrev pub edge_key : EdgeRow → ℤ
edge_key r = r.key

abbrev pub vertex_values : VertexRow → List Value
vertex_values r = r.values

abbrev pub edge_values : EdgeRow → List Value
edge_values r = r.values

-- a table has the vertex, or the edge, of the key
abbrev pub has_vertex_in : ℤ → List VertexRow → Bool
has_vertex_in k rows = has_key_in vertex_key k rows

abbrev pub has_edge_in : ℤ → List EdgeRow → Bool
has_edge_in k rows = has_key_in edge_key k rows

-- some table has it
abbrev pub has_vertex : ℤ → List (List VertexRow) → Bool
has_vertex k tables = has_key vertex_key k tables

abbrev pub has_edge : ℤ → List (List EdgeRow) → Bool
has_edge k tables = has_key edge_key k tables

-- an edge of an edge table starts or ends at the vertex of the key in vertex table t
abbrev pub ends_at : ℕ → ℤ → EdgeTable → EdgeRow → Bool
ends_at t k table r = (table.source == t && int_eq r.source k) || (table.destination == t && int_eq r.destination k)

-- some edge of the edge table does
abbrev pub is_end_in : ℕ → ℤ → EdgeTable → List EdgeRow → Bool
is_end_in t k table rows = list_any (ends_at t k table) rows

-- some edge of some edge table does
abbrev pub is_end : SchemaData → ℕ → ℤ → List (List EdgeRow) → Bool
is_end s t k tables = list_any (λ p. is_end_in t k p.0 p.1) (zip s.edges tables)

-- each value is NULL or of its property's kind
abbrev pub kinds_fit : List Prop → List Value → Bool
kinds_fit props values = list_all (λ p. fits_kind p.0.kind p.1) (zip props values)

-- ---- graphs

-- values of the right number and kind
pub record AreValues (props : List Prop) (values : List Value) : Type 0 where
  pub count : length values ≡ length props
  pub kinds : IsTrue (kinds_fit props values)

-- the rows of a vertex table have values of its properties
abbrev pub AreVertices : VertexTable → List VertexRow → Type 0
AreVertices table rows = All (λ r. AreValues table.props r.values) rows

-- an edge has values of its table's properties, and its ends are vertices of the table's end tables
pub record IsEdge (vertices : List (List VertexRow)) (table : EdgeTable) (r : EdgeRow) : Type 0 where
  pub values : AreValues table.props r.values
  pub source : IsTrue (has_vertex_in r.source (rows_at vertices table.source))
  pub destination : IsTrue (has_vertex_in r.destination (rows_at vertices table.destination))

abbrev pub AreEdges : List (List VertexRow) → EdgeTable → List EdgeRow → Type 0
AreEdges vertices table rows = All (IsEdge vertices table) rows

-- how many vertices, edges and property cells a graph has
abbrev pub vertex_total : GraphData → ℕ
vertex_total g = row_total g.vertices

abbrev pub edge_total : GraphData → ℕ
edge_total g = row_total g.edges

abbrev pub cell_total : GraphData → ℕ
cell_total g = value_total vertex_values g.vertices + value_total edge_values g.edges

-- and how many at most
abbrev pub most_vertices : ℕ
most_vertices = 1048576

abbrev pub most_edges : ℕ
most_edges = 4194304

abbrev pub most_cells : ℕ
most_cells = 16777216

-- what every graph keeps: a schema, rows that fit its tables, keys that differ as the schema says among vertices and among
-- edges, and the limits
pub record IsGraph (g : GraphData) : Type 0 where
  pub schema : IsSchema g.schema
  pub vertices : AllZip AreVertices g.schema.vertices g.vertices
  pub edges : AllZip (AreEdges g.vertices) g.schema.edges g.edges
  pub vertex_keys : AreDistinct g.schema.keys vertex_key g.vertices
  pub edge_keys : AreDistinct g.schema.keys edge_key g.edges
  pub few_vertices : vertex_total g ≤ most_vertices
  pub few_edges : edge_total g ≤ most_edges
  pub few_cells : cell_total g ≤ most_cells

-- the graph of a schema without rows
abbrev pub empty_graph : SchemaData → GraphData
empty_graph s = record { schema = s; vertices = replicate (length s.vertices) []; edges = replicate (length s.edges) [] }
