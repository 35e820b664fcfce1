-- The columns of a graph.
use Rattle.std.specs.Prelude.{◌≡◌, ℕ, pos, ℤ, List, length, map, Some, slice_get, position}
use Rattle.std.specs.List.{range_with_len}
use Rattle.std.specs.Ordering.{int_eq}
use Rattle.column_types.specs.Column.{ColumnData}
use Rattle.key_places.specs.Places.{place_of}
use Rattle.graph_model.specs.Keys.{rows_at}
use Rattle.graph_model.specs.Graph.{GraphData, vertex_key, edge_key, vertex_props_at, edge_props_at}
use Rattle.graph_model.specs.Columns.{vertex_prop_kind, edge_prop_kind, vertex_prop_values, edge_prop_values, source_places, destination_places}
use Rattle.graph_model.specs.declared.columns.GraphColumns.{GraphColumns}
use Rattle.graph_model.specs.declared.columns.VertexColumns.{VertexColumns}
use Rattle.graph_model.specs.declared.columns.EdgeColumns.{EdgeColumns}

-- the column of a property
abbrev pub vertex_column : GraphData → ℕ → ℕ → ColumnData
vertex_column g t p = record { kind = vertex_prop_kind g.schema t p; values = vertex_prop_values g t p }

abbrev pub edge_column : GraphData → ℕ → ℕ → ColumnData
edge_column g t p = record { kind = edge_prop_kind g.schema t p; values = edge_prop_values g t p }

-- the columns of a vertex table, and where its keys stand
pub record AreVertexColumns (g : GraphData) (t : ℕ) (c : VertexColumns) : Type 0 where
  pub keys : c.keys ≡ map vertex_key (rows_at g.vertices t)
  pub values : c.values ≡ map (vertex_column g t) (range_with_len 0 (length (vertex_props_at g.schema t)))
  pub places : (k : ℤ) → place_of c.places k ≡ position (int_eq k) c.keys

-- the columns of an edge table, and where its keys stand
pub record AreEdgeColumns (g : GraphData) (t : ℕ) (c : EdgeColumns) : Type 0 where
  pub keys : c.keys ≡ map edge_key (rows_at g.edges t)
  pub sources : c.sources ≡ map pos (source_places g t)
  pub destinations : c.destinations ≡ map pos (destination_places g t)
  pub values : c.values ≡ map (edge_column g t) (range_with_len 0 (length (edge_props_at g.schema t)))
  pub places : (k : ℤ) → place_of c.places k ≡ position (int_eq k) c.keys

-- the columns of each table of a graph
pub record AreColumnsOf (g : GraphData) (c : GraphColumns) : Type 0 where
  pub schema : c.schema ≡ g.schema
  pub vertex_tables : length c.vertices ≡ length g.vertices
  pub vertices : (t : ℕ) (x : VertexColumns) → slice_get c.vertices t ≡ Some x → AreVertexColumns g t x
  pub edge_tables : length c.edges ≡ length g.edges
  pub edges : (t : ℕ) (x : EdgeColumns) → slice_get c.edges t ≡ Some x → AreEdgeColumns g t x
