-- A graph by columns: for each table and property the values of its rows, and for each edge the places of its ends.
use Rattle.std.specs.Prelude.{ℕ, ℤ, List, map, Option, Some, None, slice_get, slice_index_or}
use Rattle.std.specs.List.{position_or_len}
use Rattle.std.specs.Ordering.{int_eq}
use Rattle.column_types.specs.declared.kind.Kind.{Kind}
use Rattle.column_types.specs.declared.kind.Kind.TheVariants as kind
use Rattle.column_types.specs.declared.value.Value.{Value}
use Rattle.column_types.specs.declared.value.Value.TheVariants.{Null}
use Rattle.graph_schema.specs.declared.schema.Prop.{Prop}
use Rattle.graph_schema.specs.Schema.{SchemaData}
use Rattle.graph_model.specs.declared.row.VertexRow.{VertexRow}
use Rattle.graph_model.specs.Keys.{rows_at}
use Rattle.graph_model.specs.Graph.{GraphData, vertex_props_at, edge_props_at, source_at, destination_at}

-- the place of a key in a table; the number of rows where it has none
abbrev pub place_in : List VertexRow → ℤ → ℕ
place_in rows k = position_or_len (λ r. int_eq r.key k) rows

-- for each edge of a table the place where it starts
abbrev pub source_places : GraphData → ℕ → List ℕ
source_places g t = map (λ r. place_in (rows_at g.vertices (source_at g.schema t)) r.source) (rows_at g.edges t)

-- for each edge of a table the place where it ends
abbrev pub destination_places : GraphData → ℕ → List ℕ
destination_places g t = map (λ r. place_in (rows_at g.vertices (destination_at g.schema t)) r.destination) (rows_at g.edges t)

-- the value at a place of a row; a row of a graph has one for each property
abbrev pub value_at : ℕ → List Value → Value
value_at p values = slice_index_or values p Null

-- for each vertex of a table its value of a property
abbrev pub vertex_prop_values : GraphData → ℕ → ℕ → List Value
vertex_prop_values g t p = map (λ r. value_at p r.values) (rows_at g.vertices t)

-- for each edge of a table its value of a property
abbrev pub edge_prop_values : GraphData → ℕ → ℕ → List Value
edge_prop_values g t p = map (λ r. value_at p r.values) (rows_at g.edges t)

-- the kind of a property; each property of a schema has one
abbrev pub prop_kind : Option Prop → Kind
prop_kind None = kind.Long
prop_kind (Some p) = p.kind

-- the kind of a property of a vertex table, or of an edge table
abbrev pub vertex_prop_kind : SchemaData → ℕ → ℕ → Kind
vertex_prop_kind s t p = prop_kind (slice_get (vertex_props_at s t) p)

abbrev pub edge_prop_kind : SchemaData → ℕ → ℕ → Kind
edge_prop_kind s t p = prop_kind (slice_get (edge_props_at s t) p)
