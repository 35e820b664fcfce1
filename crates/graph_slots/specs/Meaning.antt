-- What a slot holds in a graph.
use Rattle.std.specs.Prelude.{ℕ, pos, ℤ, List, map}
use Rattle.column_types.specs.declared.kind.Kind.{Kind}
use Rattle.column_types.specs.declared.kind.Kind.TheVariants as kind
use Rattle.column_types.specs.declared.value.Value.{Value}
use Rattle.column_types.specs.declared.value.Value.TheVariants.{Integer, Long}
use Rattle.csr_rows.specs.Rows.{rows_of}
use Rattle.graph_model.specs.Keys.{rows_at}
use Rattle.graph_model.specs.Graph.{GraphData}
pub use Rattle.graph_model.specs.Columns.{place_in, source_places, destination_places, value_at, vertex_prop_values, edge_prop_values, prop_kind, vertex_prop_kind, edge_prop_kind}
use Rattle.graph_slots.specs.declared.slot.SlotName.{SlotName}
use Rattle.graph_slots.specs.declared.slot.SlotName.TheVariants.{VertexKey, VertexProp, EdgeKey, Source, Destination, Out, Into, EdgeProp}
use Rattle.graph_slots.specs.declared.part.Part.{Part}
use Rattle.graph_slots.specs.declared.part.Part.TheVariants.{Cells, Rows}

-- a column of these values
abbrev pub cells : Kind → List Value → Part
cells k values = Cells (record { kind = k; values = values })

-- keys are a column of LONGs
abbrev pub longs : List ℤ → Part
longs ks = cells kind.Long (map Long ks)

-- places are a column of INTEGERs
abbrev pub places : List ℕ → Part
places ns = cells kind.Integer (map (λ n. Integer (pos n)) ns)

-- row i lists the edges whose end is at place i
abbrev pub edge_rows : List ℕ → Part
edge_rows ends = Rows (rows_of ends)

-- what a slot holds in a graph
abbrev pub slot_value : GraphData → SlotName → Part
slot_value g (VertexKey t) = longs (map (λ r. r.key) (rows_at g.vertices t))
slot_value g (VertexProp t p) = cells (vertex_prop_kind g.schema t p) (vertex_prop_values g t p)
slot_value g (EdgeKey t) = longs (map (λ r. r.key) (rows_at g.edges t))
slot_value g (Source t) = places (source_places g t)
slot_value g (Destination t) = places (destination_places g t)
slot_value g (Out t) = edge_rows (source_places g t)
slot_value g (Into t) = edge_rows (destination_places g t)
slot_value g (EdgeProp t p) = cells (edge_prop_kind g.schema t p) (edge_prop_values g t p)
