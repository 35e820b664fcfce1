-- A graph with its edges turned round.
use Rattle.std.specs.Prelude.{List, map}
use Rattle.graph_schema.specs.declared.schema.EdgeTable.{EdgeTable}
use Rattle.graph_schema.specs.Schema.{SchemaData}
use Rattle.graph_model.specs.declared.row.EdgeRow.{EdgeRow}
use Rattle.graph_model.specs.Graph.{GraphData}
use Rattle.graph_slots.specs.declared.slot.SlotName.{SlotName}
use Rattle.graph_slots.specs.declared.slot.SlotName.TheVariants.{VertexKey, VertexProp, EdgeKey, Source, Destination, Out, Into, EdgeProp}

-- an edge with its ends swapped
abbrev pub turned_edge : EdgeRow → EdgeRow
turned_edge r = record { key = r.key; source = r.destination; destination = r.source; values = r.values }

-- an edge table with its end tables swapped
abbrev pub turned_table : EdgeTable → EdgeTable
turned_table x = record { name = x.name; source = x.destination; destination = x.source; props = x.props }

abbrev pub turned_rows : List EdgeRow → List EdgeRow
turned_rows rows = map turned_edge rows

abbrev pub turned_schema : SchemaData → SchemaData
turned_schema s = record { keys = s.keys; vertices = s.vertices; edges = map turned_table s.edges }

-- each edge of each table
abbrev pub transposed : GraphData → GraphData
transposed g = record { schema = turned_schema g.schema; vertices = g.vertices; edges = map turned_rows g.edges }

-- the slot of a graph that holds what a slot holds after transposing
abbrev pub turned_slot : SlotName → SlotName
turned_slot (VertexKey t) = VertexKey t
turned_slot (VertexProp t p) = VertexProp t p
turned_slot (EdgeKey t) = EdgeKey t
turned_slot (Source t) = Destination t
turned_slot (Destination t) = Source t
turned_slot (Out t) = Into t
turned_slot (Into t) = Out t
turned_slot (EdgeProp t p) = EdgeProp t p
