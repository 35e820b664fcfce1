-- The slots of a graph with what they hold, as its columns give them.
use Rattle.std.specs.Prelude.{ℕ, ◌+◌, ℤ, List, [], ◌∷◌, ◌++◌, length}
use Rattle.column_types.specs.Column.{ColumnData}
use Rattle.graph_schema.specs.Schema.{SchemaData}
use Rattle.graph_model.specs.declared.columns.VertexColumns.{VertexColumns}
use Rattle.graph_model.specs.declared.columns.EdgeColumns.{EdgeColumns}
use Rattle.graph_slots.specs.declared.slot.SlotName.{SlotName}
use Rattle.graph_slots.specs.declared.slot.SlotName.TheVariants.{VertexKey, VertexProp, EdgeKey, Source, Destination, Out, Into, EdgeProp}
use Rattle.graph_slots.specs.declared.part.Part.{Part}
use Rattle.graph_slots.specs.declared.part.Part.TheVariants.{Cells}
use Rattle.graph_model.specs.Graph.{GraphData}
use Rattle.graph_slots.specs.Meaning.{longs, edge_rows, slot_value}
use Rattle.graph_slots.specs.Numbers.{slot_number}
use Rattle.graph_columns.specs.TableParts.{integers, places_told}
use Rattle.graph_snap.specs.declared.derived.Derived.{Derived}
use Rattle.delta_fold.specs.declared.marks.Marks.{Marks}
use Rattle.delta_fold.specs.declared.slots.TableName.{TableName}
use Rattle.delta_fold.specs.declared.slots.TableName.TheVariants.{Vertices, Edges}
use Rattle.delta_fold.specs.Marked.{is_marked}
use Rattle.delta_fold.specs.Folded.{derived_if}
use Rattle.delta_fold.specs.Steps.{steps_if}

-- a slot, the part that it holds in the new graph, and how many steps it takes to make it
pub record Piece : Type 0 where
  pub name : SlotName
  pub part : Part
  pub steps : ℕ

-- the slot of a property of a table
abbrev pub prop_slot_of : TableName → ℕ → SlotName
prop_slot_of (Vertices t) p = VertexProp t p
prop_slot_of (Edges t) p = EdgeProp t p

-- the pieces of a table's properties, the first of which is the p-th
abbrev pub prop_pieces : (ℕ → SlotName) → ℕ → List ColumnData → List Piece
prop_pieces name p [] = []
prop_pieces name p (c ∷ cs) = record { name = name p; part = Cells c; steps = length c.values } ∷ prop_pieces name (p + 1) cs

-- the pieces of the t-th vertex table
abbrev pub vertex_pieces : ℕ → VertexColumns → List Piece
vertex_pieces t c = record { name = VertexKey t; part = longs c.keys; steps = length c.keys } ∷ prop_pieces (prop_slot_of (Vertices t)) 0 c.values

-- the pieces of the places where the edges of a table start and end
abbrev pub end_pieces : ℕ → List ℤ → List ℤ → List Piece
end_pieces t sources destinations =
    record { name = Source t; part = integers sources; steps = length sources }
    ∷ record { name = Destination t; part = integers destinations; steps = length destinations }
    ∷ record { name = Out t; part = edge_rows (places_told sources); steps = length sources }
    ∷ record { name = Into t; part = edge_rows (places_told destinations); steps = length destinations }
    ∷ []

-- the pieces of the t-th edge table
abbrev pub edge_pieces : ℕ → EdgeColumns → List Piece
edge_pieces t c =
    record { name = EdgeKey t; part = longs c.keys; steps = length c.keys }
    ∷ end_pieces t c.sources c.destinations ++ prop_pieces (prop_slot_of (Edges t)) 0 c.values

-- the pieces of vertex tables, and of edge tables, the first of which is the t-th
abbrev pub vertex_pieces_from : ℕ → List VertexColumns → List Piece
vertex_pieces_from t [] = []
vertex_pieces_from t (c ∷ cs) = vertex_pieces t c ++ vertex_pieces_from (t + 1) cs

abbrev pub edge_pieces_from : ℕ → List EdgeColumns → List Piece
edge_pieces_from t [] = []
edge_pieces_from t (c ∷ cs) = edge_pieces t c ++ edge_pieces_from (t + 1) cs

-- a new part where the slot is marked, and the base's part where it is not
abbrev pub picked : SchemaData → Marks → Piece → Derived
picked s m piece = derived_if (is_marked s m piece.name) piece.part (slot_number s piece.name)

-- and the steps that this takes
abbrev pub picked_steps : SchemaData → Marks → Piece → ℕ
picked_steps s m piece = steps_if (is_marked s m piece.name) piece.steps

-- what a slot of a graph of the schema holds where it is marked, and the base's part of the same number where it is not
abbrev pub derived_slot : SchemaData → GraphData → Marks → SlotName → Derived
derived_slot s g m x = derived_if (is_marked s m x) (slot_value g x) (slot_number s x)
