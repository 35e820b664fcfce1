-- the slots of vertex tables in another order
use Rattle.std.proofs.Common.{◌≡◌, ℕ, List, map, ap, sym, ◌∙◌}
use Rattle.column_types.specs.Column.{ColumnData}
use Rattle.column_types.specs.declared.kind.Kind.TheVariants as kind
use Rattle.column_types.specs.declared.value.Value.TheVariants.{Long}
use Rattle.graph_model.specs.Graph.{GraphData}
use Rattle.graph_slots.specs.declared.part.Part.{Part}
use Rattle.graph_slots.specs.declared.part.Part.TheVariants.{Cells}
use Rattle.graph_slots.specs.declared.slot.SlotName.TheVariants.{VertexKey, VertexProp}
use Rattle.graph_slots.specs.Meaning.{slot_value, cells, vertex_prop_kind, vertex_prop_values}
use Rattle.graph_columns.specs.Keys.{vertex_keys_at}
use Rattle.graph_snap.proofs.Readers.{same_cells}
use Rattle.graph_mutate.specs.Taken.{taken}
use Rattle.graph_mutate.specs.VertexTables.{taken_keys, taken_values}
use Rattle.graph_mutate.proofs.Gathering.{map-taken}

pub keys_taken : (g : GraphData) (t : ℕ) (order : List ℕ) (c : ColumnData) (part : Part) → slot_value g (VertexKey t) ≡ Cells c → part ≡ Cells (record { kind = c.kind; values = taken c.values order }) → part ≡ taken_keys g t order
keys_taken g t order c part is made =
    let same = same_cells (record { kind = kind.Long; values = map Long (vertex_keys_at g t) }) c is in
    made ∙ ap (λ (d : ColumnData). cells d.kind (taken d.values order)) (sym same) ∙ ap (cells kind.Long) (sym (map-taken Long (vertex_keys_at g t) order))

pub values_taken : (g : GraphData) (t p : ℕ) (order : List ℕ) (c : ColumnData) (part : Part) → slot_value g (VertexProp t p) ≡ Cells c → part ≡ Cells (record { kind = c.kind; values = taken c.values order }) → part ≡ taken_values g t order p
values_taken g t p order c part is made =
    let same = same_cells (record { kind = vertex_prop_kind g.schema t p; values = vertex_prop_values g t p }) c is in
    made ∙ ap (λ (d : ColumnData). cells d.kind (taken d.values order)) (sym same)
