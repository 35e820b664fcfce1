-- the slots of vertex tables, table by table
use Rattle.std.proofs.Common.{◌≡◌, ℕ, ◌+◌, ◌<◌, List, [], ◌++◌, length, get_or, map, take, refl, ap, sym, ◌∙◌}
use Rattle.std.proofs.lemmas.List.{map-append}
use Rattle.graph_schema.specs.declared.schema.VertexTable.{VertexTable}
use Rattle.graph_schema.specs.Schema.{SchemaData}
use Rattle.graph_slots.specs.declared.slot.SlotName.{SlotName}
use Rattle.graph_slots.specs.Slots.{vertex_slots, vertex_table_slots}
use Rattle.graph_slots.specs.Numbers.{slot_number}
use Rattle.graph_slots.proofs.Order.{vertex_slots_more}
use Rattle.graph_snap.specs.declared.derived.Derived.{Derived}
use Rattle.graph_snap.specs.declared.derived.Derived.TheVariants.{Kept}

pub kept_tables_more : (s : SchemaData) (t : ℕ) (x : VertexTable) (before after : List Derived) → t < length s.vertices → x ≡ get_or s.vertices t x → before ≡ map (λ y. Kept (slot_number s y)) (vertex_slots 0 (take t s.vertices)) → after ≡ before ++ map (λ y. Kept (slot_number s y)) (vertex_table_slots t x) → after ≡ map (λ y. Kept (slot_number s y)) (vertex_slots 0 (take (t + 1) s.vertices))
kept_tables_more s t x before after within is so_far grown =
    let f : SlotName → Derived = λ y. Kept (slot_number s y) in
    let first = vertex_slots 0 (take t s.vertices) in
    grown ∙ ap (λ ds. ds ++ map f (vertex_table_slots t x)) so_far ∙ sym (map-append f first (vertex_table_slots t x))
    ∙ ap (map f) (vertex_slots_more s.vertices t x [] first (first ++ vertex_table_slots t x) within is refl refl)
