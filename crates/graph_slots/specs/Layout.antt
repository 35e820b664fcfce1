-- What a layout keeps beside its schema.
use Rattle.std.specs.Prelude.{◌≡◌, ℕ, List, map, length}
use Rattle.std.specs.List.{range_with_len}
use Rattle.graph_schema.specs.Schema.{SchemaData}
use Rattle.graph_slots.specs.declared.slot.SlotName.{SlotName}
use Rattle.graph_slots.specs.declared.slot.SlotName.TheVariants.{VertexKey, EdgeKey}
use Rattle.graph_slots.specs.Slots.{slots}
use Rattle.graph_slots.specs.Numbers.{slot_number}

-- the names of the slots in slot order, and for each table the number of its first slot, that of its keys
pub record IsLayout (s : SchemaData) (names : List SlotName) (vertex_firsts edge_firsts : List ℕ) : Type 0 where
  pub names_are : names ≡ slots s
  pub vertices_are : vertex_firsts ≡ map (λ t. slot_number s (VertexKey t)) (range_with_len 0 (length s.vertices))
  pub edges_are : edge_firsts ≡ map (λ t. slot_number s (EdgeKey t)) (range_with_len 0 (length s.edges))
