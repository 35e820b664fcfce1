-- What the slots of a changed graph hold, and which of the base's slots they keep.
use Rattle.std.specs.Prelude.{List, map, Option, Some, None}
use Rattle.graph_model.specs.Graph.{GraphData}
use Rattle.graph_slots.specs.declared.slot.SlotName.{SlotName}
use Rattle.graph_slots.specs.Meaning.{slot_value}
use Rattle.graph_slots.specs.Numbers.{slot_number}
use Rattle.graph_snap.specs.declared.derived.Derived.{Derived}
use Rattle.graph_snap.specs.declared.derived.Derived.TheVariants.{Kept, New}

-- a slot of the new graph holds the part of a slot of the base, or a part of its own
abbrev pub derived_slot : GraphData → GraphData → Option SlotName → SlotName → Derived
derived_slot base new (Some kept) x = Kept (slot_number base.schema kept)
derived_slot base new None x = New (slot_value new x)

-- the same for each slot of a list. `from` tells for a slot the base's slot that it keeps
abbrev pub derived_slots : GraphData → GraphData → (SlotName → Option SlotName) → List SlotName → List Derived
derived_slots base new from names = map (λ x. derived_slot base new (from x) x) names
