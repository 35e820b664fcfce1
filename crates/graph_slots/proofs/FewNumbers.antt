-- numbers of slots are small
use Rattle.std.proofs.Common.{◌<◌, arith}
use Rattle.std.proofs.lemmas.Option.{slice_get_within}
use Rattle.graph_schema.specs.Schema.{SchemaData, IsSchema}
use Rattle.graph_slots.specs.declared.slot.SlotName.{SlotName}
use Rattle.graph_slots.specs.Slots.{slots}
use Rattle.graph_slots.proofs.Few.{slots_few}
use Rattle.graph_slots.specs.Numbers.{slot_number, HasSlot}
use Rattle.graph_slots.proofs.SlotAt.{slot_at}

pub number_few : (s : SchemaData) (x : SlotName) → IsSchema s → HasSlot s x → slot_number s x < 2208
number_few s x is has = omega (arith, slots_few s is, slice_get_within (slots s) (slot_number s x) x (slot_at s x has))
