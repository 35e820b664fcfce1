use Rattle.std.proofs.Common.{◌≡◌, map, take}
use Rattle.graph_slots.specs.Slots.{slots}
use Rattle.graph_slots.specs.Meaning.{slot_value}
use Rattle.graph_tries.proofs.snapshot_asked.parts_of.Given as goal

abbrev pub invariant-loop-slot : goal.invariant-loop-slot
invariant-loop-slot l = l.parts ≡ take l.slot (map (slot_value l.on) (slots l.on.schema))
