use Rattle.std.proofs.Common.{◌≡◌, map, take}
use Rattle.graph_slots.specs.Slots.{slots}
use Rattle.graph_slots.specs.Numbers.{slot_number}
use Rattle.graph_snap.specs.declared.derived.Derived.TheVariants.{Kept}
use Rattle.graph_mutate.specs.Transposed.{turned_slot}
use Rattle.graph_mutate.proofs.derived.transposed_slots.Given as goal

abbrev pub invariant-loop-slot : goal.invariant-loop-slot
invariant-loop-slot l = l.derived ≡ map (λ x. Kept (slot_number l.base.schema (turned_slot x))) (take l.slot (slots l.base.schema))
