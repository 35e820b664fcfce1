use Rattle.std.proofs.Common.{◌≡◌, None, map, take}
use Rattle.graph_slots.specs.Slots.{slots}
use Rattle.graph_mutate.proofs.making.none_kept.Given as goal

abbrev pub invariant-loop-slot : goal.invariant-loop-slot
invariant-loop-slot l = l.kept ≡ map (λ _. None) (take l._slot (slots l.base.schema))
