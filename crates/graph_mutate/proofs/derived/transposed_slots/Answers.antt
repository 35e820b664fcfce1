use Rattle.std.proofs.Common.{sym, subst, ap, ◌∙◌}
use Rattle.graph_slots.specs.Slots.{slots}
use Rattle.graph_slots.specs.Numbers.{slot_number, HasSlot}
use Rattle.graph_snap.specs.declared.derived.Derived.TheVariants.{Kept}
use Rattle.graph_snap.proofs.Known.{slot_known, mapped_more}
use Rattle.graph_mutate.specs.Transposed.{turned_slot}
use Rattle.graph_mutate.proofs.Turned.{turned_known}
use Rattle.graph_mutate.proofs.derived.transposed_slots.Goals as goal

pub kept_slot-requires : goal.kept_slot-requires
kept_slot-requires c =
    let s = c.args.base.now.schema in
    subst (HasSlot s) (sym c.turned_slot.ensures) (turned_known s c.slot_name.result (slot_known s c.loop-slot.slot c.slot_name.result c.slot_name.ensures))

pub loop-slot-preserved : goal.loop-slot-preserved
loop-slot-preserved c =
    let s = c.args.base.now.schema in
    mapped_more (λ x. Kept (slot_number s (turned_slot x))) (slots s) c.loop-slot.slot c.slot_name.result c.kept_slot.result c.loop-slot.derived c.push.new.self c.slot_name.ensures
    (c.kept_slot.ensures ∙ ap (λ x. Kept (slot_number s x)) c.turned_slot.ensures) c.loop-slot.invariant c.in_ok-push.ensures.ok
