use Rattle.std.proofs.Common.{Some, map, ap, sym, ◌∙◌}
use Rattle.graph_slots.specs.Slots.{slots}
use Rattle.graph_slots.specs.Meaning.{slot_value}
use Rattle.graph_snap.proofs.Taken.{taken_more}
use Rattle.graph_tries.proofs.snapshot_asked.parts_of.Goals as goal

pub loop-slot-preserved : goal.loop-slot-preserved
loop-slot-preserved c =
    let g = c.args.on.now in
    taken_more (map (slot_value g) (slots g.schema)) c.loop-slot.slot c.in_ok-part.part _ _ (c.part.ensures ∙ ap Some (sym c.in_ok-part.ensures)) c.loop-slot.invariant c.in_ok-push.ensures.ok
