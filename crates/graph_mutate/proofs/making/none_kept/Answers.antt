use Rattle.std.proofs.Common.{◌<◌, None, length, refl, arith}
use Rattle.graph_slots.specs.Slots.{slots}
use Rattle.graph_columns.proofs.SlotParts.{item_at}
use Rattle.graph_snap.proofs.Known.{mapped_more}
use Rattle.graph_mutate.proofs.making.none_kept.Goals as goal

pub loop-slot-preserved : goal.loop-slot-preserved
loop-slot-preserved c =
    let names = slots c.args.base.now.schema in
    let i = c.loop-slot._slot in
    let within : i < length names = omega (arith, c.loop-slot-test.true, c.slot_count-slot-end.ensures.value) in
    let name = item_at names i within in
    mapped_more (λ _. None) names i name.item None c.loop-slot.kept c.push.new.self name.there refl c.loop-slot.invariant c.in_ok-push.ensures.ok
