use Rattle.std.proofs.Common.{length, ap, ◌∙◌, arith}
use Rattle.std.proofs.lemmas.Result.{on_ok_weaker}
use Rattle.graph_slots.specs.declared.slot.SlotName.TheVariants.{Out, Into}
use Rattle.graph_slots.specs.Meaning.{edge_rows}
use Rattle.graph_slots.specs.Numbers.{slot_number}
use Rattle.graph_columns.specs.TableParts.{places_told}
use Rattle.graph_columns.proofs.Pushed.{four_pushed, four_are}
use Rattle.delta_fold.specs.Folded.{derived_if}
use Rattle.delta_fold.specs.Marked.{is_marked}
use Rattle.delta_fold.specs.Steps.{steps_if}
use Rattle.delta_fold.proofs.PieceLists.{four_steps}
use Rattle.delta_fold.proofs.slots.push_ends.Goals as goal

pub returns-clause-slots : goal.returns-clause-slots
returns-clause-slots g c =
    let s = c.args.base.now.schema in
    let m = c.args.marks.now in
    let t = c.args.table in
    let out = c.in_ok-out.ensures.slot ∙ ap (λ ns. derived_if (is_marked s m (Out t)) (edge_rows (places_told ns)) (slot_number s (Out t))) c.as_slice.ensures in
    let into = c.in_ok-into.ensures.slot ∙ ap (λ ns. derived_if (is_marked s m (Into t)) (edge_rows (places_told ns)) (slot_number s (Into t))) c.as_slice-2.ensures in
    on_ok_weaker c.push-4.result
    (λ grown. four_are c.args.derived.now c.push-4.new.self _ _ _ _ _ _ _ _
    (four_pushed c.args.derived.now c.push.new.self c.push-2.new.self c.push-3.new.self c.push-4.new.self _ _ _ _ c.in_ok-push.ensures.ok c.in_ok-push-2.ensures.ok c.in_ok-push-3.ensures.ok grown)
    c.in_ok-place_slot.ensures.slot c.in_ok-place_slot-2.ensures.slot out into)
    c.push-4.ensures.ok

pub returns-clause-counted : goal.returns-clause-counted
returns-clause-counted g c =
    let s = c.args.base.now.schema in
    let m = c.args.marks.now in
    let t = c.args.table in
    let out = ap (λ ns. steps_if (is_marked s m (Out t)) (length ns)) c.as_slice.ensures in
    let into = ap (λ ns. steps_if (is_marked s m (Into t)) (length ns)) c.as_slice-2.ensures in
    on_ok_weaker c.push-4.result
    (λ grown. omega (arith, out, into, c.in_ok-out.ensures.counted, c.in_ok-into.ensures.counted, c.in_ok-place_slot.ensures.counted, c.in_ok-place_slot-2.ensures.counted, four_steps s m t c.args.sources c.args.destinations))
    c.push-4.ensures.ok
