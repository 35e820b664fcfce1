use Rattle.std.proofs.Common.{◌≡◌, ◌≤◌, ◌||◌, take, ap, sym, subst, ◌∙◌, arith, rules, length-take-le}
use Rattle.graph_slots.specs.declared.slot.SlotName.{SlotName}
use Rattle.graph_slots.specs.Touched.{touches}
use Rattle.graph_slots.proofs.More.{schema_stays}
use Rattle.graph_slots.specs.Numbers.{HasSlot}
use Rattle.delta_fold.specs.Marked.{HaveRoom, HasPlace, is_marked}
use Rattle.delta_fold.proofs.Following.{fits_place, follows_fit, follows_misfit, skipped_few}
use Rattle.delta_fold.proofs.applied.apply_all.Goals.{in-Ok, in-Err-Misfit}
use Rattle.delta_fold.proofs.applied.apply_all.Goals as goal

pub mark-requires-clause-place : goal.mark-requires-clause-place
mark-requires-clause-place c =
    let g = c.args.base.now in
    let done = take c.loop-change.change-index c.args.changes.now in
    let same = ap (λ h. h.schema) c.loop-change.invariant.follows.graph_is ∙ schema_stays g done ∙ sym c.schema-in-Ok.ensures in
    subst (λ s. HasPlace s c.change-item.result) same (fits_place c.loop-change.graph c.change-item.result c.in-Ok.ensures.0)

pub overflow_add-skipped : goal.overflow_add-skipped
overflow_add-skipped c =
    let g = c.args.base.now in
    let i = c.loop-change.change-index in
    let long = length-take-le i c.args.changes.now (omega arith) in
    let few : c.loop-change.skipped ≤ i = omega (arith, c.loop-change.invariant.follows.count_is, skipped_few g (take i c.args.changes.now), long) in
    search rules

pub loop-change-preserved : goal.loop-change-preserved
loop-change-preserved c =
    let g = c.args.base.now in
    let changes = c.args.changes.now in
    let i = c.loop-change.change-index in
    let change = c.change-item.result in
    let marks = c.loop-change.marks in
    elim c.match-apply.branch [
      | in-Ok w ↦
          let more = subst (λ s. (x : SlotName) → HasSlot s x → is_marked s w.mark.new.self x ≡ (is_marked s marks x || touches s change x)) w.schema-in-Ok.ensures w.mark.ensures.marks in
          rw (w.marks-is, w.skipped-is)
          (record {
            follows = follows_fit g changes i change c.loop-change.graph c.apply.new.self marks w.mark.new.self c.loop-change.skipped c.loop-change-test.true (sym c.change-item.is) c.loop-change.invariant.follows w.in-Ok.ensures.0 w.in-Ok.ensures.1 more;
            room = subst (λ s. HaveRoom s w.mark.new.self) w.schema-in-Ok.ensures w.mark.ensures.room;
          })
      | in-Err-Misfit w ↦
          let told = rw w.in-Err-Misfit.field-0-is at w.in-Err-Misfit.ensures in
          rw (w.marks-is)
          (record {
            follows = follows_misfit g changes i change c.loop-change.graph c.apply.new.self marks c.loop-change.skipped c.match-apply.skipped w.in-Err-Misfit.field-0-0 c.loop-change-test.true (sym c.change-item.is) c.loop-change.invariant.follows told.0 told.1 w.skipped-is;
            room = c.loop-change.invariant.room;
          })
    ]
