use Rattle.std.proofs.Common.{◌≡◌, ◌∙◌, ap, length, arith, subst, sym}
use Rattle.std.specs.Prelude.{Contains}
use Rattle.std.proofs.lemmas.List.FromFn.{length-range_with_len}
use Rattle.graph_slots.specs.Slots.{slots}
use Rattle.catalogue_state.specs.State.{State}
use Rattle.catalogue_state.specs.declared.parts.SourceData.{SourceData}
use Rattle.catalogue.proofs.Numbers.{placed_first}
use Rattle.catalogue.proofs.catalogue.Catalogue.placed.Goals as goal

pub returns-clause-few : goal.returns-clause-few
returns-clause-few c =
    omega (arith, ap length c.in_ok-numbers.ensures, length-range_with_len c.self.inside.next_column c.slot_count-count.result, c.slot_count-count.ensures.few)

pub returns-clause-snap : goal.returns-clause-snap
returns-clause-snap c =
    let from = c.args.from.now in
    let in_ = c.self.inside in
    let m : State = record { sources = in_.sources; lines = in_.lines; sessions = in_.sessions; next_sid = in_.next_sid; next_column = in_.next_column } in
    let visible : from.visible ≡ 0 = c.self.invariant.kept.unfed from (subst (λ (s : State). Contains s.sources from) (sym c.self.view_is) c.requires.from) in
    rw (← c.self.view_is)
    (placed_first m from c.args.front c.in_ok-share.field-0 c.slot_count-count.result c.in_ok-numbers.field-0 (omega (arith, visible, c.requires.front))
    (c.in_ok-share.ensures ∙ ap (λ (d : SourceData). d.opening) c.get.ensures) (c.slot_count-count.ensures.value ∙ ap (λ (d : SourceData). length (slots d.opening.schema)) c.get.ensures) c.in_ok-numbers.ensures)
