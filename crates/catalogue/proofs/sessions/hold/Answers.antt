use Rattle.std.proofs.Common.{◌≡◌, ◌∙◌, sym, ap, Some, List, get_or}
use Rattle.std.specs.Prelude.{position}
use Rattle.std.proofs.lemmas.Result.{on_ok_weaker}
use Rattle.catalogue_state.specs.declared.parts.Session.{Session}
use Rattle.catalogue_state.specs.declared.parts.Held.{Held}
use Rattle.catalogue_state.specs.State.{of_who}
use Rattle.catalogue_state.specs.Step.{hold_more}
use Rattle.catalogue.proofs.Places.{none_changed, lent_changed}
use Rattle.catalogue.proofs.sessions.hold.Goals as goal

pub returns-in-Some-clause-ok : goal.returns-in-Some-clause-ok
returns-in-Some-clause-ok c =
    let ss = c.args.sessions.now in
    let p = of_who c.args.who in
    let i = c.in-Some.place in
    let d = c.index-as_mut_slice-place.result in
    let lent = c.as_mut_slice.ensures.value in
    let at : position p ss ≡ Some i = ap (position p) (sym c.as_slice.ensures) ∙ sym c.session_place.ensures ∙ c.in-Some.is in
    let ws = c.as_mut_slice.result.now in
    on_ok_weaker c.push.result (λ pushed. lent_changed p (hold_more c.args.held) ss ws i d (record (get_or ws i d) { held = c.push.new.self }) lent at
    (ap (λ (l : List Held). record (get_or ws i d) { held = l }) pushed ∙ ap (λ (l : List Session). hold_more c.args.held (get_or l i d)) lent)) c.push.ensures.ok

pub returns-in-None-clause-ok : goal.returns-in-None-clause-ok
returns-in-None-clause-ok c =
    let p = of_who c.args.who in
    none_changed p (hold_more c.args.held) c.args.sessions.now (ap (position p) (sym c.as_slice.ensures) ∙ sym c.session_place.ensures ∙ c.in-None.is)
