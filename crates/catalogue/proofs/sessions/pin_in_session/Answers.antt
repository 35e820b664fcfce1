use Rattle.std.proofs.Common.{◌≡◌, ◌∙◌, sym, ap, Some, List, get_or}
use Rattle.std.specs.Prelude.{position}
use Rattle.catalogue_state.specs.declared.parts.Session.{Session}
use Rattle.catalogue_state.specs.declared.parts.Held.{Held}
use Rattle.catalogue_state.specs.State.{of_who}
use Rattle.catalogue_state.specs.Step.{pin_as}
use Rattle.catalogue.proofs.Places.{none_changed, lent_changed}
use Rattle.catalogue.proofs.sessions.pin_in_session.Goals as goal

pub returns-in-Some : goal.returns-in-Some
returns-in-Some c =
    let ss = c.args.sessions.now in
    let p = of_who c.args.who in
    let i = c.in-Some.place in
    let d = c.index-as_mut_slice-place.result in
    let f = pin_as c.args.name.now c.args.line in
    let lent = c.as_mut_slice.ensures.value in
    let at : position p ss ≡ Some i = ap (position p) (sym c.as_slice.ensures) ∙ sym c.session_place.ensures ∙ c.in-Some.is in
    let ws = c.as_mut_slice.result.now in
    lent_changed p f ss ws i d (record (get_or ws i d) { held = c.pin_held.new.held }) lent at
    (ap (λ (l : List Held). record (get_or ws i d) { held = l }) c.pin_held.ensures ∙ ap (λ (l : List Session). f (get_or l i d)) lent)

pub returns-in_default : goal.returns-in_default
returns-in_default c =
    let p = of_who c.args.who in
    none_changed p (pin_as c.args.name.now c.args.line) c.args.sessions.now (ap (position p) (sym c.as_slice.ensures) ∙ sym c.session_place.ensures ∙ c.in_default.is)
