use Rattle.std.proofs.Common.{◌≡◌, ◌∙◌, sym, ap, Some, List, get_or}
use Rattle.std.specs.Prelude.{position}
use Rattle.catalogue_state.specs.declared.parts.Held.{Held}
use Rattle.catalogue_state.specs.State.{named}
use Rattle.catalogue_state.specs.Step.{to_pin}
use Rattle.catalogue.proofs.Places.{none_changed, lent_changed}
use Rattle.catalogue.proofs.sessions.pin_held.Goals as goal

pub returns-in-Some : goal.returns-in-Some
returns-in-Some c =
    let hs = c.args.held.now in
    let p = named c.args.name.now in
    let i = c.in-Some.place in
    let d = c.index-as_mut_slice-place.result in
    let lent = c.as_mut_slice.ensures.value in
    let at : position p hs ≡ Some i = ap (position p) (sym c.as_slice.ensures) ∙ sym c.held_place.ensures ∙ c.in-Some.is in
    let ws = c.as_mut_slice.result.now in
    lent_changed p (to_pin c.args.line) hs ws i d (to_pin c.args.line (get_or ws i d)) lent at (ap (λ (l : List Held). to_pin c.args.line (get_or l i d)) lent)

pub returns-in_default : goal.returns-in_default
returns-in_default c =
    let p = named c.args.name.now in
    none_changed p (to_pin c.args.line) c.args.held.now (ap (position p) (sym c.as_slice.ensures) ∙ sym c.held_place.ensures ∙ c.in_default.is)
