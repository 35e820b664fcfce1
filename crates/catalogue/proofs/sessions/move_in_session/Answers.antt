use Rattle.std.proofs.Common.{◌≡◌, ◌∙◌, sym, ap, Some, Option, List, get_or}
use Rattle.std.specs.Prelude.{position, option_map, option_and_then}
use Rattle.catalogue_state.specs.declared.parts.Session.{Session}
use Rattle.catalogue_state.specs.declared.parts.Held.{Held}
use Rattle.catalogue_state.specs.State.{of_who, held_of}
use Rattle.catalogue_state.specs.Step.{move_to}
use Rattle.catalogue.proofs.Places.{none_found, none_changed, lent_changed, some_found}
use Rattle.catalogue.proofs.sessions.move_in_session.Goals as goal

pub returns-in-Some-clause-old : goal.returns-in-Some-clause-old
returns-in-Some-clause-old c =
    let ss = c.args.sessions.now in
    let p = of_who c.args.who in
    let i = c.in-Some.place in
    let d = c.index-as_mut_slice-place.result in
    let lent = c.as_mut_slice.ensures.value in
    let at : position p ss ≡ Some i = ap (position p) (sym c.as_slice.ensures) ∙ sym c.session_place.ensures ∙ c.in-Some.is in
    c.move_held.ensures.old ∙ ap (λ (l : List Session). option_map (λ (h : Held). h.snap) (held_of (get_or l i d) c.args.name.now)) lent
    ∙ sym (ap (λ (o : Option Session). option_map (λ (h : Held). h.snap) (option_and_then (λ (s : Session). held_of s c.args.name.now) o)) (some_found p ss i d at))

pub returns-in-Some-clause-new : goal.returns-in-Some-clause-new
returns-in-Some-clause-new c =
    let ss = c.args.sessions.now in
    let p = of_who c.args.who in
    let i = c.in-Some.place in
    let d = c.index-as_mut_slice-place.result in
    let f = move_to c.args.name.now c.args.snap in
    let lent = c.as_mut_slice.ensures.value in
    let ws = c.as_mut_slice.result.now in
    let at : position p ss ≡ Some i = ap (position p) (sym c.as_slice.ensures) ∙ sym c.session_place.ensures ∙ c.in-Some.is in
    lent_changed p f ss ws i d (record (get_or ws i d) { held = c.move_held.new.held }) lent at
    (ap (λ (l : List Held). record (get_or ws i d) { held = l }) c.move_held.ensures.new ∙ ap (λ (l : List Session). f (get_or l i d)) lent)

pub returns-in-None-clause-old : goal.returns-in-None-clause-old
returns-in-None-clause-old c =
    let p = of_who c.args.who in
    sym (ap (λ (o : Option Session). option_map (λ (h : Held). h.snap) (option_and_then (λ (s : Session). held_of s c.args.name.now) o))
    (none_found p c.args.sessions.now (ap (position p) (sym c.as_slice.ensures) ∙ sym c.session_place.ensures ∙ c.in-None.is)))

pub returns-in-None-clause-new : goal.returns-in-None-clause-new
returns-in-None-clause-new c =
    let p = of_who c.args.who in
    none_changed p (move_to c.args.name.now c.args.snap) c.args.sessions.now (ap (position p) (sym c.as_slice.ensures) ∙ sym c.session_place.ensures ∙ c.in-None.is)
