use Rattle.std.proofs.Common.{◌≡◌, ◌∙◌, sym, ap, Some, List, get_or}
use Rattle.std.specs.Prelude.{position, option_map}
use Rattle.catalogue_state.specs.declared.parts.Snap.{Snap}
use Rattle.catalogue_state.specs.declared.parts.Held.{Held}
use Rattle.catalogue_state.specs.State.{named}
use Rattle.catalogue_state.specs.Step.{to_snap}
use Rattle.catalogue.proofs.Places.{none_found, none_changed, lent_changed, some_found}
use Rattle.catalogue.proofs.sessions.move_held.Goals as goal

pub returns-in-Some-clause-old : goal.returns-in-Some-clause-old
returns-in-Some-clause-old c =
    let hs = c.args.held.now in
    let p = named c.args.name.now in
    let i = c.in-Some.place in
    let d = c.index-as_mut_slice-place.result in
    let lent = c.as_mut_slice.ensures.value in
    let at : position p hs ≡ Some i = ap (position p) (sym c.as_slice.ensures) ∙ sym c.held_place.ensures ∙ c.in-Some.is in
    ap Some c.replace.ensures.value ∙ ap (λ (l : List Held). Some (get_or l i d).snap) lent ∙ sym (ap (option_map (λ (h : Held). h.snap)) (some_found p hs i d at))

pub returns-in-Some-clause-new : goal.returns-in-Some-clause-new
returns-in-Some-clause-new c =
    let hs = c.args.held.now in
    let p = named c.args.name.now in
    let i = c.in-Some.place in
    let d = c.index-as_mut_slice-place.result in
    let f = to_snap c.args.snap in
    let lent = c.as_mut_slice.ensures.value in
    let at : position p hs ≡ Some i = ap (position p) (sym c.as_slice.ensures) ∙ sym c.held_place.ensures ∙ c.in-Some.is in
    let ws = c.as_mut_slice.result.now in
    lent_changed p f hs ws i d (to_snap c.replace.new.dest (get_or ws i d)) lent at
    (ap (λ (b : Snap). to_snap b (get_or ws i d)) c.replace.ensures.after ∙ ap (λ (l : List Held). f (get_or l i d)) lent)

pub returns-in-None-clause-old : goal.returns-in-None-clause-old
returns-in-None-clause-old c =
    let p = named c.args.name.now in
    sym (ap (option_map (λ (h : Held). h.snap)) (none_found p c.args.held.now (ap (position p) (sym c.as_slice.ensures) ∙ sym c.held_place.ensures ∙ c.in-None.is)))

pub returns-in-None-clause-new : goal.returns-in-None-clause-new
returns-in-None-clause-new c =
    let p = named c.args.name.now in
    none_changed p (to_snap c.args.snap) c.args.held.now (ap (position p) (sym c.as_slice.ensures) ∙ sym c.held_place.ensures ∙ c.in-None.is)
