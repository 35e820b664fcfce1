use Rattle.std.proofs.Common.{◌≡◌, ◌∙◌, sym, ap, Some, List, get_or}
use Rattle.std.specs.Prelude.{position, option_and_then}
use Rattle.std.proofs.lemmas.List.Elements.{Contains-get_or}
use Rattle.catalogue_state.specs.declared.parts.Session.{Session}
use Rattle.catalogue_state.specs.declared.parts.Held.{Held}
use Rattle.catalogue_state.specs.State.{of_who, held_of}
use Rattle.catalogue_state.specs.Step.{let_go}
use Rattle.catalogue.proofs.Places.{none_found, none_changed, lent_changed, some_found, some_within}
use Rattle.catalogue.proofs.sessions.let_go_of.Goals as goal

pub drop_held-requires : goal.drop_held-requires
drop_held-requires c =
    let ss = c.args.sessions.now in
    let p = of_who c.args.who in
    let i = c.in-Some.place in
    let d = c.index-as_mut_slice-place.result in
    let at : position p ss ≡ Some i = ap (position p) (sym c.as_slice.ensures) ∙ sym c.session_place.ensures ∙ c.in-Some.is in
    rw c.as_mut_slice.ensures.value (c.requires (get_or ss i d) (Contains-get_or ss i d (some_within p ss i at)))

pub returns-in-Some-clause-graph : goal.returns-in-Some-clause-graph
returns-in-Some-clause-graph c =
    let ss = c.args.sessions.now in
    let p = of_who c.args.who in
    let i = c.in-Some.place in
    let d = c.index-as_mut_slice-place.result in
    let lent = c.as_mut_slice.ensures.value in
    let at : position p ss ≡ Some i = ap (position p) (sym c.as_slice.ensures) ∙ sym c.session_place.ensures ∙ c.in-Some.is in
    c.drop_held.ensures.graph ∙ ap (λ (l : List Session). held_of (get_or l i d) c.args.name.now) lent
    ∙ sym (ap (option_and_then (λ (s : Session). held_of s c.args.name.now)) (some_found p ss i d at))

pub returns-in-Some-clause-rest : goal.returns-in-Some-clause-rest
returns-in-Some-clause-rest c =
    let ss = c.args.sessions.now in
    let p = of_who c.args.who in
    let i = c.in-Some.place in
    let d = c.index-as_mut_slice-place.result in
    let lent = c.as_mut_slice.ensures.value in
    let ws = c.as_mut_slice.result.now in
    let at : position p ss ≡ Some i = ap (position p) (sym c.as_slice.ensures) ∙ sym c.session_place.ensures ∙ c.in-Some.is in
    lent_changed p (let_go c.args.name.now) ss ws i d (record (get_or ws i d) { held = c.drop_held.new.held }) lent at
    (ap (λ (l : List Held). record (get_or ws i d) { held = l }) c.drop_held.ensures.rest ∙ ap (λ (l : List Session). let_go c.args.name.now (get_or l i d)) lent)

pub returns-in-None-clause-graph : goal.returns-in-None-clause-graph
returns-in-None-clause-graph c =
    let p = of_who c.args.who in
    sym (ap (option_and_then (λ (s : Session). held_of s c.args.name.now)) (none_found p c.args.sessions.now (ap (position p) (sym c.as_slice.ensures) ∙ sym c.session_place.ensures ∙ c.in-None.is)))

pub returns-in-None-clause-rest : goal.returns-in-None-clause-rest
returns-in-None-clause-rest c =
    let p = of_who c.args.who in
    none_changed p (let_go c.args.name.now) c.args.sessions.now (ap (position p) (sym c.as_slice.ensures) ∙ sym c.session_place.ensures ∙ c.in-None.is)
