use Rattle.std.proofs.Common.{◌≡◌, ◌∙◌, arith, sym, ap, Some}
use Rattle.std.specs.Prelude.{position}
use Rattle.std.proofs.lemmas.Option.{get_or_from_slice_get}
use Rattle.catalogue_state.specs.State.{named}
use Rattle.catalogue.proofs.Places.{none_found, none_dropped, some_found, some_dropped, some_within}
use Rattle.catalogue.proofs.sessions.drop_held.Goals as goal

pub overflow_cast-place : goal.overflow_cast-place
overflow_cast-place c =
    let at : position (named c.args.name.now) c.args.held.now ≡ Some c.in-Some.place = ap (position (named c.args.name.now)) (sym c.as_slice.ensures) ∙ sym c.held_place.ensures ∙ c.in-Some.is in
    let within = some_within (named c.args.name.now) c.args.held.now c.in-Some.place at in
    omega arith

pub returns-in-Some-clause-graph : goal.returns-in-Some-clause-graph
returns-in-Some-clause-graph c =
    let p = named c.args.name.now in
    let at : position p c.args.held.now ≡ Some c.in-Some.place = ap (position p) (sym c.as_slice.ensures) ∙ sym c.held_place.ensures ∙ c.in-Some.is in
    sym (some_found p c.args.held.now c.in-Some.place c.remove.result at ∙ ap Some (get_or_from_slice_get c.args.held.now c.in-Some.place c.remove.result c.remove.result c.remove.ensures.item))

pub returns-in-Some-clause-rest : goal.returns-in-Some-clause-rest
returns-in-Some-clause-rest c =
    let at : position (named c.args.name.now) c.args.held.now ≡ Some c.in-Some.place = ap (position (named c.args.name.now)) (sym c.as_slice.ensures) ∙ sym c.held_place.ensures ∙ c.in-Some.is in
    c.remove.ensures.rest ∙ sym (some_dropped (named c.args.name.now) c.args.held.now c.in-Some.place c.remove.result at)

pub returns-in-None-clause-graph : goal.returns-in-None-clause-graph
returns-in-None-clause-graph c =
    sym (none_found (named c.args.name.now) c.args.held.now (ap (position (named c.args.name.now)) (sym c.as_slice.ensures) ∙ sym c.held_place.ensures ∙ c.in-None.is))

pub returns-in-None-clause-rest : goal.returns-in-None-clause-rest
returns-in-None-clause-rest c =
    none_dropped (named c.args.name.now) c.args.held.now (ap (position (named c.args.name.now)) (sym c.as_slice.ensures) ∙ sym c.held_place.ensures ∙ c.in-None.is)
