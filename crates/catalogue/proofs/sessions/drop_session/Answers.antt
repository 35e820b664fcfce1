use Rattle.std.proofs.Common.{◌≡◌, ◌∙◌, arith, sym, ap, Some}
use Rattle.std.specs.Prelude.{position}
use Rattle.std.proofs.lemmas.Option.{get_or_from_slice_get}
use Rattle.catalogue_state.specs.State.{of_who}
use Rattle.catalogue.proofs.Places.{none_found, none_dropped, some_found, some_dropped, some_within}
use Rattle.catalogue.proofs.sessions.drop_session.Goals as goal

pub overflow_cast-place : goal.overflow_cast-place
overflow_cast-place c =
    let at : position (of_who c.args.who) c.args.sessions.now ≡ Some c.in-Some.place = ap (position (of_who c.args.who)) (sym c.as_slice.ensures) ∙ sym c.session_place.ensures ∙ c.in-Some.is in
    let within = some_within (of_who c.args.who) c.args.sessions.now c.in-Some.place at in
    omega arith

pub returns-in-Some-clause-session : goal.returns-in-Some-clause-session
returns-in-Some-clause-session c =
    let p = of_who c.args.who in
    let at : position p c.args.sessions.now ≡ Some c.in-Some.place = ap (position p) (sym c.as_slice.ensures) ∙ sym c.session_place.ensures ∙ c.in-Some.is in
    sym (some_found p c.args.sessions.now c.in-Some.place c.remove.result at ∙ ap Some (get_or_from_slice_get c.args.sessions.now c.in-Some.place c.remove.result c.remove.result c.remove.ensures.item))

pub returns-in-Some-clause-rest : goal.returns-in-Some-clause-rest
returns-in-Some-clause-rest c =
    let at : position (of_who c.args.who) c.args.sessions.now ≡ Some c.in-Some.place = ap (position (of_who c.args.who)) (sym c.as_slice.ensures) ∙ sym c.session_place.ensures ∙ c.in-Some.is in
    c.remove.ensures.rest ∙ sym (some_dropped (of_who c.args.who) c.args.sessions.now c.in-Some.place c.remove.result at)

pub returns-in-None-clause-session : goal.returns-in-None-clause-session
returns-in-None-clause-session c =
    sym (none_found (of_who c.args.who) c.args.sessions.now (ap (position (of_who c.args.who)) (sym c.as_slice.ensures) ∙ sym c.session_place.ensures ∙ c.in-None.is))

pub returns-in-None-clause-rest : goal.returns-in-None-clause-rest
returns-in-None-clause-rest c =
    none_dropped (of_who c.args.who) c.args.sessions.now (ap (position (of_who c.args.who)) (sym c.as_slice.ensures) ∙ sym c.session_place.ensures ∙ c.in-None.is)
