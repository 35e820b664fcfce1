use Rattle.std.proofs.Common.{◌≡◌, ◌∙◌, sym, ap, Some}
use Rattle.std.specs.Prelude.{position}
use Rattle.std.proofs.lemmas.Option.{get_or_from_slice_get}
use Rattle.catalogue_state.specs.State.{from_line}
use Rattle.catalogue.proofs.Places.{none_found, none_dropped, some_found, some_dropped}
use Rattle.catalogue.proofs.lines.drop_line.Goals as goal

pub returns-in-Some-clause-line : goal.returns-in-Some-clause-line
returns-in-Some-clause-line c =
    let p = from_line c.args.name.now in
    let at : position p c.args.lines.now ≡ Some c.in-Some.place = ap (position p) (sym c.as_slice.ensures) ∙ sym c.line_place.ensures ∙ c.in-Some.is in
    sym (some_found p c.args.lines.now c.in-Some.place c.remove.result at ∙ ap Some (get_or_from_slice_get c.args.lines.now c.in-Some.place c.remove.result c.remove.result c.remove.ensures.item))

pub returns-in-Some-clause-rest : goal.returns-in-Some-clause-rest
returns-in-Some-clause-rest c =
    let p = from_line c.args.name.now in
    let at : position p c.args.lines.now ≡ Some c.in-Some.place = ap (position p) (sym c.as_slice.ensures) ∙ sym c.line_place.ensures ∙ c.in-Some.is in
    c.remove.ensures.rest ∙ sym (some_dropped p c.args.lines.now c.in-Some.place c.remove.result at)

pub returns-in-None-clause-line : goal.returns-in-None-clause-line
returns-in-None-clause-line c =
    let p = from_line c.args.name.now in
    sym (none_found p c.args.lines.now (ap (position p) (sym c.as_slice.ensures) ∙ sym c.line_place.ensures ∙ c.in-None.is))

pub returns-in-None-clause-rest : goal.returns-in-None-clause-rest
returns-in-None-clause-rest c =
    let p = from_line c.args.name.now in
    none_dropped p c.args.lines.now (ap (position p) (sym c.as_slice.ensures) ∙ sym c.line_place.ensures ∙ c.in-None.is)
