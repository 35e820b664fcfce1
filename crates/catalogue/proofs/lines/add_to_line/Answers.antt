use Rattle.std.proofs.Common.{◌≡◌, ◌∙◌, List, Some, sym, ap, subst, get_or}
use Rattle.std.specs.Prelude.{position}
use Rattle.std.proofs.lemmas.Result.{IfOk-weaker, on_ok_weaker}
use Rattle.std.proofs.lemmas.List.Elements.{Contains-get_or}
use Rattle.catalogue_state.specs.declared.parts.Line.{Line}
use Rattle.catalogue_state.specs.State.{from_line}
use Rattle.catalogue_state.specs.Step.{with_latest}
use Rattle.catalogue.specs.Kept.{IsShort, gone_of, gone_in}
use Rattle.catalogue.proofs.Places.{none_found, none_changed, lent_changed, some_found, some_within}
use Rattle.catalogue.proofs.lines.add_to_line.Goals as goal

pub add_snap-requires : goal.add_snap-requires
add_snap-requires c =
    let ls = c.args.lines.now in
    let p = from_line c.args.name.now in
    let i = c.in-Some.place in
    let d = c.index-as_mut_slice-place.result in
    let at : position p ls ≡ Some i = ap (position p) (sym c.as_slice.ensures) ∙ sym c.line_place.ensures ∙ c.in-Some.is in
    subst (λ (l : List Line). IsShort (get_or l i d)) (sym c.as_mut_slice.ensures.value) (c.requires (get_or ls i d) (Contains-get_or ls i d (some_within p ls i at)))

pub returns-in-Some-clause-ok : goal.returns-in-Some-clause-ok
returns-in-Some-clause-ok c =
    let ls = c.args.lines.now in
    let p = from_line c.args.name.now in
    let i = c.in-Some.place in
    let d = c.index-as_mut_slice-place.result in
    let f = with_latest c.args.snap in
    let lent = c.as_mut_slice.ensures.value in
    let ws = c.as_mut_slice.result.now in
    let at : position p ls ≡ Some i = ap (position p) (sym c.as_slice.ensures) ∙ sym c.line_place.ensures ∙ c.in-Some.is in
    on_ok_weaker c.add_snap.result (λ ok. lent_changed p f ls ws i d c.add_snap.new.line lent at (ok ∙ ap (λ (l : List Line). f (get_or l i d)) lent)) c.add_snap.ensures.ok

pub returns-in-Some-clause-gone : goal.returns-in-Some-clause-gone
returns-in-Some-clause-gone c =
    let ls = c.args.lines.now in
    let p = from_line c.args.name.now in
    let i = c.in-Some.place in
    let d = c.index-as_mut_slice-place.result in
    let lent = c.as_mut_slice.ensures.value in
    let at : position p ls ≡ Some i = ap (position p) (sym c.as_slice.ensures) ∙ sym c.line_place.ensures ∙ c.in-Some.is in
    IfOk-weaker c.add_snap.result _ _
    (λ gone told. told ∙ ap (λ (l : List Line). gone_of c.args.snap (get_or l i d)) lent ∙ sym (ap (gone_in c.args.snap) (some_found p ls i d at))) c.add_snap.ensures.gone

pub returns-in-None-clause-ok : goal.returns-in-None-clause-ok
returns-in-None-clause-ok c =
    let p = from_line c.args.name.now in
    none_changed p (with_latest c.args.snap) c.args.lines.now (ap (position p) (sym c.as_slice.ensures) ∙ sym c.line_place.ensures ∙ c.in-None.is)

pub returns-in-None-clause-gone : goal.returns-in-None-clause-gone
returns-in-None-clause-gone c =
    let p = from_line c.args.name.now in
    sym (ap (gone_in c.args.snap) (none_found p c.args.lines.now (ap (position p) (sym c.as_slice.ensures) ∙ sym c.line_place.ensures ∙ c.in-None.is)))
