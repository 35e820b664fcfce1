use Rattle.std.proofs.Common.{◌≡◌, ◌∙◌, sym, ap, Some, set}
use Rattle.std.specs.Prelude.{position}
use Rattle.catalogue.proofs.Places.{none_changed, some_changed}
use Rattle.catalogue_hall.specs.declared.held.Named.{Named}
use Rattle.catalogue_hall.specs.History.{is_named}
use Rattle.catalogue_hall.specs.Told.{with_snap}
use Rattle.catalogue_hall.proofs.effect.move_named.Goals as goal

pub returns-in-Some : goal.returns-in-Some
returns-in-Some c =
    let p = is_named c.args.name.now in
    let xs = c.args.graphs.now.items in
    let i = c.in-Some.place in
    let d = c.index_mut.result.now in
    let at : position p xs ≡ Some i = ap (position p) (sym c.deref.ensures.value) ∙ sym c.place_of.ensures ∙ c.in-Some.is in
    ap (λ (x : Named). set xs i (with_snap c.args.snap x)) c.index_mut.ensures.value ∙ sym (some_changed p (with_snap c.args.snap) xs i d at)

pub returns-in_default : goal.returns-in_default
returns-in_default c =
    let p = is_named c.args.name.now in
    none_changed p (with_snap c.args.snap) c.args.graphs.now.items (ap (position p) (sym c.deref.ensures.value) ∙ sym c.place_of.ensures ∙ c.in_default.is)
