use Rattle.std.proofs.Common.{◌≤◌, subst, length}
use Rattle.graph_slots.specs.Slots.{slots}
use Rattle.catalogue_state.specs.declared.call.Made.{Made}
use Rattle.catalogue_state.specs.Derived.{IsBuilt, IsDerived}
use Rattle.catalogue.proofs.Derives.{arrives}
use Rattle.catalogue.proofs.catalogue.Catalogue.coming.Goals as goal

pub returns-in_ok-derived-in-Ready-clause-ok : goal.returns-in_ok-derived-in-Ready-clause-ok
returns-in_ok-derived-in-Ready-clause-ok c =
    let m = c.args.self.now in
    let base = c.args.base.now in
    let told = c.in_ok-derived-in-Ready.ensures in
    let limit : length (slots base.shot.schema) ≤ 2208 = subst (λ n. n ≤ 2208) c.slot_count-few.ensures.value c.slot_count-few.ensures.few in
    λ how built.
    let is : IsDerived how base.shot c.in-Ready.built = subst (λ (x : Made). IsBuilt how base.shot x) c.in-Ready.is built in
    arrives m base c.in-Ready.built c.in_ok-derived-in-Ready.field-0 c.requires.root c.sound.ensures.first (c.sound.ensures.numbered base c.requires.root) limit told.snap told.kept told.new how is
