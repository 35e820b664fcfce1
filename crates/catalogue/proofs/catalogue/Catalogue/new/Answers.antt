use Rattle.std.proofs.Common.{subst, length, ◌≤◌}
use Rattle.graph_slots.specs.Slots.{slots}
use Rattle.catalogue_state.specs.declared.parts.SourceData.{SourceData}
use Rattle.catalogue_state.specs.declared.parts.Source.{Source}
use Rattle.catalogue_state.specs.Bound.{unfed}
use Rattle.catalogue_state.proofs.Lists.{each_map}
use Rattle.catalogue.proofs.catalogue.Catalogue.new.Goals as goal

pub returns-clause-small : goal.returns-clause-small
returns-clause-small c =
    let small = rw c.as_slice.ensures at c.in_ok-sources.ensures.small in
    each_map (λ (s : Source). length (slots s.data.opening.schema) ≤ 2208) unfed c.args.sources
    (λ d h. subst (λ (x : SourceData). length (slots x.opening.schema) ≤ 2208) h.2 (small h.0 d h.1))
