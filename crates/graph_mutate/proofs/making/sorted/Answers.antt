use Rattle.std.proofs.Common.{ap, refl, ◌∙◌}
use Rattle.graph_slots.specs.Slots.{slots}
use Rattle.graph_model.specs.Graph.{GraphData}
use Rattle.graph_mutate.specs.Sorted.{sorted}
use Rattle.graph_mutate.specs.Steps.{of_edges_alone}
use Rattle.graph_mutate.proofs.SortedTables.{sort_changes}
use Rattle.graph_mutate.proofs.Deriving.{derived_known, derived_stands, derived_is, none_built}
use Rattle.graph_mutate.proofs.making.sorted.Goals as goal

pub derive-requires-clause-known : goal.derive-requires-clause-known
derive-requires-clause-known g c =
    let base = c.args.base.now in
    derived_known base (sorted base) of_edges_alone c.in_ok-derived.derived (sort_changes base c.sound.ensures) c.in_ok-derived.ensures.slots

pub derive-requires-clause-stands : goal.derive-requires-clause-stands
derive-requires-clause-stands g c =
    let base = c.args.base.now in
    derived_stands base (sorted base) of_edges_alone c.in_ok-clone.field-0 c.in_ok-derived.derived (sort_changes base c.sound.ensures) (c.in_ok-clone.ensures.cases ∙ c.schema.ensures) c.in_ok-derived.ensures.slots

pub returns-clause-answer : goal.returns-clause-answer
returns-clause-answer g c =
    let base = c.args.base.now in
    record {
      allowed = refl;
      shot = c.in_ok-built.ensures.shot ∙ derived_is base (sorted base) of_edges_alone c.in_ok-clone.field-0 c.in_ok-derived.derived (sort_changes base c.sound.ensures) (c.in_ok-clone.ensures.cases ∙ c.schema.ensures) c.in_ok-derived.ensures.slots;
      kept = c.in_ok-kept.ensures;
      skipped = refl;
    }

pub returns-clause-shares : goal.returns-clause-shares
returns-clause-shares g c =
    let base = c.args.base.now in
    let shot = c.in_ok-built.ensures.shot ∙ derived_is base (sorted base) of_edges_alone c.in_ok-clone.field-0 c.in_ok-derived.derived (sort_changes base c.sound.ensures) (c.in_ok-clone.ensures.cases ∙ c.schema.ensures) c.in_ok-derived.ensures.slots in
    none_built base _ (ap (λ (h : GraphData). slots h.schema) shot) c.in_ok-kept.ensures
