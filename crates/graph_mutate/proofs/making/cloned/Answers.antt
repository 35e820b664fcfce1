use Rattle.std.proofs.Common.{Some, refl, ◌∙◌}
use Rattle.graph_mutate.specs.declared.mutation.Mutation.TheVariants.{Clone}
use Rattle.graph_mutate.proofs.Cloned.{clone_changes}
use Rattle.graph_mutate.proofs.Deriving.{derived_known, derived_stands, answers_mutated}
use Rattle.graph_mutate.proofs.making.cloned.Goals as goal

pub derive-requires-clause-known : goal.derive-requires-clause-known
derive-requires-clause-known c =
    let g = c.args.base.now in
    derived_known g g (λ x. Some x) c.in_ok-derived.derived (clone_changes g c.sound.ensures) c.in_ok-derived.ensures

pub derive-requires-clause-stands : goal.derive-requires-clause-stands
derive-requires-clause-stands c =
    let g = c.args.base.now in
    derived_stands g g (λ x. Some x) c.in_ok-clone.field-0 c.in_ok-derived.derived (clone_changes g c.sound.ensures) (c.in_ok-clone.ensures.cases ∙ c.schema.ensures) c.in_ok-derived.ensures

pub returns-clause-answer : goal.returns-clause-answer
returns-clause-answer c =
    let g = c.args.base.now in
    answers_mutated Clone g c.in_ok-clone.field-0 c.in_ok-derived.derived c.derive.result refl (clone_changes g c.sound.ensures) (c.in_ok-clone.ensures.cases ∙ c.schema.ensures) c.in_ok-derived.ensures c.derive.ensures.shot c.derive.ensures.kept c.derive.ensures.skipped
