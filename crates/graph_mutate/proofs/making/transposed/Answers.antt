use Rattle.std.proofs.Common.{Some, ap, refl, ◌∙◌}
use Rattle.graph_mutate.specs.Transposed.{transposed, turned_schema, turned_slot}
use Rattle.graph_mutate.specs.declared.mutation.Mutation.TheVariants.{Transpose}
use Rattle.graph_mutate.proofs.Cloned.{transpose_changes}
use Rattle.graph_mutate.proofs.Deriving.{derived_known, derived_stands, answers_mutated}
use Rattle.graph_mutate.proofs.making.transposed.Goals as goal

pub derive-requires-clause-known : goal.derive-requires-clause-known
derive-requires-clause-known c =
    let g = c.args.base.now in
    derived_known g (transposed g) (λ x. Some (turned_slot x)) c.in_ok-derived.derived (transpose_changes g c.sound.ensures) c.in_ok-derived.ensures

pub derive-requires-clause-stands : goal.derive-requires-clause-stands
derive-requires-clause-stands c =
    let g = c.args.base.now in
    derived_stands g (transposed g) (λ x. Some (turned_slot x)) c.in_ok-schema.schema c.in_ok-derived.derived (transpose_changes g c.sound.ensures) (c.in_ok-schema.ensures ∙ ap turned_schema c.schema.ensures) c.in_ok-derived.ensures

pub returns-clause-answer : goal.returns-clause-answer
returns-clause-answer c =
    let g = c.args.base.now in
    answers_mutated Transpose g c.in_ok-schema.schema c.in_ok-derived.derived c.derive.result refl (transpose_changes g c.sound.ensures) (c.in_ok-schema.ensures ∙ ap turned_schema c.schema.ensures) c.in_ok-derived.ensures c.derive.ensures.shot c.derive.ensures.kept c.derive.ensures.skipped
