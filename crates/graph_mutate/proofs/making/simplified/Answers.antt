use Rattle.std.proofs.Common.{refl, ◌∙◌}
use Rattle.graph_model.specs.Graph.{GraphData, IsGraph}
use Rattle.graph_mutate.specs.Simplified.{simplified}
use Rattle.graph_mutate.specs.Mutated.{of_vertex_table}
use Rattle.graph_mutate.specs.declared.mutation.Mutation.TheVariants.{Simplify}
use Rattle.graph_mutate.proofs.Simple.{simplified_is}
use Rattle.graph_mutate.proofs.NewTables.{edges_change}
use Rattle.graph_mutate.proofs.Deriving.{Changes, derived_known, derived_stands, answers_mutated}
use Rattle.graph_mutate.proofs.making.simplified.Goals as goal

changes : (g : GraphData) → IsGraph g → Changes g (simplified g) of_vertex_table
changes g is = edges_change g (simplified g).edges (simplified_is g is)

pub derive-requires-clause-known : goal.derive-requires-clause-known
derive-requires-clause-known g c =
    let base = c.args.base.now in
    derived_known base (simplified base) of_vertex_table c.in_ok-derived.derived (changes base c.sound.ensures) c.in_ok-derived.ensures.slots

pub derive-requires-clause-stands : goal.derive-requires-clause-stands
derive-requires-clause-stands g c =
    let base = c.args.base.now in
    derived_stands base (simplified base) of_vertex_table c.in_ok-clone.field-0 c.in_ok-derived.derived (changes base c.sound.ensures) (c.in_ok-clone.ensures.cases ∙ c.schema.ensures) c.in_ok-derived.ensures.slots

pub returns-clause-answer : goal.returns-clause-answer
returns-clause-answer g c =
    let base = c.args.base.now in
    answers_mutated Simplify base c.in_ok-clone.field-0 c.in_ok-derived.derived c.derive.result refl (changes base c.sound.ensures)
    (c.in_ok-clone.ensures.cases ∙ c.schema.ensures) c.in_ok-derived.ensures.slots c.derive.ensures.shot c.derive.ensures.kept c.derive.ensures.skipped
