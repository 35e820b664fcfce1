use Rattle.std.proofs.Common.{◌≡◌, Bool, true, false, cond, Some, None, ap, refl, ◌∙◌}
use Rattle.graph_model.specs.Graph.{GraphData, IsGraph}
use Rattle.graph_mutate.specs.Undirected.{undirected, mixed_table, keys_are_spent, is_too_big}
use Rattle.graph_mutate.specs.Mutated.{of_vertex_table, fault_of, fault_unless_mixed}
use Rattle.graph_mutate.specs.declared.mutation.Mutation.TheVariants.{Undirect}
use Rattle.graph_mutate.proofs.Reverses.{undirected_is}
use Rattle.graph_mutate.proofs.NewTables.{edges_change}
use Rattle.graph_mutate.proofs.Deriving.{Changes, derived_known, derived_stands, answers_mutated}
use Rattle.graph_mutate.proofs.making.with_reverse_edges.Goals as goal

changes : (g : GraphData) → IsGraph g → mixed_table g ≡ None → is_too_big g ≡ false → Changes g (undirected g) of_vertex_table
changes g is mixed big = edges_change g (undirected g).edges (undirected_is g is mixed big)

pub derive-requires-clause-known : goal.derive-requires-clause-known
derive-requires-clause-known g c =
    let base = c.args.base.now in
    derived_known base (undirected base) of_vertex_table c.in_ok-derived.derived (changes base c.sound.ensures c.requires.mixed c.requires.big) c.in_ok-derived.ensures.slots

pub derive-requires-clause-stands : goal.derive-requires-clause-stands
derive-requires-clause-stands g c =
    let base = c.args.base.now in
    derived_stands base (undirected base) of_vertex_table c.in_ok-clone.field-0 c.in_ok-derived.derived (changes base c.sound.ensures c.requires.mixed c.requires.big) (c.in_ok-clone.ensures.cases ∙ c.schema.ensures) c.in_ok-derived.ensures.slots

no_fault : {A : Type 0} (b c : Bool) (x y : A) → b ≡ false → c ≡ false → cond b (Some x) (cond c (Some y) None) ≡ None
no_fault true c x y e f = cc
no_fault false true x y e f = cc
no_fault false false x y e f = refl

allowed : (g : GraphData) → mixed_table g ≡ None → keys_are_spent g ≡ false → is_too_big g ≡ false → fault_of Undirect g ≡ None
allowed g mixed spent big = ap (λ o. fault_unless_mixed o g) mixed ∙ no_fault (keys_are_spent g) (is_too_big g) _ _ spent big

pub returns-clause-answer : goal.returns-clause-answer
returns-clause-answer g c =
    let base = c.args.base.now in
    answers_mutated Undirect base c.in_ok-clone.field-0 c.in_ok-derived.derived c.derive.result (allowed base c.requires.mixed c.requires.spent c.requires.big) (changes base c.sound.ensures c.requires.mixed c.requires.big)
    (c.in_ok-clone.ensures.cases ∙ c.schema.ensures) c.in_ok-derived.ensures.slots c.derive.ensures.shot c.derive.ensures.kept c.derive.ensures.skipped
