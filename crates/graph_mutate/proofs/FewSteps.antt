-- no more steps than rows of slots that count as new
use Rattle.std.proofs.Common.{◌≤◌, Option, Some, None, arith}
use Rattle.graph_model.specs.Graph.{GraphData}
use Rattle.graph_slots.specs.declared.slot.SlotName.{SlotName}
use Rattle.graph_slots.specs.Slots.{slots}
use Rattle.graph_columns.specs.SlotSteps.{slot_steps}
use Rattle.graph_mutate.specs.declared.mutation.Mutation.{Mutation}
use Rattle.graph_mutate.specs.declared.mutation.Mutation.TheVariants.{Clone, Transpose, Undirect, Simplify, SortByDegree}
use Rattle.graph_mutate.specs.Mutated.{mutated}
use Rattle.graph_mutate.specs.Steps.{of_edges_alone, steps_unless_kept, new_steps, most_steps}
use Rattle.graph_mutate.proofs.Sums.{sum_at_most}

at_most_rows : (g : GraphData) (x : SlotName) (o : Option SlotName) → steps_unless_kept g x o ≤ slot_steps g x
at_most_rows g x None = omega arith
at_most_rows g x (Some y) = omega arith

pub few_steps : (how : Mutation) (g : GraphData) → new_steps how g ≤ most_steps how g
few_steps Clone g = omega arith
few_steps Transpose g = omega arith
few_steps Undirect g = omega arith
few_steps Simplify g = omega arith
few_steps SortByDegree g = sum_at_most (λ x. steps_unless_kept (mutated SortByDegree g) x (of_edges_alone x)) (slot_steps (mutated SortByDegree g)) (slots g.schema) (λ x. at_most_rows (mutated SortByDegree g) x (of_edges_alone x))
