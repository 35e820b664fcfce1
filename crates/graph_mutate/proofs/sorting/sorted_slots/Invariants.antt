use Rattle.std.proofs.Common.{◌≡◌, ◌+◌, ◌++◌, take, sum_by}
use Rattle.graph_slots.specs.Slots.{vertex_slots, edge_slots}
use Rattle.graph_mutate.specs.Sorted.{sorted}
use Rattle.graph_mutate.specs.Steps.{of_edges_alone, steps_unless_kept}
use Rattle.graph_mutate.specs.Derives.{derived_slots}
use Rattle.graph_mutate.proofs.sorting.sorted_slots.Given as goal

abbrev pub invariant-loop-table : goal.invariant-loop-table
invariant-loop-table g l = record {
  slots : l.derived ≡ derived_slots l.base (sorted l.base) of_edges_alone (vertex_slots 0 l.base.schema.vertices ++ edge_slots 0 (take l.table l.base.schema.edges));
  counted : l.steps ≡ l.fn.steps + sum_by (λ x. steps_unless_kept (sorted l.base) x (of_edges_alone x)) (vertex_slots 0 l.base.schema.vertices ++ edge_slots 0 (take l.table l.base.schema.edges));
}
