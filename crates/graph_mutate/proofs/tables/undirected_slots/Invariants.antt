use Rattle.std.proofs.Common.{◌≡◌, ◌+◌, ℕ}
use Rattle.graph_mutate.specs.Undirected.{undirected, last_key}
use Rattle.graph_mutate.proofs.NewTables.{SlotsSoFar}
use Rattle.graph_mutate.proofs.tables.undirected_slots.Given as goal

abbrev pub invariant-loop-table : goal.invariant-loop-table
invariant-loop-table g l = record {
  took : ℕ;
  steps_are : l.steps ≡ l.fn.steps + took;
  so_far : SlotsSoFar l.base (undirected l.base).edges l.table l.derived took;
  last : l.last ≡ last_key l.base l.table;
}
