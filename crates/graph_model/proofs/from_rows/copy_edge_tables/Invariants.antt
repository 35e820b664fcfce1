use Rattle.std.proofs.Common.{◌≡◌, take}
use Rattle.graph_model.proofs.from_rows.copy_edge_tables.Given as goal

abbrev pub invariant-loop-table : goal.invariant-loop-table
invariant-loop-table l = l.tables ≡ take l.table l.graph.edges
