use Rattle.std.proofs.Common.{◌≡◌, ◌+◌, ◌≤◌, length}
use Rattle.graph_model.specs.FromRows.{FitEach, edge_put, made, puts}
use Rattle.graph_model.proofs.from_rows.put_edge_tables.Given as goal

abbrev pub invariant-loop-rows : goal.invariant-loop-rows
invariant-loop-rows l = record {
  few : l.table + length l.rows-iterator.rest.items ≤ 32;
  fit : FitEach l.graph (puts edge_put l.table l.rows-iterator.rest.items);
  all : made l.graph (puts edge_put l.table l.rows-iterator.rest.items) ≡ made l.fn.graph (puts edge_put 0 l.fn.tables);
}
