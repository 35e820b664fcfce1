use Rattle.std.proofs.Common.{◌≡◌, map}
use Rattle.graph_model.specs.FromRows.{FitEach, edge_put, made}
use Rattle.graph_model.proofs.from_rows.put_edge_rows.Given as goal

abbrev pub invariant-loop-row : goal.invariant-loop-row
invariant-loop-row l = record {
  fit : FitEach l.graph (map (edge_put l.table) l.row-iterator.rest.items);
  all : made l.graph (map (edge_put l.table) l.row-iterator.rest.items) ≡ made l.fn.graph (map (edge_put l.table) l.fn.rows);
}
