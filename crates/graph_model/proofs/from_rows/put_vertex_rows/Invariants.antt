use Rattle.std.proofs.Common.{◌≡◌, map}
use Rattle.graph_model.specs.FromRows.{FitEach, vertex_put, made}
use Rattle.graph_model.proofs.from_rows.put_vertex_rows.Given as goal

abbrev pub invariant-loop-row : goal.invariant-loop-row
invariant-loop-row l = record {
  fit : FitEach l.graph (map (vertex_put l.table) l.row-iterator.rest.items);
  all : made l.graph (map (vertex_put l.table) l.row-iterator.rest.items) ≡ made l.fn.graph (map (vertex_put l.table) l.fn.rows);
}
