use Rattle.std.proofs.Common.{◌≡◌, ◌++◌, length}
use Rattle.graph_model.specs.Stored.{table_at}
use Rattle.graph_model.specs.Parts.{AreEach, HasVertexParts}
use Rattle.graph_model.proofs.columns.vertex_columns_of.Given as goal

abbrev pub invariant-loop-table : goal.invariant-loop-table
invariant-loop-table l = record {
  whole : l.yielded ++ l.table-iterator.rest.items ≡ l.fn.tables;
  done : AreEach (λ t c. HasVertexParts (table_at l.fn.tables t) c) (length l.yielded) l.columns;
}
