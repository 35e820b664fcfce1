use Rattle.std.proofs.Common.{◌≡◌, ◌++◌, length}
use Rattle.delta_fold.specs.Pieces.{edge_pieces_from}
use Rattle.delta_fold.proofs.PieceLists.{Appended}
use Rattle.delta_fold.proofs.slots.push_edge_tables.Given as goal

abbrev pub invariant-loop-columns : goal.invariant-loop-columns
invariant-loop-columns g l = record {
  whole : l.yielded ++ l.columns-iterator.rest.items ≡ l.fn.tables;
  table : l.table ≡ length l.yielded;
  done : Appended l.base.schema l.marks (edge_pieces_from 0 l.yielded) l.fn.derived l.derived l.fn.steps l.steps;
}
