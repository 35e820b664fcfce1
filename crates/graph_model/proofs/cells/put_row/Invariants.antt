use Rattle.std.proofs.Common.{◌≡◌, ◌++◌, length, take}
use Rattle.std.specs.List.{AllZip}
use Rattle.graph_model.specs.Seats.{HasRow, KeepsBelow}
use Rattle.graph_model.proofs.cells.put_row.Given as goal

abbrev pub invariant-loop-value : goal.invariant-loop-value
invariant-loop-value l = record {
  whole : l.yielded ++ l.value-iterator.rest.items ≡ l.fn.values;
  at : l.column ≡ length l.yielded;
  kept : AllZip (KeepsBelow l.place) l.fn.columns l.columns;
  put : HasRow l.place (take (length l.yielded) l.columns) l.yielded;
}
