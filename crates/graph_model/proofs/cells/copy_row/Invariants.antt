use Rattle.std.proofs.Common.{◌≡◌, take}
use Rattle.graph_model.specs.Seats.{row_of}
use Rattle.graph_model.proofs.cells.copy_row.Given as goal

abbrev pub invariant-loop-column : goal.invariant-loop-column
invariant-loop-column l = l.values ≡ row_of (take l.column-index l.columns) l.place
