use Rattle.std.proofs.Common.{◌≡◌, take}
use Rattle.graph_model.specs.Stored.{live_cells}
use Rattle.graph_model.proofs.tables.count_cells.Given as goal

abbrev pub invariant-loop-table : goal.invariant-loop-table
invariant-loop-table l = l.count ≡ live_cells (take l.table-index l.tables)
