use Rattle.std.proofs.Common.{◌≡◌, take}
use Rattle.graph_model.specs.Stored.{live_total}
use Rattle.graph_model.proofs.tables.count_rows.Given as goal

abbrev pub invariant-loop-table : goal.invariant-loop-table
invariant-loop-table l = l.count ≡ live_total (take l.table-index l.tables)
