use Rattle.std.proofs.Common.{◌≡◌, take}
use Rattle.graph_model.specs.Keys.{row_total}
use Rattle.changeset.proofs.base.edge_total.Given as goal

abbrev pub invariant-loop-table : goal.invariant-loop-table
invariant-loop-table l = l.total ≡ row_total (take l.table l.base.edges)
