use Rattle.std.proofs.Common.{◌≡◌, take}
use Rattle.graph_model.specs.Keys.{value_total}
use Rattle.graph_model.specs.Graph.{edge_values}
use Rattle.changeset.proofs.base.edge_cells.Given as goal

abbrev pub invariant-loop-table : goal.invariant-loop-table
invariant-loop-table l = l.cells ≡ value_total edge_values (take l.table l.base.edges)
