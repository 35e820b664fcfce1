use Rattle.std.proofs.Common.{◌≡◌, take}
use Rattle.graph_model.specs.Keys.{value_total}
use Rattle.graph_model.specs.Graph.{vertex_values}
use Rattle.changeset.proofs.base.vertex_cells.Given as goal

abbrev pub invariant-loop-table : goal.invariant-loop-table
invariant-loop-table l = l.cells ≡ value_total vertex_values (take l.table l.base.vertices)
