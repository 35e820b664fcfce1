use Rattle.std.proofs.Common.{◌≡◌, ◌++◌, take}
use Rattle.std.specs.List.{flat_map}
use Rattle.graph_model.specs.Keys.{rows_at}
use Rattle.journal_text.specs.Graphs.{edge_line}
use Rattle.journal_text.proofs.graph.push_edge_rows.Given as goal

abbrev pub invariant-loop-place : goal.invariant-loop-place
invariant-loop-place l = l.out ≡ l.fn.out ++ flat_map (edge_line l.shape) (take l.place (rows_at l.on.edges l.table))
