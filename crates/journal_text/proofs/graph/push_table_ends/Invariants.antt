use Rattle.std.proofs.Common.{◌≡◌, ◌++◌, take}
use Rattle.std.specs.List.{flat_map}
use Rattle.graph_model.specs.Keys.{rows_at}
use Rattle.journal_text.specs.Graphs.{ends_of_vertex}
use Rattle.journal_text.proofs.graph.push_table_ends.Given as goal

abbrev pub invariant-loop-place : goal.invariant-loop-place
invariant-loop-place l = l.out ≡ l.fn.out ++ flat_map (ends_of_vertex l.on (l.table, l.shape)) (take l.place (rows_at l.on.vertices l.table))
