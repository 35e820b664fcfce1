use Rattle.std.proofs.Common.{◌≡◌, ◌++◌, take}
use Rattle.std.specs.List.{enumerate_from}
use Rattle.journal_text.specs.Graphs.{by_tables, ends_of_vertex}
use Rattle.journal_text.proofs.graph.push_ends.Given as goal

abbrev pub invariant-loop-table : goal.invariant-loop-table
invariant-loop-table l = l.out ≡ l.fn.out ++ by_tables (ends_of_vertex l.on) (take l.table (enumerate_from 0 l.on.schema.vertices)) l.on.vertices
