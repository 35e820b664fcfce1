use Rattle.std.proofs.Common.{◌≡◌, ◌++◌, take}
use Rattle.journal_text.specs.Graphs.{by_tables, vertex_line}
use Rattle.journal_text.proofs.graph.push_vertices.Given as goal

abbrev pub invariant-loop-table : goal.invariant-loop-table
invariant-loop-table l = l.out ≡ l.fn.out ++ by_tables vertex_line (take l.table l.on.schema.vertices) l.on.vertices
