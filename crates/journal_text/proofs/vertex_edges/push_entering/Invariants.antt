use Rattle.std.proofs.Common.{◌≡◌, ◌++◌}
use Rattle.std.specs.List.{flat_map, range_with_len}
use Rattle.journal_text.specs.Ends.{entering_in}
use Rattle.journal_text.specs.Graphs.{spaced_number}
use Rattle.journal_text.proofs.vertex_edges.push_entering.Given as goal

abbrev pub invariant-loop-table : goal.invariant-loop-table
invariant-loop-table l = l.out ≡ l.fn.out ++ flat_map spaced_number (flat_map (entering_in l.on l.at.table l.key) (range_with_len 0 l.table))
