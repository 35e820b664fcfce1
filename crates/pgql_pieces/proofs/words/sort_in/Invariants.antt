use Rattle.std.proofs.Common.{◌≡◌, length, map}
use Rattle.pgql_grammar.specs.Pieces.{sort_in}
use Rattle.pgql_pieces.proofs.words.sort_in.Given as goal

abbrev pub invariant-loop-table : goal.invariant-loop-table
invariant-loop-table l = sort_in (map (λ row. (row.0.now, row.1)) l.table) l.word ≡ sort_in (map (λ row. (row.0.now, row.1)) l.initial.table) l.word

abbrev pub decreases-loop-table : goal.decreases-loop-table
decreases-loop-table l = length l.table
