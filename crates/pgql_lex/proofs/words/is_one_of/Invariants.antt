use Rattle.std.proofs.Common.{◌≡◌, length, map}
use Rattle.pgql_lex.specs.Bytes.{is_one_of}
use Rattle.pgql_lex.proofs.words.is_one_of.Given as goal

abbrev pub invariant-loop-table : goal.invariant-loop-table
invariant-loop-table l = is_one_of (map (λ k. k.now) l.table) l.word ≡ is_one_of (map (λ k. k.now) l.initial.table) l.word

abbrev pub decreases-loop-table : goal.decreases-loop-table
decreases-loop-table l = length l.table
