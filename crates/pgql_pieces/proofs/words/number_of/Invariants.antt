use Rattle.std.proofs.Common.{◌≡◌, ◌≤◌, min, drop}
use Rattle.pgql_lex.specs.Spelling.{decimal, decimal_from}
use Rattle.pgql_pieces.proofs.words.number_of.Given as goal

abbrev pub invariant-loop-d : goal.invariant-loop-d
invariant-loop-d l = (min (decimal_from l.value (drop l.d-index l.digits)) 9223372036854775808 ≡ min (decimal l.digits) 9223372036854775808) × (l.value ≤ 9223372036854775808)
