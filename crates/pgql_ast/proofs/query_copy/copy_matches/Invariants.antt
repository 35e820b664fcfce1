use Rattle.std.proofs.Common.{◌≡◌, take}
use Rattle.pgql_ast.proofs.query_copy.copy_matches.Given as goal

abbrev pub invariant-loop-pattern : goal.invariant-loop-pattern
invariant-loop-pattern l = l.all ≡ take l.pattern-index l.matches
