use Rattle.std.proofs.Common.{◌≡◌, take}
use Rattle.pgql_ast.proofs.query_copy.copy_keys.Given as goal

abbrev pub invariant-loop-key : goal.invariant-loop-key
invariant-loop-key l = l.all ≡ take l.key-index l.keys
