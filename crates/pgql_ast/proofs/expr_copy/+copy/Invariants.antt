use Rattle.std.proofs.Common.{◌≡◌, take}
use Rattle.pgql_ast.proofs.expr_copy.+copy.Given as goal

abbrev pub invariant-copy_list-loop-expr : goal.invariant-copy_list-loop-expr
invariant-copy_list-loop-expr l = l.all ≡ take l.expr-index l.list

abbrev pub invariant-copy_pairs-loop-pair : goal.invariant-copy_pairs-loop-pair
invariant-copy_pairs-loop-pair l = l.all ≡ take l.pair-index l.list
