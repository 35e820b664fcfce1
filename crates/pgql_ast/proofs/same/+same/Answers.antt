use Rattle.std.proofs.Common.{sym}
use Rattle.pgql_ast.proofs.Lists.{differ_list, differ_pairs}
use Rattle.pgql_ast.proofs.same.+same.Goals as goal

pub is_same_list-returns-then-a-b : goal.is_same_list-returns-then-a-b
is_same_list-returns-then-a-b t c = sym (differ_list c.args.a.now c.args.b.now c.if-a-b.true)

pub is_same_pairs-returns-then-a-b : goal.is_same_pairs-returns-then-a-b
is_same_pairs-returns-then-a-b t c = sym (differ_pairs c.args.a.now c.args.b.now c.if-a-b.true)
