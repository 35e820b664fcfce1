use Rattle.pgql_ast.proofs.Apart.{same_tree-decides}
use Rattle.pgql_ast.proofs.laws.same_trees_are_equal_without_places.Goals as goal

pub returns : goal.returns
returns c a b = same_tree-decides a b
