use Rattle.std.proofs.Common.{◌≡◌, map, drop}
use Rattle.pgql_ast.specs.Same.{same_tree, same_list, same_pairs}
use Rattle.pgql_ast.proofs.same.+same.Given as goal

abbrev pub invariant-is_same_list-loop-i : goal.invariant-is_same_list-loop-i
invariant-is_same_list-loop-i l = same_list (map same_tree l.a) l.b ≡ same_list (map same_tree (drop l.i l.a)) (drop l.i l.b)

abbrev pub invariant-is_same_pairs-loop-i : goal.invariant-is_same_pairs-loop-i
invariant-is_same_pairs-loop-i l = same_pairs (map (λ p. (p.0, same_tree p.1)) l.a) l.b ≡ same_pairs (map (λ p. (p.0, same_tree p.1)) (drop l.i l.a)) (drop l.i l.b)
