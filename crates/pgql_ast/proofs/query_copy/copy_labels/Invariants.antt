use Rattle.std.proofs.Common.{◌≡◌, take}
use Rattle.pgql_ast.proofs.query_copy.copy_labels.Given as goal

abbrev pub invariant-loop-label : goal.invariant-loop-label
invariant-loop-label l = l.all ≡ take l.label-index l.labels
