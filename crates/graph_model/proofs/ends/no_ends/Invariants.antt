use Rattle.std.proofs.Common.{◌≡◌, [], replicate}
use Rattle.graph_model.proofs.ends.no_ends.Given as goal

abbrev pub invariant-loop-i : goal.invariant-loop-i
invariant-loop-i l = l.lists ≡ replicate l._i []
