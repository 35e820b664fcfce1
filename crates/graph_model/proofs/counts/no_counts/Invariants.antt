use Rattle.std.proofs.Common.{◌≡◌, [], replicate}
use Rattle.graph_model.proofs.counts.no_counts.Given as goal

abbrev pub invariant-loop-i : goal.invariant-loop-i
invariant-loop-i l = l.lists ≡ replicate l._i []
