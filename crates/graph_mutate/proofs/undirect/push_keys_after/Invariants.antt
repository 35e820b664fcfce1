use Rattle.std.proofs.Common.{◌≡◌, ◌++◌}
use Rattle.graph_mutate.specs.Undirected.{keys_after}
use Rattle.graph_mutate.proofs.undirect.push_keys_after.Given as goal

abbrev pub invariant-loop-i : goal.invariant-loop-i
invariant-loop-i l = l.keys ≡ l.fn.keys ++ keys_after l.last l.i
