use Rattle.std.proofs.Common.{◌≡◌, ◌++◌, take}
use Rattle.graph_mutate.specs.Taken.{taken}
use Rattle.graph_mutate.proofs.edge_lists.push_ends.Given as goal

abbrev pub invariant-loop-place : goal.invariant-loop-place
invariant-loop-place l = l.ends ≡ l.fn.ends ++ taken l.items (take l.place-index l.places)
