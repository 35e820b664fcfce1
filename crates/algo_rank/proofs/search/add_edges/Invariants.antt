use Rattle.std.proofs.Common.{◌≡◌, ◌++◌, map}
use Rattle.algo_rank.specs.declared.search.Task.TheVariants.{Follow}
use Rattle.algo_rank.proofs.search.add_edges.Given as goal

abbrev pub invariant-loop-arc : goal.invariant-loop-arc
invariant-loop-arc l = l.tasks.items ≡ l.initial.tasks.items ++ map (λ a. Follow a.vertex) l.yielded
