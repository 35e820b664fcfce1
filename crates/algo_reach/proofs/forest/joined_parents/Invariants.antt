use Rattle.algo_reach.proofs.Forests.{HasJoined}
use Rattle.algo_reach.proofs.forest.joined_parents.Given as goal

abbrev pub invariant-loop-v : goal.invariant-loop-v
invariant-loop-v l = HasJoined l.digraph l.v l.parents
