use Rattle.algo_reach.specs.Forest.{IsJoining}
use Rattle.algo_reach.proofs.Forests.{HasCome}
use Rattle.algo_reach.proofs.forest.join_targets.Given as goal

abbrev pub invariant-loop-arc : goal.invariant-loop-arc
invariant-loop-arc l = IsJoining l.digraph (HasCome l.yielded l.v) l.initial.parents l.parents
