use Rattle.algo_rank.specs.Ranks.{AreRanks}
use Rattle.algo_rank.proofs.rounds.digraph_rank.Given as goal

abbrev pub invariant-loop-round : goal.invariant-loop-round
invariant-loop-round g l = AreRanks l.digraph l._round l.ranks
