use Rattle.algo_rank.proofs.Shares.{list_whole}
use Rattle.algo_rank.proofs.snapshot.rank.Goals as goal

pub returns-clause-each : goal.returns-clause-each
returns-clause-each g c = let are = rw c.in_ok-digraph.ensures at c.in_ok-ranks.ensures in are.each

pub returns-clause-sum : goal.returns-clause-sum
returns-clause-sum g c = list_whole _ c.args.rounds _ c.in_ok-ranks.ensures c.sound.ensures
