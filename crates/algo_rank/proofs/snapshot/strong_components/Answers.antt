use Rattle.algo_rank.proofs.snapshot.strong_components.Goals as goal

pub returns-clause-each : goal.returns-clause-each
returns-clause-each g c = rw c.in_ok-digraph.ensures at c.in_ok-labels.ensures.each
