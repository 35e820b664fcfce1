use Rattle.algo_reach.proofs.snapshot.hops.Goals as goal

pub returns-clause-each : goal.returns-clause-each
returns-clause-each g c = rw (c.in_ok-digraph.ensures, c.index.ensures.value, c.in_ok-order.ensures) at c.in_ok-found.ensures.each
