use Rattle.algo_core.proofs.snapshot.core_numbers.Goals as goal

pub returns-clause-each : goal.returns-clause-each
returns-clause-each g c = rw c.in_ok-digraph.ensures at c.in_ok-cores.ensures.each
