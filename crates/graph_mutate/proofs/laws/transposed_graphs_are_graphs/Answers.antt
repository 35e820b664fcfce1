use Rattle.graph_mutate.proofs.Turned.{transposed_is, transposed_slot, transposed_twice}
use Rattle.graph_mutate.proofs.laws.transposed_graphs_are_graphs.Goals as goal

pub returns-clause-graph : goal.returns-clause-graph
returns-clause-graph c = transposed_is c.args.graph.now c.sound.ensures

pub returns-clause-slot : goal.returns-clause-slot
returns-clause-slot c = transposed_slot c.args.graph.now c.args.slot

pub returns-clause-twice : goal.returns-clause-twice
returns-clause-twice c = transposed_twice c.args.graph.now
