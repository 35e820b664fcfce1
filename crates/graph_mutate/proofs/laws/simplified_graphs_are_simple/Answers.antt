use Rattle.graph_mutate.proofs.Simple.{simplified_is}
use Rattle.graph_mutate.proofs.SimpleLaw.{simple_tables}
use Rattle.graph_mutate.proofs.laws.simplified_graphs_are_simple.Goals as goal

pub returns-clause-graph : goal.returns-clause-graph
returns-clause-graph c = simplified_is c.args.graph.now c.sound.ensures

pub returns-clause-tables : goal.returns-clause-tables
returns-clause-tables c = λ t x there. simple_tables c.args.graph.now t x c.sound.ensures there
