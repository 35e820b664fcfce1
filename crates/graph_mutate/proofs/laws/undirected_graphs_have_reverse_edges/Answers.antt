use Rattle.graph_mutate.proofs.Reverses.{undirected_is}
use Rattle.graph_mutate.proofs.ReverseLists.{has_reverses}
use Rattle.graph_mutate.proofs.laws.undirected_graphs_have_reverse_edges.Goals as goal

pub returns-clause-graph : goal.returns-clause-graph
returns-clause-graph c = undirected_is c.args.graph.now c.sound.ensures c.requires.mixed c.requires.big

pub returns-clause-tables : goal.returns-clause-tables
returns-clause-tables c = has_reverses c.args.graph.now
