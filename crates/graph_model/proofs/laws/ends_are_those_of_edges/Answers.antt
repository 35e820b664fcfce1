use Rattle.graph_model.proofs.EndsOfEdges.{is_end_of_edges}
use Rattle.graph_model.proofs.laws.ends_are_those_of_edges.Goals as goal

pub returns : goal.returns
returns c = is_end_of_edges
