use Rattle.std.proofs.Common.{length}
use Rattle.std.proofs.lemmas.List.Sums.{sum-map}
use Rattle.algo_digraph.proofs.Edges.{edge_number}
use Rattle.algo_digraph.proofs.Meaning.{has_position, goes_between}
use Rattle.algo_digraph.proofs.laws.digraphs_have_the_edges_of_their_graphs.Goals as goal

pub returns : goal.returns
returns c = record { positions = has_position; vertices = λ g. sum-map length g.vertices; edges = edge_number; goes = goes_between }
