use Rattle.std.proofs.Common.{arith}
use Rattle.algo_digraph.proofs.Flats.{edge_count, closed}
use Rattle.algo_digraph.proofs.flat.FlatDigraph.vertex_count.Goals as goal

pub returns-clause-few_edges : goal.returns-clause-few_edges
returns-clause-few_edges c =
    let s = c.self in
    rw (← s.view_is) (omega (arith, edge_count s.inside.vertices s.inside.out s.inside.into s.invariant, s.invariant.few_edges))

pub returns-clause-closed : goal.returns-clause-closed
returns-clause-closed c = let s = c.self in rw (← s.view_is) (closed s.inside.vertices s.inside.out s.inside.into s.invariant)
