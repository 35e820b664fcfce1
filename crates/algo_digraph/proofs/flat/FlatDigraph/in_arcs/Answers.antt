use Rattle.std.proofs.Common.{◌<◌, ap, arith, length}
use Rattle.std.proofs.lemmas.List.Elements.{All-same}
use Rattle.algo_digraph.specs.declared.arcs.Arc.{Arc}
use Rattle.algo_digraph.specs.Digraph.{Goes}
use Rattle.algo_digraph.specs.Arcs.{in_arcs}
use Rattle.algo_digraph.proofs.ArcEdges.{in_each, in_edges, in_ends, in_few}
use Rattle.algo_digraph.proofs.Flats.{into_rows, in_found, closed_seen}
use Rattle.algo_digraph.proofs.flat.FlatDigraph.in_arcs.Goals as goal

pub arcs_over-requires : goal.arcs_over-requires
arcs_over-requires c = let s = c.self in rw c.as_slice.ensures (into_rows s.inside.vertices s.inside.out s.inside.into s.invariant)

pub returns-clause-arcs : goal.returns-clause-arcs
returns-clause-arcs c =
    let s = c.self in
    in_found s.inside.vertices s.inside.out s.inside.into s.invariant c.args.self.now s.view_is c.args.v c.as_slice.result.now c.arcs_over.result c.arcs_over.ensures c.as_slice.ensures

pub returns-clause-each : goal.returns-clause-each
returns-clause-each c =
    let s = c.self in
    let g = c.args.self.now in
    All-same (λ (a : Arc). Goes g a.edge a.vertex c.args.v) c.arcs_over.result (in_arcs g c.args.v)
    (in_found s.inside.vertices s.inside.out s.inside.into s.invariant g s.view_is c.args.v c.as_slice.result.now c.arcs_over.result c.arcs_over.ensures c.as_slice.ensures)
    (in_each g c.args.v)

pub returns-clause-ends : goal.returns-clause-ends
returns-clause-ends c =
    let s = c.self in
    let g = c.args.self.now in
    All-same (λ (a : Arc). a.vertex < g.vertices) c.arcs_over.result (in_arcs g c.args.v)
    (in_found s.inside.vertices s.inside.out s.inside.into s.invariant g s.view_is c.args.v c.as_slice.result.now c.arcs_over.result c.arcs_over.ensures c.as_slice.ensures)
    (in_ends g c.args.v (closed_seen s.inside.vertices s.inside.out s.inside.into s.invariant g s.view_is))

pub returns-clause-edges : goal.returns-clause-edges
returns-clause-edges c =
    let s = c.self in
    let g = c.args.self.now in
    All-same (λ (a : Arc). a.edge < length g.edges) c.arcs_over.result (in_arcs g c.args.v)
    (in_found s.inside.vertices s.inside.out s.inside.into s.invariant g s.view_is c.args.v c.as_slice.result.now c.arcs_over.result c.arcs_over.ensures c.as_slice.ensures)
    (in_edges g c.args.v)

pub returns-clause-few : goal.returns-clause-few
returns-clause-few c =
    let s = c.self in
    let g = c.args.self.now in
    omega (arith, in_few g c.args.v, ap length (in_found s.inside.vertices s.inside.out s.inside.into s.invariant g s.view_is c.args.v c.as_slice.result.now c.arcs_over.result c.arcs_over.ensures c.as_slice.ensures))
