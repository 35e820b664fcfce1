use Rattle.std.proofs.Common.{◌<◌, ap, arith, length}
use Rattle.std.proofs.lemmas.List.Elements.{All-same}
use Rattle.algo_digraph.specs.declared.arcs.Arc.{Arc}
use Rattle.algo_digraph.specs.Digraph.{Goes}
use Rattle.algo_digraph.specs.Arcs.{out_arcs}
use Rattle.algo_digraph.proofs.ArcEdges.{out_each, out_edges, out_ends, out_few}
use Rattle.algo_digraph.proofs.Flats.{out_rows, out_found, closed_seen}
use Rattle.algo_digraph.proofs.flat.FlatDigraph.out_arcs.Goals as goal

pub arcs_over-requires : goal.arcs_over-requires
arcs_over-requires c = let s = c.self in rw c.as_slice.ensures (out_rows s.inside.vertices s.inside.out s.inside.into s.invariant)

pub returns-clause-arcs : goal.returns-clause-arcs
returns-clause-arcs c =
    let s = c.self in
    out_found s.inside.vertices s.inside.out s.inside.into s.invariant c.args.self.now s.view_is c.args.v c.as_slice.result.now c.arcs_over.result c.arcs_over.ensures c.as_slice.ensures

pub returns-clause-each : goal.returns-clause-each
returns-clause-each c =
    let s = c.self in
    let g = c.args.self.now in
    All-same (λ (a : Arc). Goes g a.edge c.args.v a.vertex) c.arcs_over.result (out_arcs g c.args.v)
    (out_found s.inside.vertices s.inside.out s.inside.into s.invariant g s.view_is c.args.v c.as_slice.result.now c.arcs_over.result c.arcs_over.ensures c.as_slice.ensures)
    (out_each g c.args.v)

pub returns-clause-ends : goal.returns-clause-ends
returns-clause-ends c =
    let s = c.self in
    let g = c.args.self.now in
    All-same (λ (a : Arc). a.vertex < g.vertices) c.arcs_over.result (out_arcs g c.args.v)
    (out_found s.inside.vertices s.inside.out s.inside.into s.invariant g s.view_is c.args.v c.as_slice.result.now c.arcs_over.result c.arcs_over.ensures c.as_slice.ensures)
    (out_ends g c.args.v (closed_seen s.inside.vertices s.inside.out s.inside.into s.invariant g s.view_is))

pub returns-clause-edges : goal.returns-clause-edges
returns-clause-edges c =
    let s = c.self in
    let g = c.args.self.now in
    All-same (λ (a : Arc). a.edge < length g.edges) c.arcs_over.result (out_arcs g c.args.v)
    (out_found s.inside.vertices s.inside.out s.inside.into s.invariant g s.view_is c.args.v c.as_slice.result.now c.arcs_over.result c.arcs_over.ensures c.as_slice.ensures)
    (out_edges g c.args.v)

pub returns-clause-few : goal.returns-clause-few
returns-clause-few c =
    let s = c.self in
    let g = c.args.self.now in
    omega (arith, out_few g c.args.v, ap length (out_found s.inside.vertices s.inside.out s.inside.into s.invariant g s.view_is c.args.v c.as_slice.result.now c.arcs_over.result c.arcs_over.ensures c.as_slice.ensures))
