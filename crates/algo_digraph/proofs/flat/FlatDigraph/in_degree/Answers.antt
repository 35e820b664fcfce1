use Rattle.std.proofs.Common.{◌∙◌, ap, refl, arith, length}
use Rattle.std.specs.Prelude.{flat_map}
use Rattle.algo_digraph.specs.Sides.{side_arcs}
use Rattle.algo_digraph.proofs.Flats.{in_found, in_short}
use Rattle.algo_digraph.proofs.flat.FlatDigraph.in_degree.Goals as goal

pub degree_over-requires : goal.degree_over-requires
degree_over-requires c =
    let s = c.self in
    rw c.as_slice.ensures (in_short s.inside.vertices s.inside.out s.inside.into s.invariant c.args.v)

pub returns-clause-count : goal.returns-clause-count
returns-clause-count c =
    let s = c.self in
    c.degree_over.ensures ∙ ap length (in_found s.inside.vertices s.inside.out s.inside.into s.invariant c.args.self.now s.view_is c.args.v c.as_slice.result.now _ refl c.as_slice.ensures)

pub returns-clause-few : goal.returns-clause-few
returns-clause-few c =
    let s = c.self in
    omega (arith, c.degree_over.ensures, ap (λ xs. length (flat_map (side_arcs c.args.v) xs)) c.as_slice.ensures, in_short s.inside.vertices s.inside.out s.inside.into s.invariant c.args.v)
