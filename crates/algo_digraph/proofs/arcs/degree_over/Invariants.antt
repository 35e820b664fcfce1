use Rattle.std.proofs.Common.{◌≡◌, length, take}
use Rattle.std.specs.Prelude.{flat_map}
use Rattle.algo_digraph.specs.Sides.{side_arcs}
use Rattle.algo_digraph.proofs.arcs.degree_over.Given as goal

abbrev pub invariant-loop-side : goal.invariant-loop-side
invariant-loop-side l = l.count ≡ length (flat_map (side_arcs l.v) (take l.side-index l.sides))
