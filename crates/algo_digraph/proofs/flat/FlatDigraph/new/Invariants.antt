use Rattle.std.proofs.Common.{◌≡◌, map, take, length}
use Rattle.std.specs.Prelude.{flat_map, sum, sum_by}
use Rattle.std.specs.List.{range_with_len}
use Rattle.algo_digraph.specs.DigraphOf.{table_edges}
use Rattle.algo_digraph.specs.Sides.{all_ends, AreSides}
use Rattle.algo_digraph.proofs.flat.FlatDigraph.new.Given as goal

abbrev pub invariant-loop-table : goal.invariant-loop-table
invariant-loop-table l = record {
  out_are : AreSides (sum l.order) 0 l.out l.into;
  into_are : AreSides (sum l.order) 0 l.into l.out;
  sources : all_ends l.into ≡ map (λ p. p.0) (flat_map (table_edges l.on) (range_with_len 0 l.table));
  targets : all_ends l.out ≡ map (λ p. p.1) (flat_map (table_edges l.on) (range_with_len 0 l.table));
  first : l.first_edge ≡ sum_by length (take l.table l.on.edges);
}
