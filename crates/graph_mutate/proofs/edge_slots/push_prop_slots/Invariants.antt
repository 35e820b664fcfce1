use Rattle.std.proofs.Common.{◌≡◌, ◌+◌, ◌*◌, ◌++◌, length, map}
use Rattle.std.specs.List.{range_with_len}
use Rattle.graph_snap.specs.declared.derived.Derived.TheVariants.{New}
use Rattle.graph_mutate.specs.EdgeTables.{taken_prop}
use Rattle.graph_mutate.proofs.edge_slots.push_prop_slots.Given as goal

abbrev pub invariant-loop-prop : goal.invariant-loop-prop
invariant-loop-prop g l = record {
  slots : l.derived ≡ l.fn.derived ++ map (λ p. New (taken_prop l.base l.table l.origins p)) (range_with_len 0 l.prop);
  counted : l.steps ≡ l.fn.steps + l.prop * length l.origins;
}
