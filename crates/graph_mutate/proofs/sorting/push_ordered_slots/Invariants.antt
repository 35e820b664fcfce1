use Rattle.std.proofs.Common.{◌≡◌, ◌+◌, ◌*◌, ◌++◌, ◌∷◌, [], length, map}
use Rattle.std.specs.List.{range_with_len}
use Rattle.graph_snap.specs.declared.derived.Derived.TheVariants.{New}
use Rattle.graph_mutate.specs.VertexTables.{taken_keys, taken_values}
use Rattle.graph_mutate.proofs.sorting.push_ordered_slots.Given as goal

abbrev pub invariant-loop-prop : goal.invariant-loop-prop
invariant-loop-prop g l = record {
  slots : l.derived ≡ (l.fn.derived ++ New (taken_keys l.base l.table l.order) ∷ []) ++ map (λ p. New (taken_values l.base l.table l.order p)) (range_with_len 0 l.prop);
  counted : l.steps ≡ l.fn.steps + (1 + l.prop) * length l.order;
}
