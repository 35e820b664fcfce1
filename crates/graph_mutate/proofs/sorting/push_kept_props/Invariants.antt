use Rattle.std.proofs.Common.{◌≡◌, ◌++◌, map}
use Rattle.std.specs.List.{range_with_len}
use Rattle.graph_slots.specs.declared.slot.SlotName.TheVariants.{EdgeProp}
use Rattle.graph_slots.specs.Numbers.{slot_number}
use Rattle.graph_snap.specs.declared.derived.Derived.TheVariants.{Kept}
use Rattle.graph_mutate.proofs.sorting.push_kept_props.Given as goal

abbrev pub invariant-loop-prop : goal.invariant-loop-prop
invariant-loop-prop l = l.derived ≡ l.fn.derived ++ map (λ p. Kept (slot_number l.base.schema (EdgeProp l.table p))) (range_with_len 0 l.prop)
