use Rattle.std.proofs.Common.{◌≡◌, map, take}
use Rattle.graph_slots.specs.Slots.{vertex_slots}
use Rattle.graph_slots.specs.Numbers.{slot_number}
use Rattle.graph_snap.specs.declared.derived.Derived.TheVariants.{Kept}
use Rattle.graph_mutate.proofs.derived.kept_vertex_slots.Given as goal

abbrev pub invariant-loop-table : goal.invariant-loop-table
invariant-loop-table l = l.derived ≡ map (λ x. Kept (slot_number l.base.schema x)) (vertex_slots 0 (take l.table l.base.schema.vertices))
