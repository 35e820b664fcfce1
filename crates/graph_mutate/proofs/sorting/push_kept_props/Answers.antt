use Rattle.std.proofs.Common.{◌≡◌, ◌++◌, ◌∷◌, [], length, map, ap, ◌∙◌, arith}
use Rattle.std.specs.List.{range_with_len}
use Rattle.graph_model.specs.Graph.{edge_props_at}
use Rattle.graph_slots.specs.declared.slot.SlotName.TheVariants.{EdgeProp}
use Rattle.graph_slots.specs.Numbers.{slot_number}
use Rattle.graph_snap.specs.declared.derived.Derived.TheVariants.{Kept}
use Rattle.graph_mutate.proofs.EdgeTables.{range_mapped}
use Rattle.graph_mutate.proofs.sorting.push_kept_props.Goals as goal

pub loop-prop-preserved : goal.loop-prop-preserved
loop-prop-preserved c =
    let s = c.args.base.now.schema in
    range_mapped (λ p. Kept (slot_number s (EdgeProp c.args.table p))) c.args.derived.now c.loop-prop.derived c.push.new.self c.loop-prop.prop c.loop-prop.invariant
    (c.in_ok-push.ensures.ok ∙ ap (λ d. c.loop-prop.derived ++ d ∷ []) c.kept_slot.ensures)

pub returns : goal.returns
returns c =
    let s = c.args.base.now.schema in
    let end : c.loop-prop.prop ≡ length (edge_props_at s c.args.table) = omega (arith, c.prop_count-prop-end.ensures.value, c.loop-prop-test.false, c.loop-prop.auto.prop-end) in
    c.loop-prop.invariant ∙ ap (λ n. c.args.derived.now ++ map (λ p. Kept (slot_number s (EdgeProp c.args.table p))) (range_with_len 0 n)) end
