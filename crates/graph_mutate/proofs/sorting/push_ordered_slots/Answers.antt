use Rattle.std.proofs.Common.{◌≡◌, ◌+◌, ◌*◌, ◌++◌, ◌∷◌, [], length, map, ap, sym, ◌∙◌, arith, append-nil}
use Rattle.std.specs.List.{range_with_len}
use Rattle.graph_model.specs.Graph.{vertex_props_at}
use Rattle.graph_snap.specs.declared.derived.Derived.TheVariants.{New}
use Rattle.graph_mutate.specs.VertexTables.{taken_keys, taken_values}
use Rattle.graph_mutate.proofs.EdgeTables.{range_mapped, one_more_time}
use Rattle.graph_mutate.proofs.VertexTables.{keys_taken, values_taken}
use Rattle.graph_mutate.proofs.sorting.push_ordered_slots.Goals as goal

pub loop-prop-init : goal.loop-prop-init
loop-prop-init g c =
    let base = c.args.base.now in
    let t = c.args.table in
    let order = c.args.order.now in
    let is = keys_taken base t order c.column.result.now c.in_ok-keys.keys c.column.ensures c.in_ok-keys.ensures.part in
    record {
      slots = c.in_ok-push.ensures.ok ∙ ap (λ part. c.args.derived.now ++ New part ∷ []) is ∙ sym (append-nil (c.args.derived.now ++ New (taken_keys base t order) ∷ []));
      counted = omega (arith, c.in_ok-keys.ensures.counted);
    }

pub loop-prop-preserved : goal.loop-prop-preserved
loop-prop-preserved g c =
    let base = c.args.base.now in
    let t = c.args.table in
    let order = c.args.order.now in
    let is = values_taken base t c.loop-prop.prop order c.column-column.result.now c.in_ok-part.part c.column-column.ensures c.in_ok-part.ensures.part in
    record {
      slots = range_mapped (λ p. New (taken_values base t order p)) (c.args.derived.now ++ New (taken_keys base t order) ∷ []) c.loop-prop.derived c.push-in-loop-prop.new.self c.loop-prop.prop c.loop-prop.invariant.slots (c.in_ok-push-2.ensures.ok ∙ ap (λ part. c.loop-prop.derived ++ New part ∷ []) is);
      counted = omega (arith, c.in_ok-part.ensures.counted, c.loop-prop.invariant.counted, one_more_time (1 + c.loop-prop.prop) (length order));
    }

pub returns-clause-slots : goal.returns-clause-slots
returns-clause-slots g c =
    let s = c.args.base.now.schema in
    let base = c.args.base.now in
    let end : c.loop-prop.prop ≡ length (vertex_props_at s c.args.table) = omega (arith, c.vertex_prop_count-prop-end.ensures.value, c.loop-prop-test.false, c.loop-prop.auto.prop-end) in
    c.loop-prop.invariant.slots ∙ ap (λ n. (c.args.derived.now ++ New (taken_keys base c.args.table c.args.order.now) ∷ []) ++ map (λ p. New (taken_values base c.args.table c.args.order.now p)) (range_with_len 0 n)) end

pub returns-clause-counted : goal.returns-clause-counted
returns-clause-counted g c =
    let s = c.args.base.now.schema in
    let end : c.loop-prop.prop ≡ length (vertex_props_at s c.args.table) = omega (arith, c.vertex_prop_count-prop-end.ensures.value, c.loop-prop-test.false, c.loop-prop.auto.prop-end) in
    c.loop-prop.invariant.counted ∙ ap (λ n. c.args.steps.now + (1 + n) * length c.args.order.now) end
