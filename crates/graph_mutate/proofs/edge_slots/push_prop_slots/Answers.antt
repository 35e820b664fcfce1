use Rattle.std.proofs.Common.{◌≡◌, ◌+◌, ◌*◌, ◌++◌, ◌∷◌, [], length, map, ap, ◌∙◌, arith}
use Rattle.std.specs.List.{range_with_len}
use Rattle.graph_model.specs.Graph.{edge_props_at}
use Rattle.graph_snap.specs.declared.derived.Derived.TheVariants.{New}
use Rattle.graph_mutate.specs.EdgeTables.{taken_prop}
use Rattle.graph_mutate.proofs.EdgeTables.{range_mapped, one_more_time, prop_taken}
use Rattle.graph_mutate.proofs.edge_slots.push_prop_slots.Goals as goal

pub loop-prop-preserved : goal.loop-prop-preserved
loop-prop-preserved g c =
    let base = c.args.base.now in
    let t = c.args.table in
    let origins = c.args.origins.now in
    let is = prop_taken base t c.loop-prop.prop origins c.column-column.result.now c.in_ok-part.part c.column-column.ensures c.in_ok-part.ensures.part in
    record {
      slots = range_mapped (λ p. New (taken_prop base t origins p)) c.args.derived.now c.loop-prop.derived c.push.new.self c.loop-prop.prop c.loop-prop.invariant.slots (c.in_ok-push.ensures.ok ∙ ap (λ part. c.loop-prop.derived ++ New part ∷ []) is);
      counted = omega (arith, c.in_ok-part.ensures.counted, c.loop-prop.invariant.counted, one_more_time c.loop-prop.prop (length origins));
    }

pub returns-clause-slots : goal.returns-clause-slots
returns-clause-slots g c =
    let s = c.args.base.now.schema in
    let end : c.loop-prop.prop ≡ length (edge_props_at s c.args.table) = omega (arith, c.prop_count-prop-end.ensures.value, c.loop-prop-test.false, c.loop-prop.auto.prop-end) in
    c.loop-prop.invariant.slots ∙ ap (λ n. c.args.derived.now ++ map (λ p. New (taken_prop c.args.base.now c.args.table c.args.origins.now p)) (range_with_len 0 n)) end

pub returns-clause-counted : goal.returns-clause-counted
returns-clause-counted g c =
    let s = c.args.base.now.schema in
    let end : c.loop-prop.prop ≡ length (edge_props_at s c.args.table) = omega (arith, c.prop_count-prop-end.ensures.value, c.loop-prop-test.false, c.loop-prop.auto.prop-end) in
    c.loop-prop.invariant.counted ∙ ap (λ n. c.args.steps.now + n * length c.args.origins.now) end
