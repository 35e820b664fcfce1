use Rattle.std.proofs.Common.{◌≡◌, ◌≤◌, ◌++◌, ◌∷◌, [], length, map, refl, ap, sym, ◌∙◌, arith, rules, append_assoc}
use Rattle.std.specs.List.{range_with_len}
use Rattle.graph_slots.specs.declared.slot.SlotName.TheVariants.{VertexKey, VertexProp}
use Rattle.graph_slots.specs.Numbers.{slot_number}
use Rattle.graph_slots.proofs.Kept.{map_map}
use Rattle.graph_snap.specs.declared.derived.Derived.TheVariants.{Kept}
use Rattle.graph_mutate.proofs.EdgeTables.{range_mapped}
use Rattle.graph_schema.specs.Schema.{IsSchema}
use Rattle.graph_schema.specs.declared.schema.VertexTable.{VertexTable}
use Rattle.graph_schema.proofs.Sound.{few_vertex_props}
use Rattle.graph_snap.proofs.Taken.{few_at}
use Rattle.std.proofs.Common.{subst}
use Rattle.graph_mutate.proofs.derived.push_kept_table.Goals as goal

pub overflow_cast-prop-end : goal.overflow_cast-prop-end
overflow_cast-prop-end c =
    let s = c.args.base.now.schema in
    let few = few_at (λ (x : VertexTable). length x.props) s.vertices c.args.table c.args.shape.now (few_vertex_props s (subst IsSchema c.schema.ensures c.sound.ensures)) c.requires in
    let small : c.len-prop-end.result ≤ 64 = omega (arith, few, c.len-prop-end.ensures) in
    search rules

pub loop-prop-preserved : goal.loop-prop-preserved
loop-prop-preserved c =
    let s = c.args.base.now.schema in
    let first = Kept (slot_number s (VertexKey c.args.table)) in
    range_mapped (λ p. Kept (slot_number s (VertexProp c.args.table p))) (c.args.derived.now ++ first ∷ []) c.loop-prop.derived c.push-in-loop-prop.new.self c.loop-prop.prop c.loop-prop.invariant
    (c.in_ok-push-2.ensures.ok ∙ ap (λ d. c.loop-prop.derived ++ d ∷ []) c.kept_slot-in-loop-prop.ensures)

pub returns : goal.returns
returns c =
    let s = c.args.base.now.schema in
    let t = c.args.table in
    let first = Kept (slot_number s (VertexKey t)) in
    let width = length c.args.shape.now.props in
    let end : c.loop-prop.prop ≡ width = omega (arith, c.loop-prop-test.false, c.loop-prop.auto.prop-end, c.len-prop-end.ensures) in
    c.loop-prop.invariant
    ∙ ap (λ n. (c.args.derived.now ++ first ∷ []) ++ map (λ p. Kept (slot_number s (VertexProp t p))) (range_with_len 0 n)) end
    ∙ append_assoc c.args.derived.now (first ∷ []) (map (λ p. Kept (slot_number s (VertexProp t p))) (range_with_len 0 width))
    ∙ ap (λ ds. c.args.derived.now ++ first ∷ ds) (sym (map_map (VertexProp t) (λ x. Kept (slot_number s x)) (λ p. Kept (slot_number s (VertexProp t p))) (range_with_len 0 width) (λ p. refl)))
