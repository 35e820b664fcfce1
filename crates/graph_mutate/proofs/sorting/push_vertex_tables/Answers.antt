use Rattle.std.proofs.Common.{◌≡◌, ◌<◌, All, length, subst, ap, sym, ◌∙◌, arith}
use Rattle.graph_model.specs.Keys.{rows_at}
use Rattle.graph_columns.proofs.SlotParts.{item_at}
use Rattle.graph_model.proofs.Zips.{AllZip-length}
use Rattle.graph_mutate.specs.Ranks.{Inverts, table_order}
use Rattle.graph_mutate.proofs.Moved.{inverses_more}
use Rattle.graph_mutate.proofs.SortedTables.{order_rows, order_few, order_inside, vertex_table_done, vertex_table_counts, vertices_more, vertices_count_more}
use Rattle.graph_mutate.proofs.sorting.push_vertex_tables.Goals as goal

pub push_ordered_slots-requires-clause-few : goal.push_ordered_slots-requires-clause-few
push_ordered_slots-requires-clause-few g c = omega (arith, ap length (c.as_slice.ensures ∙ c.in_ok-order.ensures), order_few c.args.base.now c.loop-table.table c.sound.ensures)

pub push_ordered_slots-requires-clause-within : goal.push_ordered_slots-requires-clause-within
push_ordered_slots-requires-clause-within g c =
    subst (All (λ p. p < length (rows_at c.args.base.now.vertices c.loop-table.table))) (sym (c.as_slice.ensures ∙ c.in_ok-order.ensures)) (order_inside c.args.base.now c.loop-table.table)

pub new_places-requires-clause-few : goal.new_places-requires-clause-few
new_places-requires-clause-few g c = omega (arith, ap length (c.as_slice-in-loop-table.ensures ∙ c.in_ok-order.ensures), order_few c.args.base.now c.loop-table.table c.sound.ensures)

pub new_places-requires-clause-within : goal.new_places-requires-clause-within
new_places-requires-clause-within g c =
    let base = c.args.base.now in
    let t = c.loop-table.table in
    let is = c.as_slice-in-loop-table.ensures ∙ c.in_ok-order.ensures in
    subst (λ xs. All (λ p. p < length xs) xs) (sym is) (subst (λ n. All (λ p. p < n) (table_order base t)) (sym (order_rows base t)) (order_inside base t))

pub loop-table-preserved : goal.loop-table-preserved
loop-table-preserved g c =
    let base = c.args.base.now in
    let t = c.loop-table.table in
    let small : t < length base.schema.vertices = subst (λ n. t < n) (ap length (c.vertices.ensures ∙ ap (λ s. s.vertices) c.schema.ensures)) c.loop-table-test.true in
    let shape = item_at base.schema.vertices t small in
    let order = c.as_slice.ensures ∙ c.in_ok-order.ensures in
    let other = c.as_slice-in-loop-table.ensures ∙ c.in_ok-order.ensures in
    record {
      new = inverses_more base c.loop-table.new c.push.new.self c.in_ok-new_places.field-0 t c.loop-table.invariant.new (subst (λ o. Inverts o c.in_ok-new_places.field-0) other c.in_ok-new_places.ensures) c.in_ok-push.ensures.ok;
      slots = vertices_more base t shape.item c.loop-table.derived c.push_ordered_slots.new.derived shape.there c.loop-table.invariant.slots (vertex_table_done base t shape.item c.as_slice.result.now c.loop-table.derived c.push_ordered_slots.new.derived shape.there order c.in_ok-push_ordered_slots.ensures.slots);
      counted = omega (arith, c.in_ok-push_ordered_slots.ensures.counted, c.loop-table.invariant.counted, vertices_count_more base t shape.item shape.there, vertex_table_counts base t shape.item c.as_slice.result.now shape.there order);
    }

pub returns-clause-new : goal.returns-clause-new
returns-clause-new g c =
    let base = c.args.base.now in
    let listed : length c.vertices.result.now ≡ length base.schema.vertices = ap length (c.vertices.ensures ∙ ap (λ s. s.vertices) c.schema.ensures) in
    let long = AllZip-length _ _ _ c.sound.ensures.vertices in
    let end : c.loop-table.table ≡ length base.vertices = omega (arith, listed, long, c.loop-table-test.false, c.loop-table.auto.table-end) in
    record {
      count = c.loop-table.invariant.new.count ∙ end;
      each = λ t h. c.loop-table.invariant.new.each t (omega (arith, h, end));
    }
