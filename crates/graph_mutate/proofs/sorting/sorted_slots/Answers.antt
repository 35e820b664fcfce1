use Rattle.std.proofs.Common.{ℕ, ◌<◌, List, [], length, get_or, subst, ap, sym, ◌∙◌, arith}
use Rattle.graph_model.specs.Graph.{source_at, destination_at}
use Rattle.graph_model.proofs.Zips.{AllZip-length}
use Rattle.graph_columns.proofs.SlotParts.{item_at}
use Rattle.graph_snap.proofs.GraphOf.{ends_below}
use Rattle.graph_mutate.specs.Ranks.{Inverts, table_order}
use Rattle.graph_mutate.proofs.SortedTables.{edges_more, edges_count_more, edge_table_counts}
use Rattle.graph_mutate.proofs.sorting.sorted_slots.Goals as goal

pub loop-table-preserved : goal.loop-table-preserved
loop-table-preserved g c =
    let base = c.args.base.now in
    let t = c.loop-table.table in
    let small : t < length base.schema.edges = subst (λ n. t < n) (ap length (c.edges.ensures ∙ ap (λ s. s.edges) c.schema.ensures)) c.loop-table-test.true in
    let shape = item_at base.schema.edges t small in
    record {
      slots = edges_more base t shape.item c.loop-table.derived c.push_moved_slots.new.derived shape.there c.loop-table.invariant.slots (c.in_ok-push_moved_slots.ensures.slots shape.item shape.there);
      counted = omega (arith, c.in_ok-push_moved_slots.ensures.counted, c.loop-table.invariant.counted, edges_count_more base t shape.item shape.there, edge_table_counts base t shape.item);
    }

pub places_at-from-requires : goal.places_at-from-requires
places_at-from-requires g c =
    let base = c.args.base.now in
    let t = c.loop-table.table in
    let small : t < length base.schema.edges = subst (λ n. t < n) (ap length (c.edges.ensures ∙ ap (λ s. s.edges) c.schema.ensures)) c.loop-table-test.true in
    let below = (ends_below base.schema t c.sound.ensures.schema small).0 in
    omega (arith, below, c.end_tables-source.ensures.source, AllZip-length _ _ _ c.sound.ensures.vertices, c.in_ok-new.ensures.new.count, ap length c.as_slice.ensures)

pub places_at-to-requires : goal.places_at-to-requires
places_at-to-requires g c =
    let base = c.args.base.now in
    let t = c.loop-table.table in
    let small : t < length base.schema.edges = subst (λ n. t < n) (ap length (c.edges.ensures ∙ ap (λ s. s.edges) c.schema.ensures)) c.loop-table-test.true in
    let below = (ends_below base.schema t c.sound.ensures.schema small).1 in
    omega (arith, below, c.end_tables-source.ensures.destination, AllZip-length _ _ _ c.sound.ensures.vertices, c.in_ok-new.ensures.new.count, ap length c.as_slice-in-loop-table.ensures)

pub push_moved_slots-requires-clause-from : goal.push_moved_slots-requires-clause-from
push_moved_slots-requires-clause-from g c =
    let base = c.args.base.now in
    let t = c.loop-table.table in
    let small : t < length base.schema.edges = subst (λ n. t < n) (ap length (c.edges.ensures ∙ ap (λ s. s.edges) c.schema.ensures)) c.loop-table-test.true in
    let u = source_at base.schema t in
    let below = (ends_below base.schema t c.sound.ensures.schema small).0 in
    let within : u < length base.vertices = omega (arith, below, AllZip-length _ _ _ c.sound.ensures.vertices) in
    let is = c.places_at-from.ensures ∙ ap (λ (ls : List (List ℕ)). get_or ls c.end_tables-source.result.0 []) c.as_slice.ensures ∙ ap (λ i. get_or c.in_ok-new.new i []) c.end_tables-source.ensures.source in
    subst (Inverts (table_order base u)) (sym is) (c.in_ok-new.ensures.new.each u within)

pub push_moved_slots-requires-clause-to : goal.push_moved_slots-requires-clause-to
push_moved_slots-requires-clause-to g c =
    let base = c.args.base.now in
    let t = c.loop-table.table in
    let small : t < length base.schema.edges = subst (λ n. t < n) (ap length (c.edges.ensures ∙ ap (λ s. s.edges) c.schema.ensures)) c.loop-table-test.true in
    let u = destination_at base.schema t in
    let below = (ends_below base.schema t c.sound.ensures.schema small).1 in
    let within : u < length base.vertices = omega (arith, below, AllZip-length _ _ _ c.sound.ensures.vertices) in
    let is = c.places_at-to.ensures ∙ ap (λ (ls : List (List ℕ)). get_or ls c.end_tables-source.result.1 []) c.as_slice-in-loop-table.ensures ∙ ap (λ i. get_or c.in_ok-new.new i []) c.end_tables-source.ensures.destination in
    subst (Inverts (table_order base u)) (sym is) (c.in_ok-new.ensures.new.each u within)
