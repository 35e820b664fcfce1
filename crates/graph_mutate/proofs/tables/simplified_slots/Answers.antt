use Rattle.std.proofs.Common.{◌+◌, ◌<◌, length, refl, subst, ap, ◌∙◌, arith}
use Rattle.graph_columns.proofs.SlotParts.{item_at}
use Rattle.graph_mutate.specs.Simplified.{simplified}
use Rattle.graph_mutate.specs.EdgeTables.{list_steps}
use Rattle.graph_mutate.proofs.Simple.{simplified_is}
use Rattle.graph_mutate.proofs.NewTables.{no_table, one_table, are_lists}
use Rattle.graph_mutate.proofs.tables.simplified_slots.Goals as goal

pub loop-table-init : goal.loop-table-init
loop-table-init g c =
    let base = c.args.base.now in
    record {
      took = 0;
      steps_are = omega arith;
      so_far = no_table base (simplified base).edges c.in_ok-derived.derived c.in_ok-derived.ensures;
    }

pub push_edge_slots-requires-clause-lists : goal.push_edge_slots-requires-clause-lists
push_edge_slots-requires-clause-lists g c =
    let base = c.args.base.now in
    are_lists base (simplified base) c.loop-table.table c.in_ok-lists.lists (simplified_is base c.sound.ensures) c.in_ok-lists.ensures

pub loop-table-preserved : goal.loop-table-preserved
loop-table-preserved g c =
    let base = c.args.base.now in
    let t = c.loop-table.table in
    let small : t < length base.schema.edges = subst (λ n. t < n) (ap length (c.edges.ensures ∙ ap (λ s. s.edges) c.schema.ensures)) c.loop-table-test.true in
    let shape = item_at base.schema.edges t small in
    let took = c.loop-table.invariant.took in
    record {
      took = took + list_steps base t c.in_ok-lists.lists;
      steps_are = omega (arith, c.in_ok-push_edge_slots.ensures.counted, c.loop-table.invariant.steps_are);
      so_far = one_table base (simplified base).edges t shape.item c.in_ok-lists.lists c.loop-table.derived c.push_edge_slots.new.derived took (took + list_steps base t c.in_ok-lists.lists) shape.there c.in_ok-lists.ensures c.loop-table.invariant.so_far c.in_ok-push_edge_slots.ensures.slots refl;
    }
