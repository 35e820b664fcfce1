use Rattle.std.proofs.Common.{◌≡◌, ◌<◌, length, get_or, subst, ap, ◌∙◌}
use Rattle.graph_mutate.proofs.EdgeTables.{shape_there}
use Rattle.graph_mutate.proofs.KeptTables.{kept_tables_more}
use Rattle.graph_mutate.proofs.derived.kept_vertex_slots.Goals as goal

pub push_kept_table-requires : goal.push_kept_table-requires
push_kept_table-requires c =
    let tables = c.args.base.now.schema.vertices in
    let same : c.vertices-shape-items.result.now ≡ tables = c.vertices-shape-items.ensures ∙ ap (λ s. s.vertices) c.schema-2.ensures in
    shape_there tables c.vertices-shape-items.result.now c.loop-table.table c.shape-item.result same (subst (λ n. c.loop-table.table < n) (ap length same) c.loop-table-test.true) c.shape-item.is

pub loop-table-preserved : goal.loop-table-preserved
loop-table-preserved c =
    let s = c.args.base.now.schema in
    let same : c.vertices-shape-items.result.now ≡ s.vertices = c.vertices-shape-items.ensures ∙ ap (λ t. t.vertices) c.schema-2.ensures in
    kept_tables_more s c.loop-table.table c.shape-item.result c.loop-table.derived c.push_kept_table.new.derived
    (subst (λ n. c.loop-table.table < n) (ap length same) c.loop-table-test.true) (c.shape-item.is ∙ ap (λ ts. get_or ts c.loop-table.table c.shape-item.result) same) c.loop-table.invariant c.in_ok-push_kept_table.ensures
