use Rattle.std.proofs.Common.{ap, ◌∙◌, ◌<◌, subst, length, get_or}
use Rattle.journal_text.specs.Graphs.{vertex_line}
use Rattle.journal_text.proofs.Tables.{more_lines}
use Rattle.journal_text.proofs.graph.push_vertices.Goals as goal

pub loop-table-preserved : goal.loop-table-preserved
loop-table-preserved c =
    let g = c.args.on.now in
    let items = c.vertices-shape-items.ensures ∙ ap (λ s. s.vertices) c.schema.ensures in
    more_lines vertex_line g.schema.vertices g.vertices c.loop-table.table c.shape-item.result c.args.out.now c.loop-table.out _
    (subst (λ ts. c.loop-table.table < length ts) items c.loop-table-test.true)
    (c.shape-item.is ∙ ap (λ ts. get_or ts c.loop-table.table c.shape-item.result) items)
    c.loop-table.invariant c.in_ok-push_vertex_rows.ensures
