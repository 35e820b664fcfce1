use Rattle.std.proofs.Common.{ap, ◌∙◌, ◌<◌, subst, length, get_or}
use Rattle.journal_text.specs.Graphs.{edge_line}
use Rattle.journal_text.proofs.Tables.{more_lines}
use Rattle.journal_text.proofs.graph.push_edges.Goals as goal

pub loop-table-preserved : goal.loop-table-preserved
loop-table-preserved c =
    let g = c.args.on.now in
    let items = c.edges-shape-items.ensures ∙ ap (λ s. s.edges) c.schema.ensures in
    more_lines edge_line g.schema.edges g.edges c.loop-table.table c.shape-item.result c.args.out.now c.loop-table.out _
    (subst (λ ts. c.loop-table.table < length ts) items c.loop-table-test.true)
    (c.shape-item.is ∙ ap (λ ts. get_or ts c.loop-table.table c.shape-item.result) items)
    c.loop-table.invariant c.in_ok-push_edge_rows.ensures
