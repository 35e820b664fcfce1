use Rattle.std.specs.Prelude.{IsTrue}
use Rattle.std.specs.List.{list_all}
use Rattle.column_types.specs.Value.{is_printable}
use Rattle.graph_model.specs.declared.row.EdgeRow.{EdgeRow}
use Rattle.graph_model.specs.Keys.{rows_at}
use Rattle.journal_text.specs.Graphs.{edge_line}
use Rattle.journal_text.proofs.Printable.{printable_edges}
use Rattle.journal_text.proofs.RowLines.{at_row, rows_more}
use Rattle.journal_text.proofs.graph.push_edge_rows.Goals as goal

pub push_edge-requires : goal.push_edge-requires
push_edge-requires c =
    let g = c.args.on.now in
    at_row (λ (r : EdgeRow). IsTrue (list_all is_printable r.values)) (rows_at g.edges c.args.table) c.loop-place.place _
    (printable_edges g.vertices g.schema.edges g.edges c.args.table c.sound.ensures.edges) c.in_ok-row.ensures

pub loop-place-preserved : goal.loop-place-preserved
loop-place-preserved c =
    rows_more (edge_line c.args.shape.now) (rows_at c.args.on.now.edges c.args.table) c.loop-place.place _ c.args.out.now c.loop-place.out _
    c.in_ok-row.ensures c.loop-place.invariant c.in_ok-push_edge.ensures
