use Rattle.std.specs.Prelude.{IsTrue}
use Rattle.std.specs.List.{list_all}
use Rattle.column_types.specs.Value.{is_printable}
use Rattle.graph_model.specs.declared.row.VertexRow.{VertexRow}
use Rattle.graph_model.specs.Keys.{rows_at}
use Rattle.journal_text.specs.Graphs.{vertex_line}
use Rattle.journal_text.proofs.Printable.{printable_vertices}
use Rattle.journal_text.proofs.RowLines.{at_row, rows_more}
use Rattle.journal_text.proofs.graph.push_vertex_rows.Goals as goal

pub push_vertex-requires : goal.push_vertex-requires
push_vertex-requires c =
    let g = c.args.on.now in
    at_row (λ (r : VertexRow). IsTrue (list_all is_printable r.values)) (rows_at g.vertices c.args.table) c.loop-place.place _
    (printable_vertices g.schema.vertices g.vertices c.args.table c.sound.ensures.vertices) c.in_ok-row.ensures

pub loop-place-preserved : goal.loop-place-preserved
loop-place-preserved c =
    rows_more (vertex_line c.args.shape.now) (rows_at c.args.on.now.vertices c.args.table) c.loop-place.place _ c.args.out.now c.loop-place.out _
    c.in_ok-row.ensures c.loop-place.invariant c.in_ok-push_vertex.ensures
