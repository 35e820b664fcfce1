use Rattle.std.proofs.Common.{◌<◌, ◌≤◌, List, [], length, ap, ◌∙◌, arith}
use Rattle.std.proofs.lemmas.List.{take_all}
use Rattle.std.proofs.lemmas.List.Sums.{sum_by_more, sum_by_more_le}
use Rattle.graph_schema.specs.Schema.{SchemaData}
use Rattle.graph_model.specs.declared.row.VertexRow.{VertexRow}
use Rattle.graph_model.specs.Keys.{row_total}
use Rattle.graph_model.proofs.Zips.{AllZip-length}
use Rattle.journal_text.proofs.totals.vertex_total.Goals as goal

pub overflow_add-total : goal.overflow_add-total
overflow_add-total c =
    let g = c.args.on.now in
    let t = c.loop-table.table in
    let within : t < length g.vertices = omega (arith, ap length c.vertices.ensures, ap (λ (s : SchemaData). length s.vertices) c.schema.ensures, AllZip-length _ _ _ c.sound.ensures.vertices) in
    omega (arith, sum_by_more_le (λ (rows : List VertexRow). length rows) g.vertices t [] within, c.vertex_count.ensures, c.loop-table.invariant, c.sound.ensures.few_vertices)

pub loop-table-preserved : goal.loop-table-preserved
loop-table-preserved c =
    let g = c.args.on.now in
    let t = c.loop-table.table in
    let within : t < length g.vertices = omega (arith, ap length c.vertices.ensures, ap (λ (s : SchemaData). length s.vertices) c.schema.ensures, AllZip-length _ _ _ c.sound.ensures.vertices) in
    omega (arith, sum_by_more (λ (rows : List VertexRow). length rows) g.vertices t [] within, c.vertex_count.ensures, c.loop-table.invariant)

pub returns : goal.returns
returns c =
    let g = c.args.on.now in
    let all : length g.vertices ≤ c.loop-table.table = omega (arith, ap length c.vertices.ensures, ap (λ (s : SchemaData). length s.vertices) c.schema.ensures, AllZip-length _ _ _ c.sound.ensures.vertices) in
    c.loop-table.invariant ∙ ap (λ (tables : List (List VertexRow)). row_total tables) (take_all c.loop-table.table g.vertices all)
