use Rattle.std.proofs.Common.{◌≡◌, ◌+◌, ◌*◌, ◌<◌, ◌≤◌, [], length, List, subst, ap, ◌∙◌, arith, rules}
use Rattle.std.proofs.lemmas.List.{take_all}
use Rattle.graph_model.specs.declared.row.VertexRow.{VertexRow}
use Rattle.graph_model.specs.Keys.{rows_at, cells_in, value_total}
use Rattle.graph_model.specs.Graph.{vertex_values}
use Rattle.graph_columns.proofs.Tables.{sum_more}
use Rattle.graph_columns.proofs.GraphTables.{vertex_table_count}
use Rattle.graph_mutate.proofs.EdgeTables.{shape_read}
use Rattle.graph_mutate.proofs.Sizes.{take_le, vertex_cells_are}
use Rattle.graph_mutate.proofs.undirect.vertex_cells.Goals as goal

pub overflow_mul-cells : goal.overflow_mul-cells
overflow_mul-cells c =
    let g = c.args.base.now in
    let t = c.loop-table.table in
    let shapes = c.vertices-shape-items.result.now in
    let there = shape_read g.schema.vertices shapes t c.shape-item.result (c.vertices-shape-items.ensures ∙ ap (λ s. s.vertices) c.schema.ensures) c.loop-table-test.true c.shape-item.is in
    let count = vertex_table_count g c.schema.result.now shapes c.sound.ensures c.schema.ensures c.vertices-shape-items.ensures in
    let within = subst (λ n. t < n) count c.loop-table-test.true in
    let product : c.vertex_count.result * c.len.result ≡ cells_in vertex_values (rows_at g.vertices t) =
    ap (λ n. n * c.len.result) c.vertex_count.ensures ∙ ap (λ n. length (rows_at g.vertices t) * n) c.len.ensures ∙ vertex_cells_are g t c.shape-item.result c.sound.ensures there in
    let more = sum_more (λ (rows : List VertexRow). cells_in vertex_values rows) g.vertices t [] within in
    let small : c.vertex_count.result * c.len.result ≤ 16777216 = omega (arith, product, more, take_le (λ (rows : List VertexRow). cells_in vertex_values rows) (t + 1) g.vertices, c.sound.ensures.few_cells) in
    search rules

pub overflow_add-cells : goal.overflow_add-cells
overflow_add-cells c =
    let g = c.args.base.now in
    let t = c.loop-table.table in
    let shapes = c.vertices-shape-items.result.now in
    let there = shape_read g.schema.vertices shapes t c.shape-item.result (c.vertices-shape-items.ensures ∙ ap (λ s. s.vertices) c.schema.ensures) c.loop-table-test.true c.shape-item.is in
    let count = vertex_table_count g c.schema.result.now shapes c.sound.ensures c.schema.ensures c.vertices-shape-items.ensures in
    let within = subst (λ n. t < n) count c.loop-table-test.true in
    let product : c.vertex_count.result * c.len.result ≡ cells_in vertex_values (rows_at g.vertices t) =
    ap (λ n. n * c.len.result) c.vertex_count.ensures ∙ ap (λ n. length (rows_at g.vertices t) * n) c.len.ensures ∙ vertex_cells_are g t c.shape-item.result c.sound.ensures there in
    let more = sum_more (λ (rows : List VertexRow). cells_in vertex_values rows) g.vertices t [] within in
    let small : c.loop-table.cells + c.vertex_count.result * c.len.result ≤ 16777216 = omega (arith, product, more, c.loop-table.invariant, take_le (λ (rows : List VertexRow). cells_in vertex_values rows) (t + 1) g.vertices, c.sound.ensures.few_cells) in
    search rules

pub loop-table-preserved : goal.loop-table-preserved
loop-table-preserved c =
    let g = c.args.base.now in
    let t = c.loop-table.table in
    let shapes = c.vertices-shape-items.result.now in
    let there = shape_read g.schema.vertices shapes t c.shape-item.result (c.vertices-shape-items.ensures ∙ ap (λ s. s.vertices) c.schema.ensures) c.loop-table-test.true c.shape-item.is in
    let count = vertex_table_count g c.schema.result.now shapes c.sound.ensures c.schema.ensures c.vertices-shape-items.ensures in
    let within = subst (λ n. t < n) count c.loop-table-test.true in
    let product : c.vertex_count.result * c.len.result ≡ cells_in vertex_values (rows_at g.vertices t) =
    ap (λ n. n * c.len.result) c.vertex_count.ensures ∙ ap (λ n. length (rows_at g.vertices t) * n) c.len.ensures ∙ vertex_cells_are g t c.shape-item.result c.sound.ensures there in
    let more = sum_more (λ (rows : List VertexRow). cells_in vertex_values rows) g.vertices t [] within in
    omega (arith, product, more, c.loop-table.invariant)

pub returns-clause-cells : goal.returns-clause-cells
returns-clause-cells c =
    let g = c.args.base.now in
    let count = vertex_table_count g c.schema.result.now c.vertices-shape-items.result.now c.sound.ensures c.schema.ensures c.vertices-shape-items.ensures in
    let all = take_all c.loop-table.table g.vertices (omega (arith, count, c.loop-table-test.false)) in
    c.loop-table.invariant ∙ ap (value_total vertex_values) all
