use Rattle.std.proofs.Common.{◌≡◌, ◌<◌, ◌≤◌, ◌+◌, ◌*◌, length, All, arith, ap, ◌∙◌, rules, subst, sym}
use Rattle.std.proofs.lemmas.List.{take_all}
use Rattle.graph_schema.specs.Schema.{SchemaData}
use Rattle.graph_model.specs.Keys.{rows_at, value_total}
use Rattle.graph_model.specs.Graph.{vertex_values, vertex_props_at}
use Rattle.graph_model.proofs.Zips.{AllZip-length}
use Rattle.graph_snap.proofs.GraphOf.{vertex_widths}
use Rattle.changeset.proofs.Found.{cells_more, cells_within}
use Rattle.changeset.proofs.base.vertex_cells.Goals as goal

pub overflow_mul-cells : goal.overflow_mul-cells
overflow_mul-cells c =
    let g = c.args.base.now in
    let t = c.loop-table.table in
    let known : t < length g.schema.vertices = omega (arith, c.loop-table-test.true, ap length c.vertices.ensures, ap (λ (s : SchemaData). length s.vertices) c.schema.ensures) in
    let within : t < length g.vertices = omega (arith, known, AllZip-length _ _ _ c.sound.ensures.vertices) in
    let width = c.vertex_width.ensures ∙ ap (λ (s : SchemaData). length (vertex_props_at s t)) c.schema-in-loop-table.ensures in
    let wide = subst (λ n. All (λ r. length (vertex_values r) ≡ n) (rows_at g.vertices t)) (sym width) (vertex_widths g t c.sound.ensures known) in
    let less = cells_within vertex_values g.vertices t c.vertex_width.result c.vertex_count.result within wide c.vertex_count.ensures c.loop-table.cells c.loop-table.invariant in
    let small : c.vertex_width.result * c.vertex_count.result ≤ 16777216 = omega (arith, less, c.sound.ensures.few_cells) in
    search rules

pub overflow_add-cells : goal.overflow_add-cells
overflow_add-cells c =
    let g = c.args.base.now in
    let t = c.loop-table.table in
    let known : t < length g.schema.vertices = omega (arith, c.loop-table-test.true, ap length c.vertices.ensures, ap (λ (s : SchemaData). length s.vertices) c.schema.ensures) in
    let within : t < length g.vertices = omega (arith, known, AllZip-length _ _ _ c.sound.ensures.vertices) in
    let width = c.vertex_width.ensures ∙ ap (λ (s : SchemaData). length (vertex_props_at s t)) c.schema-in-loop-table.ensures in
    let wide = subst (λ n. All (λ r. length (vertex_values r) ≡ n) (rows_at g.vertices t)) (sym width) (vertex_widths g t c.sound.ensures known) in
    let less = cells_within vertex_values g.vertices t c.vertex_width.result c.vertex_count.result within wide c.vertex_count.ensures c.loop-table.cells c.loop-table.invariant in
    let small : c.loop-table.cells + c.vertex_width.result * c.vertex_count.result ≤ 16777216 = omega (arith, less, c.sound.ensures.few_cells) in
    search rules

pub loop-table-preserved : goal.loop-table-preserved
loop-table-preserved c =
    let g = c.args.base.now in
    let t = c.loop-table.table in
    let known : t < length g.schema.vertices = omega (arith, c.loop-table-test.true, ap length c.vertices.ensures, ap (λ (s : SchemaData). length s.vertices) c.schema.ensures) in
    let within : t < length g.vertices = omega (arith, known, AllZip-length _ _ _ c.sound.ensures.vertices) in
    let width = c.vertex_width.ensures ∙ ap (λ (s : SchemaData). length (vertex_props_at s t)) c.schema-in-loop-table.ensures in
    let wide = subst (λ n. All (λ r. length (vertex_values r) ≡ n) (rows_at g.vertices t)) (sym width) (vertex_widths g t c.sound.ensures known) in
    cells_more vertex_values g.vertices t c.vertex_width.result c.vertex_count.result within wide c.vertex_count.ensures c.loop-table.cells c.loop-table.invariant

pub returns : goal.returns
returns c =
    let g = c.args.base.now in
    let all : length g.vertices ≤ c.loop-table.table = omega (arith, c.loop-table-test.false, ap length c.vertices.ensures, ap (λ (s : SchemaData). length s.vertices) c.schema.ensures, AllZip-length _ _ _ c.sound.ensures.vertices) in
    c.loop-table.invariant ∙ ap (value_total vertex_values) (take_all c.loop-table.table g.vertices all)
