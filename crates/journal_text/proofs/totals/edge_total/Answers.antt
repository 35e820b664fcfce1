use Rattle.std.proofs.Common.{◌<◌, ◌≤◌, List, [], length, ap, ◌∙◌, arith}
use Rattle.std.proofs.lemmas.List.{take_all}
use Rattle.std.proofs.lemmas.List.Sums.{sum_by_more, sum_by_more_le}
use Rattle.graph_schema.specs.Schema.{SchemaData}
use Rattle.graph_model.specs.declared.row.EdgeRow.{EdgeRow}
use Rattle.graph_model.specs.Keys.{row_total}
use Rattle.graph_model.proofs.Zips.{AllZip-length}
use Rattle.journal_text.proofs.totals.edge_total.Goals as goal

pub overflow_add-total : goal.overflow_add-total
overflow_add-total c =
    let g = c.args.on.now in
    let t = c.loop-table.table in
    let within : t < length g.edges = omega (arith, ap length c.edges.ensures, ap (λ (s : SchemaData). length s.edges) c.schema.ensures, AllZip-length _ _ _ c.sound.ensures.edges) in
    omega (arith, sum_by_more_le (λ (rows : List EdgeRow). length rows) g.edges t [] within, c.edge_count.ensures, c.loop-table.invariant, c.sound.ensures.few_edges)

pub loop-table-preserved : goal.loop-table-preserved
loop-table-preserved c =
    let g = c.args.on.now in
    let t = c.loop-table.table in
    let within : t < length g.edges = omega (arith, ap length c.edges.ensures, ap (λ (s : SchemaData). length s.edges) c.schema.ensures, AllZip-length _ _ _ c.sound.ensures.edges) in
    omega (arith, sum_by_more (λ (rows : List EdgeRow). length rows) g.edges t [] within, c.edge_count.ensures, c.loop-table.invariant)

pub returns : goal.returns
returns c =
    let g = c.args.on.now in
    let all : length g.edges ≤ c.loop-table.table = omega (arith, ap length c.edges.ensures, ap (λ (s : SchemaData). length s.edges) c.schema.ensures, AllZip-length _ _ _ c.sound.ensures.edges) in
    c.loop-table.invariant ∙ ap (λ (tables : List (List EdgeRow)). row_total tables) (take_all c.loop-table.table g.edges all)
