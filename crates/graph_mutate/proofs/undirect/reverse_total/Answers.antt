use Rattle.std.proofs.Common.{◌+◌, ◌<◌, ◌≤◌, [], length, List, sum_by, subst, ap, ◌∙◌, arith, rules}
use Rattle.std.proofs.lemmas.List.{take_all}
use Rattle.graph_model.specs.declared.row.EdgeRow.{EdgeRow}
use Rattle.graph_columns.proofs.Tables.{sum_more}
use Rattle.graph_columns.proofs.GraphTables.{edge_table_count}
use Rattle.graph_mutate.specs.Undirected.{straight}
use Rattle.graph_mutate.proofs.Sizes.{take_le, straight_total}
use Rattle.graph_mutate.proofs.undirect.reverse_total.Goals as goal

pub overflow_add-count : goal.overflow_add-count
overflow_add-count c =
    let g = c.args.base.now in
    let t = c.loop-table.table in
    let count = edge_table_count g c.schema.result.now c.edges.result.now c.sound.ensures c.schema.ensures c.edges.ensures in
    let within = subst (λ n. t < n) count c.loop-table-test.true in
    let f = λ (rows : List EdgeRow). length (straight rows) in
    let more = sum_more f g.edges t [] within in
    let small : c.loop-table.count + c.straight_count-count.result ≤ 4194304 = omega (arith, more, c.loop-table.invariant, c.straight_count-count.ensures, take_le f (t + 1) g.edges, straight_total g.edges, c.sound.ensures.few_edges) in
    search rules

pub returns-clause-count : goal.returns-clause-count
returns-clause-count c =
    let g = c.args.base.now in
    let count = edge_table_count g c.schema.result.now c.edges.result.now c.sound.ensures c.schema.ensures c.edges.ensures in
    let all = take_all c.loop-table.table g.edges (omega (arith, count, c.loop-table-test.false)) in
    c.loop-table.invariant ∙ ap (sum_by (λ (rows : List EdgeRow). length (straight rows))) all

pub returns-clause-few : goal.returns-clause-few
returns-clause-few c =
    let g = c.args.base.now in
    omega (arith, c.loop-table.invariant, take_le (λ (rows : List EdgeRow). length (straight rows)) c.loop-table.table g.edges, straight_total g.edges, c.sound.ensures.few_edges)
