use Rattle.std.proofs.Common.{negsuc, fold, ap, arith, ◌∙◌}
use Rattle.std.proofs.lemmas.List.{take_all}
use Rattle.graph_columns.proofs.GraphTables.{edge_table_count}
use Rattle.graph_mutate.specs.Undirected.{greatest_in}
use Rattle.graph_mutate.proofs.undirect.greatest_key.Goals as goal

pub returns : goal.returns
returns c =
    let g = c.args.base.now in
    let count = edge_table_count g c.schema.result.now c.edges.result.now c.sound.ensures c.schema.ensures c.edges.ensures in
    let all = take_all c.loop-table.table g.edges (omega (arith, count, c.loop-table-test.false)) in
    let whole = ap (fold greatest_in (negsuc 9223372036854775807)) all in
    c.loop-table.invariant ∙ whole
