use Rattle.std.proofs.Common.{ap, ◌∙◌, ◌<◌, ◌≤◌, ◌++◌, subst, length, get_or, arith}
use Rattle.std.specs.List.{enumerate_from}
use Rattle.std.proofs.lemmas.List.{take_all}
use Rattle.std.proofs.lemmas.List.FromFn.{length-enumerate_from}
use Rattle.journal_text.specs.Graphs.{by_tables, ends_of_vertex}
use Rattle.journal_text.proofs.Tables.{more_numbered_lines}
use Rattle.journal_text.proofs.graph.push_ends.Goals as goal

pub loop-table-preserved : goal.loop-table-preserved
loop-table-preserved c =
    let g = c.args.on.now in
    let items = c.vertices-shape-items.ensures ∙ ap (λ s. s.vertices) c.schema.ensures in
    more_numbered_lines (ends_of_vertex g) g.schema.vertices g.vertices c.loop-table.table c.shape-item.result c.args.out.now c.loop-table.out _
    (subst (λ ts. c.loop-table.table < length ts) items c.loop-table-test.true)
    (c.shape-item.is ∙ ap (λ ts. get_or ts c.loop-table.table c.shape-item.result) items)
    c.loop-table.invariant c.in_ok-push_table_ends.ensures

pub returns : goal.returns
returns c =
    let g = c.args.on.now in
    let items = c.vertices-shape-items.ensures ∙ ap (λ s. s.vertices) c.schema.ensures in
    let all : length (enumerate_from 0 g.schema.vertices) ≤ c.loop-table.table = omega (arith, length-enumerate_from 0 g.schema.vertices, ap length items, c.loop-table-test.false) in
    c.loop-table.invariant
    ∙ ap (λ tables. c.args.out.now ++ by_tables (ends_of_vertex g) tables g.vertices) (take_all c.loop-table.table (enumerate_from 0 g.schema.vertices) all)
