use Rattle.std.proofs.Common.{◌∙◌}
use Rattle.std.proofs.lemmas.List.{take_all}
use Rattle.algo_digraph.proofs.Cells.{numbers_long, number_at}
use Rattle.algo_digraph.proofs.marks.Marks.to_numbers.Goals as goal

pub returns-clause-len : goal.returns-clause-len
returns-clause-len c =
    let s = c.self in
    rw (← s.view_is) (numbers_long s.inside.cells c.loop-cell.list (c.loop-cell.invariant ∙ take_all c.loop-cell.cell-index c.as_slice-cell-items.result.now c.loop-cell-test.false ∙ c.as_slice-cell-items.ensures))

pub returns-clause-each : goal.returns-clause-each
returns-clause-each c =
    let s = c.self in
    let all = rw (← s.view_is) at c.requires in
    rw (← s.view_is) (number_at s.inside.cells c.loop-cell.list (c.loop-cell.invariant ∙ take_all c.loop-cell.cell-index c.as_slice-cell-items.result.now c.loop-cell-test.false ∙ c.as_slice-cell-items.ensures) all)
