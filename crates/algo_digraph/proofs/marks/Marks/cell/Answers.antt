use Rattle.algo_digraph.proofs.Cells.{cell_at}
use Rattle.algo_digraph.proofs.marks.Marks.cell.Goals as goal

pub returns : goal.returns
returns c =
    let s = c.self in
    let within = rw (← s.view_is) at c.requires in
    rw (c.as_slice.ensures, ← s.view_is) (cell_at s.inside.cells c.args.v within)
