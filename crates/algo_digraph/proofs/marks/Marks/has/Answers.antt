use Rattle.algo_digraph.proofs.Cells.{has_is}
use Rattle.algo_digraph.proofs.marks.Marks.has.Goals as goal

pub returns : goal.returns
returns c = rw (← c.cell.ensures) (has_is c.cell.result c.args.mark c.requires.mark)
