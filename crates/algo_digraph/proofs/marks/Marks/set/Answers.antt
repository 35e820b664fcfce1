use Rattle.std.proofs.Common.{◌∙◌, ap}
use Rattle.algo_digraph.specs.Marks.{marks_in}
use Rattle.algo_digraph.proofs.Cells.{set_mark}
use Rattle.algo_digraph.proofs.marks.Marks.set.Goals as goal

pub returns : goal.returns
returns c =
    let s = c.self in
    rw (← s.view_is) (ap marks_in c.set.ensures ∙ set_mark s.inside.cells c.args.v c.args.mark c.requires.mark)
