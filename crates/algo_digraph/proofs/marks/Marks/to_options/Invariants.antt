use Rattle.std.proofs.Common.{◌≡◌, take}
use Rattle.algo_digraph.specs.Marks.{marks_in}
use Rattle.algo_digraph.proofs.marks.Marks.to_options.Given as goal

abbrev pub invariant-loop-cell : goal.invariant-loop-cell
invariant-loop-cell l = l.list ≡ marks_in (take l.cell-index l.cell-items)
