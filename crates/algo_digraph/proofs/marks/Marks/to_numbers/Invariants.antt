use Rattle.std.proofs.Common.{◌≡◌, take}
use Rattle.algo_digraph.proofs.marks.Marks.to_numbers.Given as goal

abbrev pub invariant-loop-cell : goal.invariant-loop-cell
invariant-loop-cell l = l.list ≡ take l.cell-index l.cell-items
