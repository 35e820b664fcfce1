use Rattle.std.proofs.Common.{◌≤◌, ◌-◌, length}
use Rattle.csr_rows.proofs.Sorting.{below}
use Rattle.csr_rows.proofs.rows.first_from.Given as goal

abbrev pub invariant-loop-at : goal.invariant-loop-at
invariant-loop-at l = l.at ≤ below l.limit l.pairs

abbrev pub decreases-loop-at : goal.decreases-loop-at
decreases-loop-at l = length l.pairs - l.at
