use Rattle.std.proofs.Common.{◌≡◌, take}
use Rattle.csr_rows.specs.Rows.{row_count}
use Rattle.csr_rows.proofs.rows.row_count.Given as goal

abbrev pub invariant-loop-end : goal.invariant-loop-end
invariant-loop-end l = l.count ≡ row_count (take l.end-index l.ends)
