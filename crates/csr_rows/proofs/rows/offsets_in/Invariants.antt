use Rattle.std.proofs.Common.{◌≡◌, ◌≤◌, map}
use Rattle.std.specs.List.{range_with_len}
use Rattle.csr_rows.specs.Offsets.{pairs_below}
use Rattle.csr_rows.proofs.rows.offsets_in.Given as goal

abbrev pub invariant-loop-row : goal.invariant-loop-row
invariant-loop-row l = record {
  offsets : l.offsets ≡ map (pairs_below l.pairs) (range_with_len 0 l.row);
  from : l.from ≤ pairs_below l.pairs l.row;
}
