use Rattle.std.proofs.Common.{◌≡◌, ◌+◌, take}
use Rattle.csr_rows.specs.Offsets.{pairs_of}
use Rattle.csr_rows.proofs.rows.sorted_pairs.Given as goal

abbrev pub invariant-loop-place : goal.invariant-loop-place
invariant-loop-place g l = record {
  pairs : l.pairs.items ≡ pairs_of (take l.place l.ends);
  counted : l.steps ≡ l.fn.steps + l.place;
}
