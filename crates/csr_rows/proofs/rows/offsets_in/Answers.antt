use Rattle.std.proofs.Common.{rules, ◌+◌, ◌*◌, ◌≤◌, arith}
use Rattle.std.proofs.lemmas.List.FromFn.{map-range_with_len_more}
use Rattle.csr_rows.specs.Offsets.{pairs_below, half}
use Rattle.csr_rows.proofs.Sorting.{below_rises}
use Rattle.csr_rows.proofs.rows.offsets_in.Goals as goal

pub loop-row-preserved : goal.loop-row-preserved
loop-row-preserved c =
    let row = c.loop-row.row in
    let pairs = c.args.pairs.now in
    let more = map-range_with_len_more (pairs_below pairs) 0 row row (omega arith) in
    let on : pairs_below pairs row ≤ pairs_below pairs (row + 1) = below_rises (row * half) ((row + 1) * half) pairs (omega arith) in
    record { offsets = search rules; from = omega (arith, on, c.first_from-from.ensures) }
