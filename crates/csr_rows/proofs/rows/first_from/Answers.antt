use Rattle.std.proofs.Common.{arith}
use Rattle.csr_rows.proofs.Sorting.{rises, stops, goes_on}
use Rattle.csr_rows.proofs.rows.first_from.Goals as goal

pub returns-then-pairs-at : goal.returns-then-pairs-at
returns-then-pairs-at c =
    let no_more = stops c.args.limit c.args.pairs.now c.loop-at.at (rises c.args.pairs.now c.requires.rising) c.loop-at-test.true c.if-pairs-at.true in
    omega (arith, no_more, c.loop-at.invariant)

pub loop-at-preserved : goal.loop-at-preserved
loop-at-preserved c = goes_on c.args.limit c.args.pairs.now c.loop-at.at (rises c.args.pairs.now c.requires.rising) c.loop-at-test.true (omega (arith, c.if-pairs-at.false))
