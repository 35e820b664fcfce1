use Rattle.std.proofs.Common.{add-one, arith}
use Rattle.std.proofs.lemmas.List.{take_rest}
use Rattle.script_read.proofs.Feeds.{lines_of_feed, lines_of_rest}
use Rattle.script_read.proofs.lines.first_line.Goals as goal

pub returns-then-byte-eq10-clause-lines : goal.returns-then-byte-eq10-clause-lines
returns-then-byte-eq10-clause-lines c =
    rw (take_rest, add-one) (lines_of_feed c.args.bytes.now c.loop-i.i c.loop-i-test.true c.loop-i.invariant c.if-byte-eq10.true)

pub returns-clause-lines : goal.returns-clause-lines
returns-clause-lines c = lines_of_rest c.args.bytes.now c.requires (λ k h. c.loop-i.invariant k (omega arith))
