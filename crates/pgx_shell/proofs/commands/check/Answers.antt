use Rattle.std.proofs.Common.{◌≡◌, None}
use Rattle.std.specs.Io.KnownBytes.{Appends}
use Rattle.pgx_io.specs.ReadWrite.{AppendsFront}
use Rattle.pgx_io.specs.Seen.{SinkFailed}
use Rattle.pgx_shell.specs.Causes.{StopWrites}
use Rattle.pgx_shell.specs.Outside.{outside_of}
use Rattle.pgx_shell.specs.Texts.{CheckOutcome, Wrote}
use Rattle.pgx_shell.specs.declared.stop.Stop.TheVariants.{WriteFault}
use Rattle.pgx_shell.proofs.Answered.{on_ok, if_err}
use Rattle.pgx_shell.proofs.commands.check.Goals as goal

pub returns-clause-written : goal.returns-clause-written
returns-clause-written g c =
    let old = g.K.Sink.seen c.args.out.now in
    let new = g.K.Sink.seen c.write_text.new.out in
    let before = outside_of (g.S.Source.seen c.args.src.now) (g.L.Library.seen c.args.lib.now) old in
    let after = outside_of (g.S.Source.seen c.check_text.new.src) (g.L.Library.seen c.check_text.new.lib) new in
    on_ok (Appends old.taken new.taken c.in_ok-text.text) (Wrote CheckOutcome before after) c.write_text.result
    (λ took. (record { text = c.in_ok-text.text; book = None }, c.in_ok-text.ensures.text, took)) (rw c.as_str.ensures at c.write_text.ensures.ok)

pub returns-clause-left : goal.returns-clause-left
returns-clause-left g c =
    let old = g.K.Sink.seen c.args.out.now in
    let new = g.K.Sink.seen c.write_text.new.out in
    let before = outside_of (g.S.Source.seen c.args.src.now) (g.L.Library.seen c.args.lib.now) old in
    let after = outside_of (g.S.Source.seen c.check_text.new.src) (g.L.Library.seen c.check_text.new.lib) new in
    if_err (λ stop. (stop ≡ WriteFault) × SinkFailed old new × AppendsFront old.taken new.taken c.in_ok-text.text)
    (StopWrites CheckOutcome before after) c.write_text.result
    (λ stop why. rw why.0 (record { text = c.in_ok-text.text; book = None }, c.in_ok-text.ensures.text, why.2)) (rw c.as_str.ensures at c.write_text.ensures.err)
