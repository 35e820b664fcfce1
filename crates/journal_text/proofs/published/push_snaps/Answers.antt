use Rattle.std.proofs.Common.{map, take, subst, rules}
use Rattle.std.specs.Io.{StartsWith}
use Rattle.journal_text.specs.Lines.{spaced}
use Rattle.journal_text.specs.Published.{snap_text}
use Rattle.journal_text.proofs.LinesTold.{begins_shorter}
use Rattle.journal_text.proofs.published.push_snaps.Goals as goal

pub returns-in_err-push_snap-clause-begins : goal.returns-in_err-push_snap-clause-begins
returns-in_err-push_snap-clause-begins c =
    let begins : StartsWith c.push_snap.new.text c.args.text.now =
    begins_shorter c.args.text.now (spaced (map snap_text (take c.loop-snap.snap-index c.args.snaps.now))) c.push_snap.new.text
    (subst (StartsWith c.push_snap.new.text) c.loop-snap.invariant c.in_err-push_snap.ensures.begins) in
    search rules
