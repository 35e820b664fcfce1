use Rattle.std.proofs.Common.{◌≡◌, ◌++◌, take, map}
use Rattle.journal_text.specs.Lines.{spaced}
use Rattle.journal_text.specs.Published.{snap_text}
use Rattle.journal_text.proofs.published.push_snaps.Given as goal

abbrev pub invariant-loop-snap : goal.invariant-loop-snap
invariant-loop-snap l = l.text ≡ l.fn.text ++ spaced (map snap_text (take l.snap-index l.snaps))
