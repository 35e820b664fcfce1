use Rattle.std.proofs.Common.{◌≡◌, take}
use Rattle.pgx_shell.specs.Journal.{journal_text}
use Rattle.pgx_shell.proofs.printing.journal.Given as goal

abbrev pub invariant-loop-entry : goal.invariant-loop-entry
invariant-loop-entry g l = l.text ≡ journal_text l.names (take l.entry-index l.records)
