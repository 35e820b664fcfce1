-- When each stop comes, and what it leaves written.
use Rattle.std.specs.Prelude.{◌≡◌, ℕ, List, Option, Err, IfSome, ⊤}
use Rattle.pgx_io.specs.Files.{Files}
use Rattle.pgx_io.specs.ReadWrite.{AppendsFront}
use Rattle.pgx_io.specs.Seen.{SourceSeen, SourceFailed}
use Rattle.pgx_shell.specs.Expected.{expected_script, IsExpectedStop}
use Rattle.pgx_shell.specs.Outside.{Outside, ReadFailed, WriteFailed}
use Rattle.source_open.specs.Opening.{HasNumber}
use Rattle.pgx_shell.specs.Texts.{Outcome}
use Rattle.pgx_shell.specs.declared.stop.Stop.{Stop}
use Rattle.pgx_shell.specs.declared.stop.Stop.TheVariants.{TooLong, BadLine, NoFile, BadConfig, BadTable, ReadFault, WriteFault, NoMemory}

-- reading the script stops only for this
abbrev pub ScriptCause : SourceSeen → SourceSeen → Stop → Type 0
ScriptCause before after TooLong = IfSome before.rest (λ bytes. expected_script bytes ≡ Err TooLong)
ScriptCause before after (BadLine line why) = IfSome before.rest (λ bytes. expected_script bytes ≡ Err (BadLine line why))
ScriptCause before after (NoFile name) = ⊥
ScriptCause before after (BadConfig file fault) = ⊥
ScriptCause before after (BadTable file row number) = ⊥
ScriptCause before after ReadFault = SourceFailed before after
ScriptCause before after WriteFault = ⊥
ScriptCause before after NoMemory = ⊤

-- The cause of each stop, where source and library tell these bytes and files. `read_failed`: the source or the library failed;
-- `write_failed`: the sink did.
abbrev pub CauseOf : Option (List ℕ) → Option Files → Type 0 → Type 0 → Stop → Type 0
CauseOf rest known_files read_failed write_failed TooLong = IfSome rest (λ bytes. expected_script bytes ≡ Err TooLong)
CauseOf rest known_files read_failed write_failed (BadLine line why) = IfSome rest (λ bytes. expected_script bytes ≡ Err (BadLine line why))
CauseOf rest known_files read_failed write_failed (NoFile name) = IsExpectedStop rest known_files (NoFile name)
CauseOf rest known_files read_failed write_failed (BadConfig file fault) = HasNumber fault × IsExpectedStop rest known_files (BadConfig file fault)
CauseOf rest known_files read_failed write_failed (BadTable file row number) = IsExpectedStop rest known_files (BadTable file row number)
CauseOf rest known_files read_failed write_failed ReadFault = read_failed
CauseOf rest known_files read_failed write_failed WriteFault = write_failed
CauseOf rest known_files read_failed write_failed NoMemory = ⊤

-- the cause of each stop of a call
abbrev pub StopCause : Outside → Outside → Stop → Type 0
StopCause before after stop = CauseOf before.source.rest before.library.files (ReadFailed before after) (WriteFailed before after) stop

-- what the sink took by the time of a stop: a prefix of the text of the outcome that was being written, or nothing
abbrev pub StopWrites : (Option (List ℕ) → Option Files → Outcome → Type 0) → Outside → Outside → Stop → Type 0
StopWrites IsOutcome before after TooLong = after.sink.taken ≡ before.sink.taken
StopWrites IsOutcome before after (BadLine line why) = after.sink.taken ≡ before.sink.taken
StopWrites IsOutcome before after (NoFile name) = after.sink.taken ≡ before.sink.taken
StopWrites IsOutcome before after (BadConfig file fault) = after.sink.taken ≡ before.sink.taken
StopWrites IsOutcome before after (BadTable file row number) = after.sink.taken ≡ before.sink.taken
StopWrites IsOutcome before after ReadFault = after.sink.taken ≡ before.sink.taken
StopWrites IsOutcome before after WriteFault =
    (outcome : Outcome) × IsOutcome before.source.rest before.library.files outcome × AppendsFront before.sink.taken after.sink.taken outcome.text
StopWrites IsOutcome before after NoMemory = after.sink.taken ≡ before.sink.taken
