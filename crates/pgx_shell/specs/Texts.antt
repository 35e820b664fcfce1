-- What the commands come to and write.
use Rattle.std.specs.Prelude.{◌≡◌, ℕ, List, ◌++◌, codes, length, sum_by, Option, None, Ok, IsOk, IfSome}
use Rattle.std.specs.Fmt.{decimal}
use Rattle.std.specs.Io.KnownBytes.{Appends}
use Rattle.pgx_io.specs.Files.{Files}
use Rattle.script_read.specs.declared.script.Block.{Block}
use Rattle.script_read.specs.Phases.{phase_commands}
use Rattle.script_run.specs.Run.{IsRunInOrder}
use Rattle.script_read.specs.declared.script.Script.{Script}
use Rattle.pgx_shell.specs.Expected.{Run, IsExpected, IfBoth, expected_script, expected_run}
use Rattle.pgx_shell.specs.Journal.{journal_text}
use Rattle.pgx_shell.specs.Outside.{Outside}
use Rattle.session_run.specs.Record.{ActorRecord}
use Rattle.pgx_shell.specs.declared.words.Action.{Action}
use Rattle.pgx_shell.specs.declared.words.Action.TheVariants.{Once, Check}

-- what a command comes to: the text that it writes, and, of commands that share a state between threads, the core records
-- that its book holds
pub record Outcome : Type 0 where
  pub text : List ℕ
  pub book : Option (List ActorRecord)

-- the outcome of `once`: the journal of a run of the script over its open sources, block after block, without a book
pub record OnceOutcome (rest : Option (List ℕ)) (known_files : Option Files) (outcome : Outcome) : Type 0 where
  pub run : Run
  pub journal : List ActorRecord
  pub expected : IsExpected rest known_files run
  pub is_run : IsRunInOrder run.script run.sources journal
  pub is : outcome ≡ record { text = journal_text run.script.actors journal; book = None }

-- how many commands stand in the phases of a script
abbrev pub command_count : List (List Block) → ℕ
command_count phases = sum_by phase_commands phases

-- the numbers of sources, actors and commands of a script
abbrev pub counts_text : Script → List ℕ
counts_text script =
    codes "ok " ++ decimal (length script.sources) ++ codes " " ++ decimal (length script.actors) ++ codes " " ++ decimal (command_count script.phases)
    ++ codes "\n"

-- the outcome of `check`: the line of numbers of a script, whose sources can be opened
pub record CheckOutcome (rest : Option (List ℕ)) (known_files : Option Files) (outcome : Outcome) : Type 0 where
  pub script : Script
  pub reads : IfSome rest (λ bytes. expected_script bytes ≡ Ok script)
  pub opens : IfBoth rest known_files (λ bytes files. IsOk (expected_run bytes files))
  pub is : outcome ≡ record { text = counts_text script; book = None }

-- the outcome of what the words ask for
abbrev pub ActionOutcome : Action → Option (List ℕ) → Option Files → Outcome → Type 0
ActionOutcome Once rest known_files = OnceOutcome rest known_files
ActionOutcome Check rest known_files = CheckOutcome rest known_files

-- the sink took the whole text of such an outcome, of what source and library told before the call
abbrev pub Wrote : (Option (List ℕ) → Option Files → Outcome → Type 0) → Outside → Outside → Type 0
Wrote IsOutcome before after =
    (outcome : Outcome) × IsOutcome before.source.rest before.library.files outcome × Appends before.sink.taken after.sink.taken outcome.text
