-- What the bytes of a script come to, where nothing fails.
use Rattle.std.specs.Prelude.{◌≡◌, ℕ, List, Option, Result, Ok, Err, IsOk, IfSome, length, nat_lt, if◌then◌else◌}
use Rattle.script_read.specs.Script.{script_of}
use Rattle.script_read.specs.declared.script.Script.{Script}
use Rattle.script_read.specs.declared.fault.LineWhy.{LineWhy}
use Rattle.pgx_io.specs.Files.{Files}
use Rattle.table_loader.specs.Fault.{◌>>=◌}
use Rattle.source_open.specs.Opening.{opened, names_of, opened_names, AreInlineOf}
use Rattle.pgx_shell.specs.Sources.{or_stop}
use Rattle.catalogue_state.specs.declared.parts.SourceData.{SourceData}
use Rattle.pgx_shell.specs.declared.stop.Stop.{Stop}
use Rattle.pgx_shell.specs.declared.stop.Stop.TheVariants.{TooLong, BadLine}

-- a script with what its sources open to
pub record Run : Type 0 where
  pub script : Script
  pub sources : List SourceData

-- a script, or the stop that its first line at fault is
abbrev pub line_stop : Result Script (ℕ × LineWhy) → Result Script Stop
line_stop (Ok script) = Ok script
line_stop (Err fault) = Err (BadLine fault.0 fault.1)

-- the script of some bytes, which are not too many, or the first line at fault
abbrev pub expected_script : List ℕ → Result Script Stop
expected_script bytes = if nat_lt 16777216 (length bytes) then Err TooLong else line_stop (script_of bytes)

-- the script with its open sources, or the first stop
abbrev pub expected_run : List ℕ → Files → Result Run Stop
expected_run bytes files = expected_script bytes >>= λ script. or_stop (opened files script.sources) >>= λ sources. Ok (record { script = script; sources = sources })

-- what holds of the source's bytes and the library's files, where both are told
abbrev pub IfBoth : Option (List ℕ) → Option Files → (List ℕ → Files → Type 0) → Type 0
IfBoth rest known_files P = IfSome rest (λ bytes. IfSome known_files (λ files. P bytes files))

-- The run is the expected one: its script where the source tells its bytes, and its open sources where the library tells its files,
-- too. Whatever is told, the open sources have the names of the script's sources, in their order, and each inline source is open with
-- the graph of its lines.
pub record IsExpected (rest : Option (List ℕ)) (known_files : Option Files) (run : Run) : Type 0 where
  pub script : IfSome rest (λ bytes. expected_script bytes ≡ Ok run.script)
  pub names : opened_names run.sources ≡ names_of run.script.sources
  pub inline : AreInlineOf run.script.sources run.sources
  pub sources : IfBoth rest known_files (λ bytes files. expected_run bytes files ≡ Ok run)

-- The sources bring this stop: the script is accepted where the source tells its bytes, and the stop is the expected one
-- where the library tells its files, too.
pub record IsExpectedStop (rest : Option (List ℕ)) (known_files : Option Files) (stop : Stop) : Type 0 where
  pub script : IfSome rest (λ bytes. IsOk (expected_script bytes))
  pub stops : IfBoth rest known_files (λ bytes files. expected_run bytes files ≡ Err stop)
