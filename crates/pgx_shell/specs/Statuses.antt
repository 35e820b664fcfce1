-- What the statuses of the program say.
use Rattle.std.specs.Prelude.{◌≡◌, ◌⊎◌, ℕ, List, None, Err, IsOk, IsSome, IsSomeAnd}
use Rattle.std.specs.Io.KnownBytes.{Appends}
use Rattle.pgx_io.specs.ReadWrite.{AppendsFront}
use Rattle.pgx_shell.specs.Causes.{CauseOf}
use Rattle.pgx_shell.specs.Expected.{expected_run, expected_script}
use Rattle.pgx_shell.specs.Outside.{Outside, ReadFailed, WriteFailed}
use Rattle.pgx_shell.specs.Texts.{ActionOutcome, Wrote}
use Rattle.pgx_shell.specs.Words.{form_of, IsUsage}
use Rattle.pgx_shell.specs.Ending.{Ending, usage, EndingCause, error_line, stop_status, ending_text}
use Rattle.graph_config.specs.declared.fault.ConfigFault.{ConfigFault}
use Rattle.script_read.specs.declared.fault.LineWhy.{LineWhy}
use Rattle.pgx_shell.specs.declared.stop.Stop.{Stop}
use Rattle.pgx_shell.specs.declared.stop.Stop.TheVariants.{TooLong, BadLine, NoFile, BadConfig, BadTable}

-- the words are a form, and its whole text was written
abbrev pub DidAll : List (List ℕ) → Outside → Outside → Type 0
DidAll words before after = IsSomeAnd (form_of words) (λ action. Wrote (ActionOutcome action) before after)

-- the words are no form, and the usage line was written
abbrev pub SaidUsage : List (List ℕ) → Outside → Outside → Type 0
SaidUsage words before after =
    (form_of words ≡ None) × ((place : ℕ) × IsUsage words place × Appends before.sink.taken after.sink.taken (ending_text (usage place)))

-- this stop had its cause, without a fault in reading or writing, and its line was written
abbrev pub SaidStop : Stop → Outside → Outside → Type 0
SaidStop stop before after = CauseOf before.source.rest before.library.files ⊥ ⊥ stop × Appends before.sink.taken after.sink.taken (error_line stop)

-- the script is too long, or a line of it is at fault, and the line for that was written
abbrev pub SaidScript : Outside → Outside → Type 0
SaidScript before after = SaidStop TooLong before after ⊎ ((line : ℕ) × (why : LineWhy) × SaidStop (BadLine line why) before after)

-- a file is missing, or a configuration or a record is at fault, and the line for that was written
abbrev pub SaidSource : Outside → Outside → Type 0
SaidSource before after =
    ((name : List ℕ) × SaidStop (NoFile name) before after)
    ⊎ (((file : List ℕ) × (fault : ConfigFault) × SaidStop (BadConfig file fault) before after)
    ⊎ ((file : List ℕ) × (row : ℕ) × (number : ℕ) × SaidStop (BadTable file row number) before after))

-- a prefix was written of the text of an ending that had its cause
abbrev pub WroteFront : List (List ℕ) → Outside → Outside → Type 0
WroteFront words before after =
    (ending : Ending) × EndingCause words before after ending × AppendsFront before.sink.taken after.sink.taken (ending_text ending)

-- source and library tell their bytes and files, and they are accepted
abbrev pub Accepts : Outside → Type 0
Accepts before = IsSomeAnd before.source.rest (λ bytes. IsSomeAnd before.library.files (λ files. IsOk (expected_run bytes files)))

-- the source tells its bytes, and this stop is to be expected: of the script alone, or over the files that the library tells
abbrev pub Refuses : Outside → Stop → Type 0
Refuses before stop =
    IsSomeAnd before.source.rest (λ bytes. (expected_script bytes ≡ Err stop) ⊎ IsSomeAnd before.library.files (λ files. expected_run bytes files ≡ Err stop))

-- nothing outside failed
abbrev pub NothingFailed : Outside → Outside → Type 0
NothingFailed before after = (ReadFailed before after → ⊥) × (WriteFailed before after → ⊥)

-- where nothing outside failed, a form over an accepted script and accepted files is done, or memory ran out
abbrev pub IfAccepted : List (List ℕ) → Outside → Outside → ℕ → Type 0
IfAccepted words before after code = IsSome (form_of words) → Accepts before → NothingFailed before after → (code ≡ 0) ⊎ (code ≡ 5)

-- where nothing outside failed, a form over a refused script or refused files ends with that stop, or memory ran out
abbrev pub IfRefused : List (List ℕ) → Outside → Outside → ℕ → Type 0
IfRefused words before after code =
    (stop : Stop) → IsSome (form_of words) → Refuses before stop → NothingFailed before after → (code ≡ stop_status stop) ⊎ (code ≡ 5)
