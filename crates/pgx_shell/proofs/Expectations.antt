-- What is expected of a script, by what is expected of its bytes and of its sources.
use Rattle.std.proofs.Common.{◌≡◌, ◌⊎◌, inr, refl, List, ℕ, Result, Ok, Err, IsOk, Option, Some, None, IfSome, get_or}
use Rattle.std.proofs.lemmas.Bool.{false≢true}
use Rattle.std.specs.Prelude.{All}
use Rattle.pgx_io.specs.Files.{Files}
use Rattle.pgx_io.specs.Seen.{LibrarySeen, LibraryFailed}
use Rattle.script_read.specs.Meaning.{IsScript, HasFiles}
use Rattle.script_read.specs.declared.script.SourceForm.{SourceForm}
use Rattle.script_read.specs.declared.script.SourceForm.TheVariants as form
use Rattle.script_read.specs.declared.script.Script.{Script}
use Rattle.catalogue_state.specs.declared.parts.SourceData.{SourceData}
use Rattle.pgx_shell.specs.Expected.{expected_script, expected_run, IfBoth, IsExpected, IsExpectedStop}
use Rattle.pgx_shell.specs.Sources.{source_stop, or_stop}
use Rattle.table_loader.specs.Fault.{◌>>=◌}
use Rattle.source_open.specs.Opening.{opened, names_of, opened_names, AreInlineOf, HasNoChanges, OpenCause}
use Rattle.source_open.specs.declared.fault.SourceFault.{SourceFault}
use Rattle.source_open.specs.declared.fault.SourceFault.TheVariants as source
use Rattle.pgx_shell.specs.Causes.{CauseOf}

-- a script that stands in the bytes, over its open sources
pub run_expected : (rest : Option (List ℕ)) (known_files : Option Files) (script : Script) (sources : List SourceData) → IfSome rest (λ bytes. expected_script bytes ≡ Ok script)
    → IfSome known_files (λ files. opened files script.sources ≡ Ok sources) → opened_names sources ≡ names_of script.sources → AreInlineOf script.sources sources → IsExpected rest known_files (record { script = script; sources = sources })
run_expected None known_files script sources reads opens names inline = record { script = tt; names = names; inline = inline; sources = tt }
run_expected (Some bytes) None script sources reads opens names inline = record { script = reads; names = names; inline = inline; sources = tt }
run_expected (Some bytes) (Some files) script sources reads opens names inline = record { script = reads; names = names; inline = inline; sources = rw reads (rw opens refl) }

ok_kept : {A B : Type 0} (r : Result A SourceFault) (f : A → B) → IsOk r → IsOk (or_stop r >>= (λ x. Ok (f x)))
ok_kept (Ok x) f h = refl
ok_kept (Err fault) f h = absurd (false≢true h)

-- a script whose sources open
pub opens_expected : (rest : Option (List ℕ)) (known_files : Option Files) (script : Script) → IfSome rest (λ bytes. expected_script bytes ≡ Ok script)
    → IfSome known_files (λ files. IsOk (opened files script.sources)) → IfBoth rest known_files (λ bytes files. IsOk (expected_run bytes files))
opens_expected None known_files script reads opens = tt
opens_expected (Some bytes) None script reads opens = tt
opens_expected (Some bytes) (Some files) script reads opens = rw reads (ok_kept (opened files script.sources) (λ (sources : List SourceData). record { script = script; sources = sources }) opens)

-- the fault of a script's sources is expected as the stop that it is
fault_expected : (rest : Option (List ℕ)) (known_files : Option Files) (script : Script) (fault : SourceFault) → IfSome rest (λ bytes. expected_script bytes ≡ Ok script)
    → IfSome known_files (λ files. opened files script.sources ≡ Err fault) → IsExpectedStop rest known_files (source_stop fault)
fault_expected None known_files script fault reads opens = record { script = tt; stops = tt }
fault_expected (Some bytes) None script fault reads opens = record { script = rw reads refl; stops = tt }
fault_expected (Some bytes) (Some files) script fault reads opens = record { script = rw reads refl; stops = rw reads (rw opens refl) }

-- and has the cause of that stop
pub stop_expected : (rest : Option (List ℕ)) (before after : LibrarySeen) (script : Script) (others : Type 0) (fault : SourceFault) → IfSome rest (λ bytes. expected_script bytes ≡ Ok script)
    → OpenCause before after (λ files. opened files script.sources) fault → CauseOf rest before.files (others ⊎ LibraryFailed before after) ⊥ (source_stop fault)
stop_expected rest before after script others (source.NoFile name) reads cause = fault_expected rest before.files script (source.NoFile name) reads cause
stop_expected rest before after script others (source.BadConfig file fault) reads cause = (cause.0, fault_expected rest before.files script (source.BadConfig file fault) reads cause.1)
stop_expected rest before after script others (source.BadTable file row number) reads cause = fault_expected rest before.files script (source.BadTable file row number) reads cause
stop_expected rest before after script others source.ReadFault reads cause = inr cause
stop_expected rest before after script others source.NoMemory reads cause = tt

-- no source of a script has a file of changes
unchanged : (f : SourceForm) → HasFiles f → HasNoChanges f
unchanged (form.Inline vertices edges) has = tt
unchanged (form.Files config None) has = tt
unchanged (form.Files config (Some changes)) has = absurd (let e : ◌≡◌ {A = Option (List ℕ)} (Some changes) None = has.1 in cc)

pub no_changes : (script : Script) → IsScript script → All (λ source. HasNoChanges source.form) script.sources
no_changes script is = λ k d within. unchanged (get_or script.sources k d).form (is.files k d within)
