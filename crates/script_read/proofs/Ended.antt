-- A script that is read has no more blocks than lines, so it is one of the grammar.
use Rattle.std.proofs.Common.{◌≡◌, ap, ℕ, ◌+◌, ◌-◌, ◌^◌, ◌<◌, ◌≤◌, List, [], ◌∷◌, length, Bool, true, false, if◌then◌else◌, Result, Ok, Err, arith}
use Rattle.std.specs.Prelude.{◌==◌, IfOk, sum_by}
use Rattle.std.specs.List.{flat_map}
use Rattle.std.proofs.lemmas.List.{length-append}
use Rattle.std.proofs.lemmas.List.Sums.{sum_by-cons}
use Rattle.script_read.specs.declared.fault.ScriptFault.{ScriptFault}
use Rattle.script_read.specs.declared.script.Block.{Block}
use Rattle.script_read.specs.declared.script.Script.{Script}
use Rattle.script_read.specs.Lines.{lines_of, onto_first, cleaned, is_passed}
use Rattle.script_read.specs.Meaning.{IsScript, source_lines, block_lines, phase_lines, script_lines, kept_lines}
use Rattle.script_read.specs.Phases.{block_count}
use Rattle.script_read.specs.Script.{script_of, ReadsScript}
use Rattle.script_read.proofs.Kept.{is_script}
use Rattle.script_read.proofs.Spelled.{spells_lines}

-- each block spells a line
blocks_few : (actors : List (List ℕ)) (blocks : List Block) → length blocks ≤ length (flat_map (block_lines actors) blocks)
blocks_few actors [] = omega arith
blocks_few actors (b ∷ blocks) =
    let rest = blocks_few actors blocks in
    let both = length-append (block_lines actors b) (flat_map (block_lines actors) blocks) in
    omega (arith, rest, both)

phases_few : (actors : List (List ℕ)) (phases : List (List Block)) → sum_by block_count phases ≤ length (flat_map (phase_lines actors) phases)
phases_few actors [] = omega arith
phases_few actors (blocks ∷ phases) =
    let first = blocks_few actors blocks in
    let rest = phases_few actors phases in
    let total = sum_by-cons block_count blocks phases in
    let both = length-append (phase_lines actors blocks) (flat_map (phase_lines actors) phases) in
    omega (arith, first, rest, total, both)

kept_by : (b : Bool) (line : List ℕ) (lines : List (List ℕ)) (n : ℕ) → length lines ≤ n → length (if b then lines else line ∷ lines) ≤ n + 1
kept_by true line lines n h = omega (arith, h)
kept_by false line lines n h = omega (arith, h)

kept_few : (lines : List (List ℕ)) → length (kept_lines lines) ≤ length lines
kept_few [] = omega arith
kept_few (line ∷ lines) = let h = kept_by (is_passed (cleaned line)) (cleaned line) (kept_lines lines) (length lines) (kept_few lines) in omega (arith, h)

onto_few : (byte : ℕ) (lines : List (List ℕ)) (n : ℕ) → length lines ≤ n → length (onto_first byte lines) ≤ n + 1
onto_few byte [] n h = omega arith
onto_few byte (line ∷ lines) n h = omega (arith, h)

line_by : (b : Bool) (byte : ℕ) (lines : List (List ℕ)) (n : ℕ) → length lines ≤ n → length (if b then [] ∷ lines else onto_first byte lines) ≤ n + 1
line_by true byte lines n h = omega (arith, h)
line_by false byte lines n h = onto_few byte lines n h

-- each line has a byte
lines_few : (bytes : List ℕ) → length (lines_of bytes) ≤ length bytes
lines_few [] = omega arith
lines_few (byte ∷ bytes) = let h = line_by (byte == 10) byte (lines_of bytes) (length bytes) (lines_few bytes) in omega (arith, h)

blocks_bound : (script : Script) (bytes : List ℕ) → length bytes ≤ 16777216 → script_of bytes ≡ Ok script → sum_by block_count script.phases < 2 ^ 32 - 1
blocks_bound script bytes short h =
    let few = phases_few script.actors script.phases in
    let all = length-append (flat_map source_lines script.sources) (flat_map (phase_lines script.actors) script.phases) in
    let spelled = ap (length {A = List ℕ}) (spells_lines script bytes h) in
    let kept = kept_few (lines_of bytes) in
    let lines = lines_few bytes in
    omega (arith, few, all, spelled, kept, lines, short)

-- a script that is read is one of the grammar
pub reads_script : (answer : Result Script ScriptFault) (bytes : List ℕ) → length bytes ≤ 16777216 → ReadsScript answer (script_of bytes) → IfOk answer IsScript
reads_script (Ok script) bytes short h = is_script script bytes h (blocks_bound script bytes short h)
reads_script (Err e) bytes short h = tt

-- the lines that it spells are those that were read
pub reads_spelled : (answer : Result Script ScriptFault) (bytes : List ℕ) → ReadsScript answer (script_of bytes) → IfOk answer (λ script. script_lines script ≡ kept_lines (lines_of bytes))
reads_spelled (Ok script) bytes h = spells_lines script bytes h
reads_spelled (Err e) bytes h = tt
