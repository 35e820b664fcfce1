-- Lines, one after another.
use Rattle.std.proofs.Common.{◌≡◌, refl, ℕ, ◌+◌, List, [], ◌∷◌, length, Bool, true, Result, Ok, Err, arith}
use Rattle.std.specs.Prelude.{◌==◌}
use Rattle.std.proofs.lemmas.Bool.Decides.{nat_tests}
use Rattle.script_read.specs.declared.fault.LineFault.{LineFault}
use Rattle.script_read.specs.declared.fault.LineFault.TheVariants as fault
use Rattle.script_read.specs.declared.fault.LineWhy.{LineWhy}
use Rattle.script_read.specs.declared.reading.Reading.{Reading}
use Rattle.script_read.specs.declared.script.Script.{Script}
use Rattle.script_read.specs.Faults.{Writes}
use Rattle.script_read.specs.Lines.{cleaned, lines_of, line_step}
use Rattle.script_read.specs.Script.{ended, lines_read, ReadsScript, fault_at}
use Rattle.script_read.specs.declared.fault.ScriptFault.{ScriptFault}

-- a line without a fault leaves the rest to the lines after it
pub goes_on : (n : ℕ) (s t : Reading) (line : List ℕ) (lines rest : List (List ℕ)) (whole : Result Script (ℕ × LineWhy))
    → lines ≡ line ∷ rest → line_step s (cleaned line) ≡ Ok t → whole ≡ lines_read n s lines → whole ≡ lines_read (n + 1) t rest
unfolding lines_read
goes_on n s t line lines rest whole front h w = rw (front, h) at w

-- a line with a fault decides
pub stops : (n : ℕ) (e : LineFault) (s t : Reading) (line : List ℕ) (lines rest : List (List ℕ)) (whole : Result Script (ℕ × LineWhy))
    → lines ≡ line ∷ rest → Writes {A = Reading} {B = Unit {0}} (Err e) t (line_step s (cleaned line)) → whole ≡ lines_read n s lines → ReadsScript (Err (fault_at n e)) whole
unfolding lines_read
stops n (fault.Bad why) s t line lines rest whole front h w = rw (front, h) at w
stops n fault.NoMemory s t line lines rest whole front h w = tt

no_lines : (bytes : List ℕ) (b : Bool) → b ≡ (length bytes == 0) → b ≡ true → lines_of bytes ≡ []
no_lines [] b e h = refl
no_lines (byte ∷ bytes) b e h = grind (arith, nat_tests)

-- with no byte left the script is ended
pub ends : (n : ℕ) (s : Reading) (rest : List ℕ) (answer : Result Script ScriptFault) (whole : Result Script (ℕ × LineWhy)) (b : Bool)
    → b ≡ (length rest == 0) → b ≡ true → ReadsScript answer (ended n s) → whole ≡ lines_read n s (lines_of rest) → ReadsScript answer whole
unfolding lines_read
ends n s rest answer whole b e t h w = rw (w, no_lines rest b e t) h
