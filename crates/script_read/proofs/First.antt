-- A fault that is found is the first.
use Rattle.std.proofs.Common.{◌≡◌, ◌∙◌, sym, refl, ap, ℕ, suc, ◌+◌, ◌-◌, List, [], ◌∷◌, take, drop, Some, Result, Ok, Err, arith}
use Rattle.std.proofs.Math.Logic.{◌⊎◌, inl, inr}
use Rattle.std.specs.Prelude.{IfErr}
use Rattle.std.specs.Result.{result_err}
use Rattle.script_read.specs.declared.fault.LineWhy.{LineWhy}
use Rattle.script_read.specs.declared.fault.LineWhy.TheVariants.{End}
use Rattle.script_read.specs.declared.fault.ScriptFault.{ScriptFault}
use Rattle.script_read.specs.declared.fault.ScriptFault.TheVariants.{BadLine, NoMemory}
use Rattle.script_read.specs.declared.reading.Section.{Section}
use Rattle.script_read.specs.declared.reading.Section.TheVariants as section
use Rattle.script_read.specs.declared.reading.Reading.{Reading}
use Rattle.script_read.specs.declared.script.Block.{Block}
use Rattle.script_read.specs.declared.script.Script.{Script}
use Rattle.script_read.specs.Lines.{lines_of, cleaned, line_step}
use Rattle.script_read.specs.Script.{opening, phases_at, ended, lines_read, script_of, ReadsScript}
use Rattle.script_read.specs.Grammar.{first_why}
use Rattle.script_read.specs.Meaning.{after, EndsInside, FaultNext, FirstFault, NamesFirst}
use Rattle.script_read.proofs.Inversions.{at_line_err, ok_err}
use Rattle.script_read.proofs.Kept.{IsReading, keeps, opens_well}
use Rattle.script_read.proofs.Spelled.{first_lines}
use Rattle.script_read.proofs.Whys.{line_why}

-- the fault lies so many lines behind the first of these
record Behind (n : ℕ) (s : Reading) (lines : List (List ℕ)) (number : ℕ) (why : LineWhy) : Type 0 where
  skipped : ℕ
  counted : number ≡ n + skipped
  left : Reading
  before : after s (take skipped lines) ≡ Ok left
  next : FaultNext left (drop skipped lines) why

ends_inside : (p : Section) (s : Reading) (w : LineWhy) → phases_at p s ≡ Err w → (w ≡ End) × EndsInside p
ends_inside section.Start s w h = absurd (ok_err w _ h)
ends_inside section.Vertices s w h = (cc, tt)
ends_inside section.Edges s w h = (cc, tt)
ends_inside section.Phase s w h = absurd (ok_err w _ h)
ends_inside section.Actor s w h = absurd (ok_err w _ h)

at_end_by : (n : ℕ) (s : Reading) (m : ℕ) (w : LineWhy) (f : List (List Block) → Result Script (ℕ × LineWhy))
    → ((x : List (List Block)) → f x ≡ Err (m, w) → ⊥)
    → ((phases_at s.section s ≡ Err w) × (m ≡ n)) ⊎ ((x : List (List Block)) × (phases_at s.section s ≡ Ok x) × (f x ≡ Err (m, w)))
    → Behind n s [] m w
at_end_by n s m w f none (inl a) = record { skipped = 0; counted = omega (arith, a.1); left = s; before = refl; next = ends_inside s.section s w a.0 }
at_end_by n s m w f none (inr b) = absurd (none b.0 b.2)

at_end : (n : ℕ) (s : Reading) (m : ℕ) (w : LineWhy) → ended n s ≡ Err (m, w) → Behind n s [] m w
unfolding ended
at_end n s m w h = at_end_by n s m w _ (λ x e. ok_err _ _ e) (at_line_err n (phases_at s.section s) _ m w h)

after_step : (s t : Reading) (line : List ℕ) (lines : List (List ℕ)) (r : Result Reading LineWhy) → line_step s (cleaned line) ≡ Ok t → after t lines ≡ r → after s (line ∷ lines) ≡ r
after_step s t line lines r h k = rw h k

-- a line that a step refuses has that why
refused : (s : Reading) (line : List ℕ) (w : LineWhy) → IsReading s → line_step s line ≡ Err w → first_why s line ≡ Some w
refused s line w good h = sym (line_why s line good) ∙ ap result_err h

found_by : (n : ℕ) (s : Reading) (line : List ℕ) (lines : List (List ℕ)) (m : ℕ) (w : LineWhy) → IsReading s
    → ((t : Reading) → IsReading t → lines_read (n + 1) t lines ≡ Err (m, w) → Behind (n + 1) t lines m w)
    → ((line_step s (cleaned line) ≡ Err w) × (m ≡ n)) ⊎ ((t : Reading) × (line_step s (cleaned line) ≡ Ok t) × (lines_read (n + 1) t lines ≡ Err (m, w)))
    → Behind n s (line ∷ lines) m w
found_by n s line lines m w good more (inl a) = record { skipped = 0; counted = omega (arith, a.1); left = s; before = refl; next = refused s (cleaned line) w good a.0 }
found_by n s line lines m w good more (inr b) =
    let d = more b.0 (keeps s b.0 (cleaned line) good b.1) b.2 in
    record { skipped = suc d.skipped; counted = omega (arith, d.counted); left = d.left; before = after_step s b.0 line _ _ b.1 d.before; next = d.next }

found : (n : ℕ) (s : Reading) (lines : List (List ℕ)) (m : ℕ) (w : LineWhy) → IsReading s → lines_read n s lines ≡ Err (m, w) → Behind n s lines m w
unfolding lines_read
found n s [] m w good h = at_end n s m w h
found n s (line ∷ lines) m w good h = found_by n s line lines m w good (λ t kept e. found (n + 1) t lines m w kept e) (at_line_err n (line_step s (cleaned line)) _ m w h)

first_of : (lines : List (List ℕ)) (m : ℕ) (w : LineWhy) → Behind 1 opening lines m w → FirstFault lines m w
first_of lines m w d =
    let e : m - 1 ≡ d.skipped = omega (arith, d.counted) in
    let t = first_lines d.left (take d.skipped lines) d.before in
    record { counted = omega (arith, d.counted); left = d.left; before = rw e d.before; spells = rw e t.spells; edges = t.edges; next = rw e d.next }

-- what an answer names is the first fault
pub names_first : (answer : Result Script ScriptFault) (bytes : List ℕ) → ReadsScript answer (script_of bytes) → IfErr answer (NamesFirst (lines_of bytes))
names_first (Ok x) bytes h = tt
names_first (Err (BadLine m w)) bytes h = first_of (lines_of bytes) m w (found 1 opening (lines_of bytes) m w opens_well h)
names_first (Err NoMemory) bytes h = tt
