-- The script that bytes stand for, or its first line with a fault.
use Rattle.std.specs.Prelude.{◌≡◌, ℕ, ◌+◌, ◌++◌, List, [], ◌∷◌, Result, Ok, Err, ⊤}
use Rattle.script_read.specs.declared.fault.LineFault.{LineFault}
use Rattle.script_read.specs.declared.fault.LineFault.TheVariants as fault
use Rattle.script_read.specs.declared.fault.LineWhy.{LineWhy}
use Rattle.script_read.specs.declared.fault.LineWhy.TheVariants as why
use Rattle.script_read.specs.declared.fault.ScriptFault.{ScriptFault}
use Rattle.script_read.specs.declared.fault.ScriptFault.TheVariants.{BadLine, NoMemory}
use Rattle.script_read.specs.declared.reading.Section.{Section}
use Rattle.script_read.specs.declared.reading.Section.TheVariants as section
use Rattle.script_read.specs.declared.reading.Reading.{Reading}
use Rattle.script_read.specs.declared.script.Block.{Block}
use Rattle.script_read.specs.declared.script.Script.{Script}
use Rattle.script_read.specs.Lines.{lines_of, cleaned, line_step}
use Rattle.script_read.specs.Sections.{no_block}

-- what is read before the first line
abbrev pub opening : Reading
opening = record {
  section = section.Start;
  sources = [];
  source = record { name = []; vertices = []; edges = [] };
  actors = [];
  phases = [];
  blocks = [];
  block = no_block;
  command_count = 0;
}

-- the phases that have been read, the open one among them
abbrev pub phases_so_far : Section → Reading → List (List Block)
phases_so_far section.Start s = s.phases
phases_so_far section.Vertices s = s.phases
phases_so_far section.Edges s = s.phases
phases_so_far section.Phase s = s.phases ++ s.blocks ∷ []
phases_so_far section.Actor s = s.phases ++ (s.blocks ++ s.block ∷ []) ∷ []

-- the phases at the end; the end inside a source is a fault
abbrev pub phases_at : Section → Reading → Result (List (List Block)) LineWhy
phases_at section.Start s = Ok (phases_so_far section.Start s)
phases_at section.Vertices s = Err why.End
phases_at section.Edges s = Err why.End
phases_at section.Phase s = Ok (phases_so_far section.Phase s)
phases_at section.Actor s = Ok (phases_so_far section.Actor s)

-- what comes of a step at a line, which has this number
abbrev pub at_line : {A B : Type 0} → ℕ → Result A LineWhy → (A → Result B (ℕ × LineWhy)) → Result B (ℕ × LineWhy)
at_line number (Ok x) f = f x
at_line number (Err why) f = Err (number, why)

-- the script that has been read at its end, where this would be the next line
unfoldable pub ended : ℕ → Reading → Result Script (ℕ × LineWhy)
ended number s = at_line number (phases_at s.section s) (λ phases. Ok (record { sources = s.sources; actors = s.actors; phases = phases }))

-- the script that these lines complete, the first of which has this number
unfoldable pub lines_read : ℕ → Reading → List (List ℕ) → Result Script (ℕ × LineWhy)
lines_read number s [] = ended number s
lines_read number s (line ∷ lines) = at_line number (line_step s (cleaned line)) (λ t. lines_read (number + 1) t lines)

-- the script of bytes, or the number of the first line with a fault, from 1, and its first why
abbrev pub script_of : List ℕ → Result Script (ℕ × LineWhy)
script_of bytes = lines_read 1 opening (lines_of bytes)

-- the answer is what is read; memory may run out anywhere
abbrev pub ReadsScript : Result Script ScriptFault → Result Script (ℕ × LineWhy) → Type 0
ReadsScript (Ok script) read = read ≡ Ok script
ReadsScript (Err (BadLine number why)) read = read ≡ Err (number, why)
ReadsScript (Err NoMemory) read = ⊤

-- a line's fault, at the line's number
abbrev pub fault_at : ℕ → LineFault → ScriptFault
fault_at number (fault.Bad why) = BadLine number why
fault_at number fault.NoMemory = NoMemory
