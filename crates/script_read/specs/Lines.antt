-- The lines of a script.
use Rattle.std.specs.Prelude.{ℕ, ◌==◌, Bool, true, not, if◌then◌else◌, List, [], ◌∷◌, Result, Ok, Err}
use Rattle.std.specs.Str.{is_utf8}
use Rattle.std.specs.Str.Lines.{strip_carriage_return}
use Rattle.script_read.specs.declared.fault.LineWhy.{LineWhy}
use Rattle.script_read.specs.declared.fault.LineWhy.TheVariants as why
use Rattle.script_read.specs.declared.reading.Reading.{Reading}
use Rattle.script_read.specs.Sections.{line_in}

-- a byte before the first line
abbrev pub onto_first : ℕ → List (List ℕ) → List (List ℕ)
onto_first byte [] = (byte ∷ []) ∷ []
onto_first byte (line ∷ lines) = (byte ∷ line) ∷ lines

-- lines end with a line feed; a last piece without one is a line if it is not empty
abbrev pub lines_of : List ℕ → List (List ℕ)
lines_of [] = []
lines_of (byte ∷ bytes) = if byte == 10 then [] ∷ lines_of bytes else onto_first byte (lines_of bytes)

abbrev pub drop_spaces : List ℕ → List ℕ
drop_spaces [] = []
drop_spaces (c ∷ cs) = if c == 32 then drop_spaces cs else c ∷ cs

-- a line without one carriage return at its end, and then without the spaces at its start
abbrev pub cleaned : List ℕ → List ℕ
cleaned line = drop_spaces (strip_carriage_return line)

-- an empty line, or one that begins with `#`
abbrev pub is_passed : List ℕ → Bool
is_passed [] = true
is_passed (c ∷ cs) = c == 35

-- what a cleaned line does
unfoldable pub line_step : Reading → List ℕ → Result Reading LineWhy
line_step s line =
    if is_passed line then Ok s
    else if not (is_utf8 line) then Err why.Utf8
    else line_in s.section s line
