-- The grammar as a table of lines, and the first why that a line has by it.
use Rattle.std.specs.Prelude.{ℕ, Bool, not, nat_le, if◌then◌else◌, find, map, sum_by, List, [], ◌∷◌, length, codes, Option, Some, None}
use Rattle.std.specs.List.{list_any}
use Rattle.std.specs.Option.{option_or}
use Rattle.std.specs.Str.{is_utf8}
use Rattle.script_read.specs.declared.fault.LineWhy.{LineWhy}
use Rattle.script_read.specs.declared.fault.LineWhy.TheVariants as why
use Rattle.script_read.specs.declared.reading.Section.{Section}
use Rattle.script_read.specs.declared.reading.Section.TheVariants as section
use Rattle.script_read.specs.declared.reading.Reading.{Reading}
use Rattle.script_read.specs.Commands.{CommandRow, commands}
use Rattle.script_read.specs.Dues.{Due, text, a_name, a_file, a_key, words_why}
use Rattle.script_read.specs.Later.{comes_later}
use Rattle.script_read.specs.Lines.{is_passed}
use Rattle.script_read.specs.Phases.{phase_commands}
use Rattle.script_read.specs.Script.{phases_so_far}
use Rattle.script_read.specs.Sections.{has_source, blocks_at, actor_name}
use Rattle.script_read.specs.Words.{same, words_of, word_at}

-- a line: its first word, and the forms that the words behind it may have, each what is due at these words
abbrev pub Row : Type 0
Row = List ℕ × List (List Due)

-- a line of one form
abbrev pub one_form : List ℕ → List Due → Row
one_form word dues = (word, dues ∷ [])

-- the forms of a source: `S inline`, `S config FILE`
abbrev pub source_forms : List (List Due)
source_forms = (a_name ∷ text (codes "inline") ∷ []) ∷ (a_name ∷ text (codes "config") ∷ a_file ∷ []) ∷ []

-- a line of a command
abbrev pub command_form : CommandRow → Row
command_form command = one_form command.word command.dues

-- the commands that are built
abbrev pub command_rows : List Row
command_rows = map command_form commands

-- the lines that are built, by the section where they are allowed
abbrev pub rows_in : Section → List Row
rows_in section.Start = (codes "source", source_forms) ∷ one_form (codes "phase") [] ∷ []
rows_in section.Vertices = one_form (codes "v") (a_key ∷ []) ∷ one_form (codes "e") (a_key ∷ a_key ∷ a_key ∷ []) ∷ one_form (codes "end") [] ∷ []
rows_in section.Edges = one_form (codes "e") (a_key ∷ a_key ∷ a_key ∷ []) ∷ one_form (codes "end") [] ∷ []
rows_in section.Phase = one_form (codes "phase") [] ∷ one_form (codes "actor") (a_name ∷ []) ∷ []
rows_in section.Actor = one_form (codes "phase") [] ∷ one_form (codes "actor") (a_name ∷ []) ∷ command_rows

-- the why of a line's words, where the line is this row, or no row begins with its first word
abbrev pub row_why : List (List ℕ) → Option Row → Option LineWhy
row_why words None = Some why.Word
row_why words (Some row) = words_why row.1 words

-- whether a text is one of these
abbrev pub has_text : List (List ℕ) → List ℕ → Bool
has_text texts word = list_any (λ t. same t word) texts

-- the names of the actors of the open phase
abbrev pub actors_here : Reading → List (List ℕ)
actors_here s = map (λ b. actor_name s.actors b.actor) (blocks_at s.section s)

-- how many commands stand in all phases
abbrev pub commands_so_far : Reading → ℕ
commands_so_far s = sum_by phase_commands (phases_so_far s.section s)

-- a source whose name stands again, and the 65th source
abbrev pub source_why : Reading → List ℕ → Option LineWhy
source_why s name =
    if has_source s.sources name then Some why.Twice
    else if nat_le 64 (length s.sources) then Some why.Many
    else None

-- an actor that stands a second time in its phase, and the 129th name of an actor over all phases
abbrev pub actor_why : Reading → List ℕ → Option LineWhy
actor_why s name =
    if has_text (actors_here s) name then Some why.Twice
    else if has_text s.actors name then None
    else if nat_le 128 (length s.actors) then Some why.Many
    else None

-- the 65,537th command over all phases
abbrev pub command_why : Reading → Option LineWhy
command_why s = if nat_le 65536 (commands_so_far s) then Some why.Many else None

-- what is found behind the words of a line that has its form
abbrev pub limit_why : Section → Reading → List ℕ → Option LineWhy
limit_why section.Start s line = if same (word_at line 0) (codes "source") then source_why s (word_at line 1) else None
limit_why section.Vertices s line = None
limit_why section.Edges s line = None
limit_why section.Phase s line =
    if same (word_at line 0) (codes "phase") then None
    else if same (word_at line 0) (codes "actor") then actor_why s (word_at line 1)
    else None
limit_why section.Actor s line =
    if same (word_at line 0) (codes "phase") then None
    else if same (word_at line 0) (codes "actor") then actor_why s (word_at line 1)
    else command_why s

-- the first why of a line behind what has been read; none where it is passed over or has no fault. A word that comes later is
-- allowed, so it does not matter which of `word` and `later` is asked first
abbrev pub first_why : Reading → List ℕ → Option LineWhy
first_why s line =
    if is_passed line then None
    else if not (is_utf8 line) then Some why.Utf8
    else if comes_later s.section (word_at line 0) then Some why.Later
    else option_or (row_why (words_of line) (find (λ row. same (word_at line 0) row.0) (rows_in s.section))) (limit_why s.section s line)
