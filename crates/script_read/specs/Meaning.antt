-- What a script that is read has, and what its first fault is.
use Rattle.std.specs.Prelude.{◌≡◌, ◌≢◌, ◌≤◌, ◌+◌, ◌-◌, ◌++◌, ◌⊎◌, ℕ, ℤ, IsTrue, map, if◌then◌else◌, All, AllPairs, List, [], ◌∷◌, length, take, drop, codes, Option, Some, None, Result, Ok, ⊤}
use Rattle.std.specs.List.{flat_map, AllByRecursion}
use Rattle.std.specs.Fmt.{decimal, signed_decimal}
use Rattle.script_read.specs.declared.fault.LineWhy.{LineWhy}
use Rattle.script_read.specs.declared.fault.LineWhy.TheVariants.{End}
use Rattle.script_read.specs.declared.fault.ScriptFault.{ScriptFault}
use Rattle.script_read.specs.declared.fault.ScriptFault.TheVariants.{BadLine, NoMemory}
use Rattle.script_read.specs.declared.reading.Section.{Section}
use Rattle.script_read.specs.declared.reading.Section.TheVariants as section
use Rattle.script_read.specs.declared.reading.Reading.{Reading}
use Rattle.script_read.specs.declared.script.Block.{Block}
use Rattle.script_read.specs.declared.script.Command.{Command}
use Rattle.script_read.specs.declared.script.Form.{Form}
use Rattle.script_read.specs.declared.script.Form.TheVariants as form
use Rattle.script_read.specs.declared.script.Script.{Script}
use Rattle.script_read.specs.declared.script.SourceForm.{SourceForm}
use Rattle.script_read.specs.declared.script.SourceForm.TheVariants.{Inline, Files}
use Rattle.script_read.specs.declared.script.SourceText.{SourceText}
use Rattle.script_read.specs.Commands.{most_keep, most_long}
use Rattle.script_read.specs.Faults.{◌>>=◌}
use Rattle.script_read.specs.Lines.{cleaned, is_passed, line_step}
use Rattle.script_read.specs.Grammar.{first_why}
use Rattle.script_read.specs.Phases.{IsActor, MayRun, actor_number}
use Rattle.script_read.specs.Script.{opening, phases_so_far}
use Rattle.script_read.specs.Sections.{actor_name}
use Rattle.script_read.specs.Words.{is_name, is_file_name}

-- the line that a form spells
abbrev pub spelled : Form → List ℕ
spelled form.Open = codes "open"
spelled form.Close = codes "close"
spelled form.Columns = codes "columns"
spelled form.Lines = codes "lines"
spelled (form.Load graph source) = codes "load " ++ (graph ++ (codes " from " ++ source))
spelled (form.Clone graph base) = codes "clone " ++ (graph ++ (codes " from " ++ base))
spelled (form.Transpose graph base) = codes "transpose " ++ (graph ++ (codes " from " ++ base))
spelled (form.Undirect graph base) = codes "undirect " ++ (graph ++ (codes " from " ++ base))
spelled (form.Simplify graph base) = codes "simplify " ++ (graph ++ (codes " from " ++ base))
spelled (form.SortByDegree graph base) = codes "sortdeg " ++ (graph ++ (codes " from " ++ base))
spelled (form.Build graph base) = codes "build " ++ (graph ++ (codes " from " ++ base))
spelled (form.Snapshot graph) = codes "snapshot " ++ graph
spelled (form.Publish graph line keep threshold) =
    codes "publish " ++ (graph ++ (codes " as " ++ (line ++ (codes " keep " ++ (decimal keep ++ (codes " threshold " ++ decimal threshold))))))
spelled (form.Unpublish line) = codes "unpublish " ++ line
spelled (form.Get graph line) = codes "get " ++ (graph ++ (codes " from " ++ line))
spelled (form.CheckoutSid graph sid) = codes "checkout " ++ (graph ++ (codes " at " ++ decimal sid))
spelled (form.CheckoutLatest graph) = codes "checkout " ++ (graph ++ codes " at latest")
spelled (form.Release graph) = codes "release " ++ graph
spelled (form.Show source) = codes "show " ++ source
spelled (form.Rows graph) = codes "rows " ++ graph
spelled (form.Change graph row) = codes "change " ++ (graph ++ (codes " " ++ row))
spelled form.Discard = codes "discard"

abbrev pub IsName : List ℕ → Type 0
IsName word = IsTrue (is_name word)

abbrev pub IsFileName : List ℕ → Type 0
IsFileName word = IsTrue (is_file_name word)

-- a number from the first of these to the second
pub record IsFrom (least most n : ℕ) : Type 0 where
  pub low : least ≤ n
  pub high : n ≤ most

-- the names of a form are names, its numbers lie in their limits, and the rest of its line is not empty. A name has no space, so
-- the line that a form spells says where its names end
abbrev pub HasParts : Form → Type 0
HasParts form.Open = ⊤
HasParts form.Close = ⊤
HasParts form.Columns = ⊤
HasParts form.Lines = ⊤
HasParts (form.Load graph source) = IsName graph × IsName source
HasParts (form.Clone graph base) = IsName graph × IsName base
HasParts (form.Transpose graph base) = IsName graph × IsName base
HasParts (form.Undirect graph base) = IsName graph × IsName base
HasParts (form.Simplify graph base) = IsName graph × IsName base
HasParts (form.SortByDegree graph base) = IsName graph × IsName base
HasParts (form.Build graph base) = IsName graph × IsName base
HasParts (form.Snapshot graph) = IsName graph
HasParts (form.Publish graph line keep threshold) = IsName graph × IsName line × IsFrom 1 most_keep keep × IsFrom 1 most_long threshold
HasParts (form.Unpublish line) = IsName line
HasParts (form.Get graph line) = IsName graph × IsName line
HasParts (form.CheckoutSid graph sid) = IsName graph × IsFrom 1 most_long sid
HasParts (form.CheckoutLatest graph) = IsName graph
HasParts (form.Release graph) = IsName graph
HasParts (form.Show source) = IsName source
HasParts (form.Rows graph) = IsName graph
HasParts (form.Change graph row) = IsName graph × (row ≢ [])
HasParts form.Discard = ⊤

-- a command's line spells its form
pub record IsCommand (command : Command) : Type 0 where
  pub spells : command.line ≡ spelled command.form
  pub parts : HasParts command.form

-- the commands of a block are commands
abbrev pub IsBlock : Block → Type 0
IsBlock block = All IsCommand block.commands

-- the numbers of the actors of all blocks, in order
abbrev pub mentions : List (List Block) → List ℕ
mentions phases = flat_map (map actor_number) phases

-- behind so many actors that are known, each number is that of a known one, or the next, which is known from there on; so many are
-- known at the end
abbrev pub AreNumbered : ℕ → List ℕ → ℕ → Type 0
AreNumbered known [] all = known ≡ all
AreNumbered known (number ∷ numbers) all =
    (IsActor known number × AreNumbered known numbers all) ⊎ ((number ≡ known + 1) × AreNumbered (known + 1) numbers all)

-- the file name of a configuration is a file name, and there is no file of changes
abbrev pub HasFiles : SourceForm → Type 0
HasFiles (Inline vertices edges) = ⊤
HasFiles (Files config changes) = IsFileName config × (changes ≡ None)

-- a script with at most 64 sources of different names, and at most 128 actors of different names, which are numbered from 1 in the
-- order in which the blocks mention them
pub record IsScript (script : Script) : Type 0 where
  pub few : length script.sources ≤ 64
  pub names : All (λ source. IsName source.name) script.sources
  pub files : All (λ source. HasFiles source.form) script.sources
  pub distinct : AllPairs (λ s t. s.name ≢ t.name) script.sources
  pub few_actors : length script.actors ≤ 128
  pub actor_names : All IsName script.actors
  pub distinct_actors : AllPairs (λ a b. a ≢ b) script.actors
  pub numbered : AreNumbered 0 (mentions script.phases) (length script.actors)
  pub runs : MayRun script
  pub commands : AllByRecursion (λ (blocks : List Block). AllByRecursion IsBlock blocks) script.phases

-- the line of a key, of an edge's three keys, and of an actor
abbrev pub vertex_text : ℤ → List ℕ
vertex_text k = codes "v " ++ signed_decimal k

abbrev pub edge_text : ℤ × ℤ × ℤ → List ℕ
edge_text (k, from, to) = codes "e " ++ (signed_decimal k ++ (32 ∷ (signed_decimal from ++ (32 ∷ signed_decimal to))))

abbrev pub actor_text : List ℕ → List ℕ
actor_text actor = codes "actor " ++ actor

-- the lines of an inline source up to its `end`
abbrev pub record_lines : List ℕ → List ℤ → List (ℤ × ℤ × ℤ) → List (List ℕ)
record_lines source vertices edges = (codes "source " ++ (source ++ codes " inline")) ∷ (map vertex_text vertices ++ map edge_text edges)

-- the words behind a configuration's file name: the file of changes, where there is one
abbrev pub changes_text : Option (List ℕ) → List ℕ
changes_text None = []
changes_text (Some changes) = codes " changes " ++ changes

-- the line of a source of this name in the files that a configuration names
abbrev pub files_text : List ℕ → List ℕ → Option (List ℕ) → List ℕ
files_text source config changes = codes "source " ++ (source ++ (codes " config " ++ (config ++ changes_text changes)))

-- the lines of a source of this name
abbrev pub form_lines : List ℕ → SourceForm → List (List ℕ)
form_lines source (Inline vertices edges) = record_lines source vertices edges ++ codes "end" ∷ []
form_lines source (Files config changes) = files_text source config changes ∷ []

-- the lines of a source
abbrev pub source_lines : SourceText → List (List ℕ)
source_lines source = form_lines source.name source.form

-- the lines of a block, whose actor is known by its number from 1
abbrev pub block_lines : List (List ℕ) → Block → List (List ℕ)
block_lines actors block = actor_text (actor_name actors block.actor) ∷ map (λ command. command.line) block.commands

-- the lines of a phase
abbrev pub phase_lines : List (List ℕ) → List Block → List (List ℕ)
phase_lines actors blocks = codes "phase" ∷ flat_map (block_lines actors) blocks

-- the lines that a script spells
abbrev pub script_lines : Script → List (List ℕ)
script_lines script = flat_map source_lines script.sources ++ flat_map (phase_lines script.actors) script.phases

-- the lines that are not passed over, each as it is read
abbrev pub kept_lines : List (List ℕ) → List (List ℕ)
kept_lines [] = []
kept_lines (line ∷ lines) = if is_passed (cleaned line) then kept_lines lines else cleaned line ∷ kept_lines lines

-- what is read after these lines, or the why of the first with a fault
abbrev pub after : Reading → List (List ℕ) → Result Reading LineWhy
after s [] = Ok s
after s (line ∷ lines) = line_step s (cleaned line) >>= (λ t. after t lines)

-- the lines of the phases that have been read
abbrev pub phase_lines_at : Section → Reading → List (List ℕ)
phase_lines_at p s = flat_map (phase_lines s.actors) (phases_so_far p s)

-- the lines that what has been read spells, by the section
abbrev pub lines_at : Section → Reading → List (List ℕ)
lines_at section.Start s = flat_map source_lines s.sources
lines_at section.Vertices s = flat_map source_lines s.sources ++ record_lines s.source.name s.source.vertices s.source.edges
lines_at section.Edges s = flat_map source_lines s.sources ++ record_lines s.source.name s.source.vertices s.source.edges
lines_at section.Phase s = flat_map source_lines s.sources ++ phase_lines_at section.Phase s
lines_at section.Actor s = flat_map source_lines s.sources ++ phase_lines_at section.Actor s

-- whether an `e` line stands in the open source, as the section says
abbrev pub HasEdges : Section → List (ℤ × ℤ × ℤ) → Type 0
HasEdges section.Start edges = ⊤
HasEdges section.Vertices edges = edges ≡ []
HasEdges section.Edges edges = edges ≢ []
HasEdges section.Phase edges = ⊤
HasEdges section.Actor edges = ⊤

-- the script ends inside an inline source
abbrev pub EndsInside : Section → Type 0
EndsInside section.Start = ⊥
EndsInside section.Vertices = ⊤
EndsInside section.Edges = ⊤
EndsInside section.Phase = ⊥
EndsInside section.Actor = ⊥

-- this is the first why of the next line, or of the end where there is no next line
abbrev pub FaultNext : Reading → List (List ℕ) → LineWhy → Type 0
FaultNext s [] why = (why ≡ End) × EndsInside s.section
FaultNext s (line ∷ lines) why = first_why s (cleaned line) ≡ Some why

-- the line of this number, from 1, has this why behind the lines before it, which have no fault and spell what is left of them
pub record FirstFault (lines : List (List ℕ)) (number : ℕ) (why : LineWhy) : Type 0 where
  pub counted : 1 ≤ number
  pub left : Reading
  pub before : after opening (take (number - 1) lines) ≡ Ok left
  pub spells : lines_at left.section left ≡ kept_lines (take (number - 1) lines)
  pub edges : HasEdges left.section left.source.edges
  pub next : FaultNext left (drop (number - 1) lines) why

-- a line that is named is the first with a fault
abbrev pub NamesFirst : List (List ℕ) → ScriptFault → Type 0
NamesFirst lines (BadLine number why) = FirstFault lines number why
NamesFirst lines NoMemory = ⊤
