-- What a line does in the section of the script where it stands.
use Rattle.std.specs.Prelude.{ℕ, ◌+◌, ◌-◌, ◌==◌, ◌&&◌, ◌++◌, not, nat_le, nat_lt, if◌then◌else◌, unwrap_or, slice_get, Bool, List, [], ◌∷◌, length, codes, None, Result, Ok, Err}
use Rattle.std.specs.List.{list_any, position}
use Rattle.script_read.specs.declared.fault.LineWhy.{LineWhy}
use Rattle.script_read.specs.declared.fault.LineWhy.TheVariants as why
use Rattle.script_read.specs.declared.reading.Section.{Section}
use Rattle.script_read.specs.declared.reading.Section.TheVariants as section
use Rattle.script_read.specs.declared.reading.Reading.{Reading}
use Rattle.script_read.specs.declared.script.Block.{Block}
use Rattle.script_read.specs.declared.script.Command.{Command}
use Rattle.script_read.specs.declared.script.SourceForm.TheVariants.{Inline, Files}
use Rattle.script_read.specs.declared.script.SourceText.{SourceText}
use Rattle.script_read.specs.Commands.{command_of}
use Rattle.script_read.specs.Faults.{◌>>=◌}
use Rattle.script_read.specs.Later.{comes_later}
use Rattle.script_read.specs.Words.{same, word_at, word_count, name, file_name, key, alone, one_name}

-- whether a source has this name
abbrev pub has_source : List SourceText → List ℕ → Bool
has_source sources text = list_any (λ source. same source.name text) sources

-- nothing, where one more source may stand under this name
unfoldable pub new_source : List SourceText → List ℕ → Result (Unit {0}) LineWhy
new_source sources source =
    if has_source sources source then Err why.Twice
    else if nat_le 64 (length sources) then Err why.Many
    else Ok tt

-- `source S inline`
unfoldable pub inline_line : Reading → List ℕ → Result Reading LineWhy
inline_line s line =
    if not ((word_count line == 3) && same (word_at line 2) (codes "inline")) then Err why.Form
    else (do
      source ← name (word_at line 1)
      _ ← new_source s.sources source
      Ok (record s { section = section.Vertices; source = record { name = source; vertices = []; edges = [] } }))

-- `source S config FILE`, a source whole in its line: the section stays
unfoldable pub files_line : Reading → List ℕ → Result Reading LineWhy
files_line s line =
    if not ((word_count line == 4) && same (word_at line 2) (codes "config")) then Err why.Form
    else (do
      source ← name (word_at line 1)
      config ← file_name (word_at line 3)
      _ ← new_source s.sources source
      Ok (record s { sources = s.sources ++ record { name = source; form = Files config None } ∷ [] }))

-- a source's line, by its third word
unfoldable pub source_line : Reading → List ℕ → Result Reading LineWhy
source_line s line = if same (word_at line 2) (codes "config") then files_line s line else inline_line s line

-- `v KEY`
unfoldable pub vertex_line : Reading → List ℕ → Result Reading LineWhy
vertex_line s line =
    if not (word_count line == 2) then Err why.Form
    else (key (word_at line 1) >>= (λ k. Ok (record s { source = record s.source { vertices = s.source.vertices ++ k ∷ [] } })))

-- `e KEY SOURCE DESTINATION`
unfoldable pub edge_line : Reading → List ℕ → Result Reading LineWhy
edge_line s line =
    if not (word_count line == 4) then Err why.Form
    else (do
      k ← key (word_at line 1)
      from ← key (word_at line 2)
      to ← key (word_at line 3)
      Ok (record s { section = section.Edges; source = record s.source { edges = s.source.edges ++ (k, from, to) ∷ [] } }))

-- `end`
unfoldable pub end_line : Reading → List ℕ → Result Reading LineWhy
end_line s line = do
  _ ← alone line
  Ok (record s {
    section = section.Start;
    sources = s.sources ++ record { name = s.source.name; form = Inline s.source.vertices s.source.edges } ∷ [];
    source = record { name = []; vertices = []; edges = [] };
  })

-- no block
abbrev pub no_block : Block
no_block = record { actor = 0; commands = [] }

-- the blocks of the open phase: those that are finished and, behind an `actor` line, the open one
abbrev pub blocks_at : Section → Reading → List Block
blocks_at section.Start s = s.blocks
blocks_at section.Vertices s = s.blocks
blocks_at section.Edges s = s.blocks
blocks_at section.Phase s = s.blocks
blocks_at section.Actor s = s.blocks ++ s.block ∷ []

-- the open phase is finished, and its last block with it
abbrev pub phase_ended : Reading → Reading
phase_ended s = record s { phases = s.phases ++ blocks_at s.section s ∷ []; blocks = []; block = no_block }

-- the first `phase`
unfoldable pub first_phase_line : Reading → List ℕ → Result Reading LineWhy
first_phase_line s line = alone line >>= (λ _. Ok (record s { section = section.Phase }))

-- another `phase`
unfoldable pub phase_line : Reading → List ℕ → Result Reading LineWhy
phase_line s line = alone line >>= (λ _. Ok (record (phase_ended s) { section = section.Phase }))

-- the name of the actor of a number
abbrev pub actor_name : List (List ℕ) → ℕ → List ℕ
actor_name actors number = unwrap_or (slice_get actors (number - 1)) []

-- the number of an actor: its place among those that are known, from 1, and the next number where it is not known
abbrev pub number_of : List (List ℕ) → List ℕ → ℕ
number_of actors name = unwrap_or (position (λ actor. same actor name) actors) (length actors) + 1

-- whether the actor of this number has a block
abbrev pub has_block : List Block → ℕ → Bool
has_block blocks number = list_any (λ b. b.actor == number) blocks

-- the number, where an actor of this number may stand behind these blocks of its phase
unfoldable pub new_block : List Block → ℕ → Result ℕ LineWhy
new_block blocks number =
    if has_block blocks number then Err why.Twice
    else if nat_lt 128 number then Err why.Many
    else Ok number

-- the actors with one of this name and number: who is known stands already
abbrev pub with_actor : List (List ℕ) → List ℕ → ℕ → List (List ℕ)
with_actor actors name number = if nat_lt (length actors) number then actors ++ name ∷ [] else actors

-- what is read with an open block of an actor of this name and number
abbrev pub block_opened : Reading → List ℕ → ℕ → Reading
block_opened s actor number = record s {
  section = section.Actor;
  actors = with_actor s.actors actor number;
  blocks = blocks_at s.section s;
  block = record { actor = number; commands = [] };
}

-- `actor A`
unfoldable pub actor_line : Reading → List ℕ → Result Reading LineWhy
actor_line s line = do
  actor ← one_name line
  number ← new_block (blocks_at s.section s) (number_of s.actors actor)
  Ok (block_opened s actor number)

-- what is read with one more command in the open block
abbrev pub command_added : Reading → Command → Reading
command_added s command = record s {
  block = record s.block { commands = s.block.commands ++ command ∷ [] };
  command_count = s.command_count + 1;
}

-- a command
unfoldable pub command_line : Reading → List ℕ → Result Reading LineWhy
command_line s line = do
  command ← command_of line
  if nat_le 65536 s.command_count then Err why.Many else Ok (command_added s command)

-- what a section allows and is built, by the first word of a line
unfoldable pub built_line : Section → Reading → List ℕ → Result Reading LineWhy
built_line section.Start s line =
    if same (word_at line 0) (codes "source") then source_line s line
    else if same (word_at line 0) (codes "phase") then first_phase_line s line
    else Err why.Word
built_line section.Vertices s line =
    if same (word_at line 0) (codes "v") then vertex_line s line
    else if same (word_at line 0) (codes "e") then edge_line s line
    else if same (word_at line 0) (codes "end") then end_line s line
    else Err why.Word
built_line section.Edges s line =
    if same (word_at line 0) (codes "e") then edge_line s line
    else if same (word_at line 0) (codes "end") then end_line s line
    else Err why.Word
built_line section.Phase s line =
    if same (word_at line 0) (codes "phase") then phase_line s line
    else if same (word_at line 0) (codes "actor") then actor_line s line
    else Err why.Word
built_line section.Actor s line =
    if same (word_at line 0) (codes "phase") then phase_line s line
    else if same (word_at line 0) (codes "actor") then actor_line s line
    else command_line s line

-- what a line does in a section
unfoldable pub line_in : Section → Reading → List ℕ → Result Reading LineWhy
line_in p s line = if comes_later p (word_at line 0) then Err why.Later else built_line p s line
