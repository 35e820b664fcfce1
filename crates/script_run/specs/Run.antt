-- What a run of a script is.
use Rattle.std.specs.Prelude.{◌≡◌, ℕ, ◌+◌, ◌≤◌, List, [], ◌∷◌, ◌++◌, length, All}
use Rattle.turn_hall.specs.declared.entry.Entry.{Entry}
use Rattle.actor_records.specs.Journal.{IsJournal}
use Rattle.catalogue_state.specs.Bound.{opened}
use Rattle.catalogue_state.specs.declared.ask.Ask.{Ask}
use Rattle.catalogue_state.specs.declared.reply.Reply.{Reply}
use Rattle.catalogue_state.specs.declared.parts.SourceData.{SourceData}
use Rattle.script_read.specs.declared.script.Block.{Block}
use Rattle.script_read.specs.declared.script.Script.{Script}
use Rattle.session_run.specs.Language.{ActorMind, rules, first_mind}
use Rattle.session_run.specs.Record.{ActorRecord}

-- an actor has no command left
abbrev pub HasNoCommand : ActorMind → Type 0
HasNoCommand mind = mind.todo ≡ []

-- J is the journal of a run of the script over its open sources, and its core records are this book: a proper journal of its actors, in
-- which each makes exactly the calls of its commands, with the replies of one thread from the state in which the sources are open and
-- nobody has a session. The phases are parted by numbers that do not fall: the core calls of a phase have numbers past the first of its
-- two, and not past the second.
pub record IsRunOf (script : Script) (sources : List SourceData) (book : List (Entry Ask Reply)) (J : List ActorRecord) : Type 0 where
  pub ends : ℕ → ℕ
  pub rises : (phase : ℕ) → ends phase ≤ ends (phase + 1)
  pub journal : IsJournal (rules sources ends) (opened sources) (first_mind script.phases) HasNoCommand (length script.actors) book J

-- the blocks of phases, in the order of the script
abbrev pub blocks_of : List (List Block) → List Block
blocks_of [] = []
blocks_of (blocks ∷ phases) = blocks ++ blocks_of phases

-- the history has a piece for each of these blocks, one behind another, in which each call is that of the block's actor
abbrev pub InBlocks : List Block → List (Entry Ask Reply) → Type 0
InBlocks [] history = history ≡ []
InBlocks (block ∷ blocks) history =
    (piece : List (Entry Ask Reply)) × (rest : List (Entry Ask Reply)) × (history ≡ piece ++ rest) × All (λ e. e.who ≡ block.actor) piece × InBlocks blocks rest

-- the history has a piece for each of these phases, one behind another, the first of them being the phase of this number: each piece
-- stands between the two ends of its phase, and has the calls of the phase's blocks
abbrev pub InPhases : (ℕ → ℕ) → ℕ → List (List Block) → List (Entry Ask Reply) → Type 0
InPhases ends phase [] history = history ≡ []
InPhases ends phase (blocks ∷ phases) history =
    (piece : List (Entry Ask Reply)) × (rest : List (Entry Ask Reply)) × (history ≡ piece ++ rest) × (ends (phase + 1) ≡ ends phase + length piece)
    × InBlocks blocks piece × InPhases ends (phase + 1) phases rest

-- J is the journal of a run of the script in which its blocks were run one after another, in the order of the script: its core records
-- stand by phase, by block and by command
pub record IsRunInOrder (script : Script) (sources : List SourceData) (J : List ActorRecord) : Type 0 where
  pub book : List (Entry Ask Reply)
  pub run : IsRunOf script sources book J
  pub order : InBlocks (blocks_of script.phases) book
  -- the first phase begins before any call, and each phase where the one before it ended
  pub begins : run.ends 0 ≡ 0
  pub phases : InPhases run.ends 0 script.phases book
