-- What blocks leave that are run one after another.
use Rattle.std.specs.Prelude.{◌≡◌, ℕ, ◌+◌, ◌*◌, ◌≤◌, List, [], ◌∷◌, ◌++◌, length, ⊤}
use Rattle.turn_hall.specs.declared.entry.Entry.{Entry}
use Rattle.catalogue_state.specs.declared.ask.Ask.{Ask}
use Rattle.catalogue_state.specs.declared.reply.Reply.{Reply}
use Rattle.catalogue_hall.specs.History.{History}
use Rattle.script_read.specs.declared.script.Block.{Block}
use Rattle.script_read.specs.Phases.{phase_commands}
use Rattle.session_run.specs.Ran.{IsAtWork}
use Rattle.script_run.specs.declared.member.Member.{Member}
use Rattle.script_run.specs.Members.{member_of, member_work, PhaseRan, PhasesRan}
use Rattle.script_run.specs.Run.{InBlocks}

-- between two blocks what is known of each actor is up to date, and there is room for the calls and records of so many commands
pub record AreAtRest (h : History) (members : List Member) (commands : ℕ) : Type 0 where
  pub works : (who : ℕ) → IsAtWork who (member_work h (member_of members who))
  pub calls : length h.book + 257 * commands ≤ 16842752
  pub records : (who : ℕ) → length (member_of members who).records + 257 * commands ≤ 16842752

-- the calls of these blocks came behind a history, one block after another
abbrev pub Followed : List Block → List (Entry Ask Reply) → List (Entry Ask Reply) → Type 0
Followed blocks before after = (added : List (Entry Ask Reply)) × (after ≡ before ++ added) × InBlocks blocks added

-- blocks of one phase were run one after another, with at most 257 calls a command
pub record BlocksRan (blocks : List Block) (h : History) (ms : List Member) (k : History) (ns : List Member) : Type 0 where
  pub ran : PhaseRan blocks h ms k ns
  pub order : Followed blocks h.book k.book
  pub few : length k.book ≤ length h.book + 257 * phase_commands blocks
  pub many : length ns ≡ length ms

-- the calls of each phase came behind those of the phase before it, one block after another
abbrev pub EachFollowed : (phases : List (List Block)) (h : History) (ms : List Member) (k : History) (ns : List Member) → PhasesRan phases h ms k ns → Type 0
EachFollowed [] h ms k ns ran = ⊤
EachFollowed (blocks ∷ phases) h ms k ns ran = Followed blocks h.book ran.0.book × EachFollowed phases ran.0 ran.1 k ns ran.3

-- the blocks of phases were run one after another
pub record AllRan (phases : List (List Block)) (h : History) (ms : List Member) (k : History) (ns : List Member) : Type 0 where
  pub ran : PhasesRan phases h ms k ns
  pub order : EachFollowed phases h ms k ns ran
  pub many : length ns ≡ length ms
