-- What commands leave: an actor's work before and after them.
use Rattle.std.specs.Prelude.{◌≡◌, ◌≢◌, ℕ, ◌+◌, ◌*◌, ◌≤◌, List, [], ◌∷◌, ◌++◌, length}
use Rattle.turn_hall.specs.Replay.{entries_of}
use Rattle.turn_hall.specs.Seen.{StartsWith}
use Rattle.actor_records.specs.Calls.{Todo, go_on}
use Rattle.catalogue_state.specs.declared.reply.Reply.{Reply}
use Rattle.catalogue_hall.specs.History.{History, held_by}
use Rattle.script_read.specs.declared.script.Command.{Command}
use Rattle.session_run.specs.Own.{OwnPart}
use Rattle.session_run.specs.Language.{ActorMind, language, in_phase}
use Rattle.session_run.specs.Record.{ActorRecord}
use Rattle.session_run.specs.Turns.{Work, Stands, sources_of, place_after}

-- the commands of a mind that is between two of them
abbrev pub between : OwnPart → List (Todo Command) → ActorMind
between own todo = record { own = own; todo = todo; replies = [] }

-- what holds of an actor at work: what it holds is up to date, its place is that behind its last record, and it has at least as
-- many records as its count says
pub record IsAtWork (who : ℕ) (w : Work) : Type 0 where
  pub held : w.held ≡ held_by w.history who
  pub place : w.place ≡ place_after w.records
  pub index : w.place.index ≤ length w.records

-- the history begins with what it was, and records were appended, at most so many; none was changed
pub record Grew (most : ℕ) (w v : Work) : Type 0 where
  pub start : v.history.start ≡ w.history.start
  pub begins : StartsWith v.history.book w.history.book
  pub added : List ActorRecord
  pub records : v.records ≡ w.records ++ added
  pub few : length added ≤ most

-- the phase lies round the actor's calls: the phase before it ended before them, and it did not end before they were made
abbrev pub IsOn : (ℕ → ℕ) → ℕ → Work → Work → Type 0
IsOn ends phase w v = (ends phase ≤ length w.history.book) × (length v.history.book ≤ ends (phase + 1))

-- where the records agreed with the history and these commands came next, they agree again and the commands are done
abbrev pub Leads : ℕ → List Command → Work → Work → Type 0
Leads who commands w v = (ends : ℕ → ℕ) (phase : ℕ) (first : ActorMind) (later : List (Todo Command)) → IsOn ends phase w v
    → Stands (sources_of w) ends first who w (between w.own (in_phase phase commands ++ later))
    → Stands (sources_of w) ends first who v (between v.own later)

-- the same, where some of the commands are left, after calls of the first of them that had these replies
abbrev pub LeavesOff : ℕ → List Command → List Command → List Reply → Work → Work → Type 0
LeavesOff who commands left replies w v = (ends : ℕ → ℕ) (phase : ℕ) (first : ActorMind) (later : List (Todo Command)) → IsOn ends phase w v
    → Stands (sources_of w) ends first who w (between w.own (in_phase phase commands ++ later))
    → Stands (sources_of w) ends first who v (record { own = v.own; todo = in_phase phase left ++ later; replies = replies })

-- an actor did these commands: the calls of each of them in order, each with its record
pub record Ran (who : ℕ) (commands : List Command) (w v : Work) : Type 0 where
  pub work : IsAtWork who v
  pub grew : Grew (257 * length commands) w v
  pub leads : Leads who commands w v

-- An actor stopped amid these commands because memory ran out: some of them are done, and of the first that is left the calls with
-- these replies were made. Every call that was made has its record, and what is held is up to date.
pub record Stopped (who : ℕ) (commands : List Command) (w v : Work) : Type 0 where
  pub work : IsAtWork who v
  pub grew : Grew (257 * length commands) w v
  pub done : List Command
  pub left : List Command
  pub parts : commands ≡ done ++ left
  pub replies : List Reply
  pub leads : LeavesOff who commands left replies w v

-- the actor is in the midst of a command, after calls with these replies
abbrev pub Goes : ℕ → Command → List Reply → Work → Work → Type 0
Goes who command replies w v = (ends : ℕ → ℕ) (phase : ℕ) (first : ActorMind) (later : List (Todo Command)) → IsOn ends phase w v
    → Stands (sources_of w) ends first who w (between w.own (record { phase = phase; command = command } ∷ later))
    → Stands (sources_of w) ends first who v (go_on (language (sources_of w)) v.own (record { phase = phase; command = command } ∷ later) replies)

pub record Going (who : ℕ) (command : Command) (replies : List Reply) (w v : Work) : Type 0 where
  pub work : IsAtWork who v
  pub grew : Grew (length replies) w v
  pub goes : Goes who command replies w v

-- nobody else made a call, and this actor at most so many
pub record OnlyOwn (who most : ℕ) (h k : History) : Type 0 where
  pub others : (other : ℕ) → other ≢ who → entries_of other k.book ≡ entries_of other h.book
  pub few : length k.book ≤ length h.book + most
