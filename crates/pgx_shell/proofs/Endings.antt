-- How a call ends after it stopped.
use Rattle.std.proofs.Common.{◌≡◌, ◌⊎◌, ◌≤◌, ℕ, List, Option, Some, None, IsSome, IsSomeAnd, refl, sym, subst, inl, inr, arith}
use Rattle.std.specs.Io.KnownBytes.{Appends}
use Rattle.pgx_io.specs.Causes.{FaultCountRose}
use Rattle.pgx_io.specs.ReadWrite.{AppendsFront}
use Rattle.pgx_io.specs.Seen.{SourceSeen, LibrarySeen, SinkSeen}
use Rattle.pgx_shell.specs.Causes.{StopCause, StopWrites}
use Rattle.pgx_shell.specs.Outside.{Outside, outside_of}
use Rattle.pgx_shell.specs.Texts.{Outcome, ActionOutcome}
use Rattle.pgx_shell.specs.Words.{form_of, IsUsage}
use Rattle.pgx_shell.specs.Ending.{Ending, usage, done, stopped, EndingCause, StoppedCause, EndsWell, WritesOrFails, StopTold, LineTold, error_line, stop_status}
use Rattle.pgx_shell.specs.declared.words.Action.{Action}
use Rattle.pgx_shell.specs.declared.stop.Stop.{Stop}
use Rattle.pgx_shell.specs.declared.stop.Stop.TheVariants.{TooLong, BadLine, NoFile, BadConfig, BadTable, ReadFault, WriteFault, NoMemory}

rose_later : (a b c : ℕ) → FaultCountRose a b → b ≤ c → FaultCountRose a c
rose_later a b c r l = omega arith

rose_earlier : (a b c : ℕ) → a ≤ b → FaultCountRose b c → FaultCountRose a c
rose_earlier a b c l r = omega arith

-- what is told behind bytes that did not change
tells_from : (old mid new : SinkSeen) (text : List ℕ) (status code : ℕ)
    → mid.taken ≡ old.taken → old.faults ≤ mid.faults → WritesOrFails mid new text status code → WritesOrFails old new text status code
tells_from old mid new text status code e later (inl p) = inl (p.0, subst (λ o. Appends o new.taken text) e p.1)
tells_from old mid new text status code e later (inr p) =
    inr (p.0, rose_earlier old.faults mid.faults new.faults later p.1, subst (λ o. AppendsFront o new.taken text) e p.2)

-- any stop but a fault in writing has its line told
pub line_told : (old new : SinkSeen) (stop : Stop) (code : ℕ) → (stop ≡ WriteFault → ⊥) → LineTold old new stop code → StopTold old new stop code
line_told old new TooLong code not_write tells = tells
line_told old new (BadLine line why) code not_write tells = tells
line_told old new (NoFile name) code not_write tells = tells
line_told old new (BadConfig file fault) code not_write tells = tells
line_told old new (BadTable file row number) code not_write tells = tells
line_told old new ReadFault code not_write tells = tells
line_told old new WriteFault code not_write tells = absurd (not_write refl)
line_told old new NoMemory code not_write tells = tells

-- the words are no form, or there was no memory for saying so
pub usage_cause : (words : List (List ℕ)) (before after : Outside) (place : ℕ) (ending : Ending)
    → (ending ≡ usage place) ⊎ (ending ≡ stopped NoMemory) → form_of words ≡ None → IsUsage words place → EndingCause words before after ending
usage_cause words before after place ending (inl same) none law = subst (EndingCause words before after) (sym same) (none, law)
usage_cause words before after place ending (inr memory) none law = subst (EndingCause words before after) (sym memory) tt

module _ (words : List (List ℕ)) (action : Action) (is : form_of words ≡ Some action) (source source' : SourceSeen) (library library' : LibrarySeen) (old mid new : SinkSeen) (code : ℕ) where
  abbrev before : Outside
  before = outside_of source library old

  abbrev between : Outside
  between = outside_of source' library' mid

  abbrev after : Outside
  after = outside_of source' library' new

  form : IsSome (form_of words)
  form = subst (λ (o : Option Action). IsSome o) (sym is) refl

  -- an outcome of what the words ask for
  good : (outcome : Outcome) → ActionOutcome action source.rest library.files outcome → EndingCause words before after (done outcome)
  good outcome has = subst (λ (o : Option Action). IsSomeAnd o (λ a. ActionOutcome a source.rest library.files outcome)) (sym is) has

  -- the line of a stop was told, or that there is no memory for it
  said_ends : (stop : Stop) → StoppedCause words before after stop → mid.taken ≡ old.taken → old.faults ≤ mid.faults → LineTold mid new stop code → EndsWell words before after code
  said_ends stop cause e later (inl tells) = (stopped stop, cause, tells_from old mid new (error_line stop) (stop_status stop) code e later tells)
  said_ends stop cause e later (inr tells) = (stopped NoMemory, tt, tells_from old mid new (error_line NoMemory) (stop_status NoMemory) code e later tells)

  -- the stop of a command, told
  pub stopped_ends : (stop : Stop) → old.faults ≤ mid.faults → mid.faults ≤ new.faults
      → StopCause before between stop → StopWrites (ActionOutcome action) before between stop → StopTold mid new stop code → EndsWell words before after code
  stopped_ends TooLong later last cause left tells = said_ends TooLong (form, cause) left later tells
  stopped_ends (BadLine line why) later last cause left tells = said_ends (BadLine line why) (form, cause) left later tells
  stopped_ends (NoFile name) later last cause left tells = said_ends (NoFile name) (form, cause) left later tells
  stopped_ends (BadConfig file fault) later last cause left tells = said_ends (BadConfig file fault) (form, cause) left later tells
  stopped_ends (BadTable file row number) later last cause left tells = said_ends (BadTable file row number) (form, cause) left later tells
  stopped_ends ReadFault later last cause left tells = said_ends ReadFault (form, cause) left later tells
  stopped_ends WriteFault later last cause left tells =
      (done left.0, good left.0 left.1, inr (tells.0, rose_later old.faults mid.faults new.faults cause last, subst (λ n. AppendsFront old.taken n left.0.text) (sym tells.1) left.2))
  stopped_ends NoMemory later last cause left tells = said_ends NoMemory tt left later tells

  -- a command that was done
  pub done_ends : (outcome : Outcome) → ActionOutcome action source.rest library.files outcome → Appends old.taken new.taken outcome.text → code ≡ 0 → EndsWell words before after code
  done_ends outcome has took zero = (done outcome, good outcome has, inl (zero, took))
