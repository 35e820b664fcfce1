-- The calls of a script: what an actor has in mind is its own part, its commands to come, and the replies so far to the calls of
-- the first of them.
use Rattle.std.specs.Prelude.{◌≡◌, ℕ, ◌+◌, ◌<◌, ◌≤◌, ⊤, Bool, true, List, [], ◌∷◌, ◌++◌, Option, Some, is_none, if◌then◌else◌}
use Rattle.std.specs.Bool.{MatchBool}
use Rattle.actor_records.specs.declared.record.Did.{Did}
use Rattle.actor_records.specs.declared.record.Did.TheVariants.{Core, Local, Starved}
use Rattle.actor_records.specs.Rules.{Rules}

-- C is a command, local or not, and O an actor's own part
pub record Language (S N R C A T O H : Type 0) : Type 0 where
  -- the shared state, and what an actor holds of it
  pub step : S → ℕ → N → R × S
  pub holds : S → ℕ → H
  -- the own part after a core call, and what a local command does
  pub told : O → N → R → O
  pub local : O → H → C → A × O
  -- the next core call of a command, given the replies to those before; a local command has none
  pub next : C → O → List R → Option N
  pub is_local : C → Bool
  -- the heads of a core call and of a local command
  pub head_of : N → T
  pub line_of : C → T

-- a command, and the number of the phase in which it stands
pub record Todo (C : Type 0) : Type 0 where
  pub phase : ℕ
  pub command : C

pub record Mind (O C R : Type 0) : Type 0 where
  pub own : O
  pub todo : List (Todo C)
  pub replies : List R

abbrev pub rest_of : {X : Type 0} → List X → List X
rest_of [] = []
rest_of (x ∷ xs) = xs

module _ {N R C A T : Type 0} where
  -- a core record of a phase has a number past the end of the phase before, and not past the end of its own
  abbrev pub InPhase : (ℕ → ℕ) → ℕ → ℕ → Did N R C A T → Type 0
  InPhase ends phase n (Core note reply) = (ends phase < n) × (n ≤ ends (phase + 1))
  InPhase ends phase n (Local command reply) = ⊤
  InPhase ends phase n (Starved head) = ⊤

module _ {S N R C A T O H : Type 0} (l : Language S N R C A T O H) where
  -- where the command has no further call, the next command comes
  abbrev pub go_on : O → List (Todo C) → List R → Mind O C R
  go_on own [] replies = record { own = own; todo = []; replies = [] }
  go_on own (t ∷ ts) replies =
      if is_none (l.next t.command own replies)
      then record { own = own; todo = ts; replies = [] }
      else record { own = own; todo = t ∷ ts; replies = replies }

  abbrev pub mind_told : Mind O C R → N → R → Mind O C R
  mind_told m note reply = go_on (l.told m.own note reply) m.todo (m.replies ++ reply ∷ [])

  abbrev pub mind_local : Mind O C R → H → C → A × Mind O C R
  mind_local m held command =
      let out = l.local m.own held command in (out.0, record { own = out.1; todo = rest_of m.todo; replies = [] })

  -- after a call that found no memory the rest of its command is not made
  abbrev pub mind_starved : Mind O C R → Mind O C R
  mind_starved m = record { own = m.own; todo = rest_of m.todo; replies = [] }

  -- this is the next call of the command
  abbrev pub IsCall : O → List R → C → Did N R C A T → Type 0
  IsCall own replies command (Core note reply) = l.next command own replies ≡ Some note
  IsCall own replies command (Local c reply) = (l.is_local command ≡ true) × (c ≡ command)
  IsCall own replies command (Starved head) =
      MatchBool (l.is_local command)
      (head ≡ l.line_of command)
      ((note : N) × (l.next command own replies ≡ Some note) × (head ≡ l.head_of note))

  abbrev pub IsDue : (ℕ → ℕ) → ℕ → Mind O C R → List (Todo C) → Did N R C A T → Type 0
  IsDue ends n m [] did = ⊥
  IsDue ends n m (t ∷ ts) did = IsCall m.own m.replies t.command did × InPhase ends t.phase n did

  -- what rules the records of a script whose phases ended at these numbers of calls
  abbrev pub rules_of : (ℕ → ℕ) → Rules S N R C A T (Mind O C R) H
  rules_of ends = record {
    step = l.step;
    holds = l.holds;
    told = mind_told;
    local = mind_local;
    starved = mind_starved;
    Due = λ n m did. IsDue ends n m m.todo did;
  }
