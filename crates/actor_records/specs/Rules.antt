-- What decides which call an actor makes next, and what is replied.
use Rattle.std.specs.Prelude.{ℕ}
use Rattle.actor_records.specs.declared.record.Did.{Did}

-- S is a state that all share, and N and R are its calls and replies; C and A are local commands and their replies; T is the
-- head of a call; M is what an actor has in mind, its commands to come among that; H is what it holds of the shared state
pub record Rules (S N R C A T M H : Type 0) : Type 1 where
  -- the reply to a core call of an actor, and the state after it
  pub step : S → ℕ → N → R × S
  -- what an actor holds
  pub holds : S → ℕ → H
  -- the mind after a core call
  pub told : M → N → R → M
  -- the reply to a local command over what is held, and the mind after it
  pub local : M → H → C → A × M
  -- the mind after a call that found no memory
  pub starved : M → M
  -- this is the call that comes next, at a place: the number of a core record, or the `after` of another
  pub Due : ℕ → M → Did N R C A T → Type 0
