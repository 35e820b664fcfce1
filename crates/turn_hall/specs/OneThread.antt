-- The calls of one thread.
use Rattle.std.specs.Prelude.{◌≡◌, ℕ, List, ◌∷◌, ◌++◌}
use Rattle.turn_hall.specs.declared.entry.Entry.{Entry}
use Rattle.turn_hall.specs.Replay.{replay}

module _ {S N R : Type 0} (step : S → ℕ → N → R × S) where
  -- from this state, the reply to each call is the step's in the state after the calls before it
  abbrev pub RepliesAreSteps : S → List (Entry N R) → Type 0
  RepliesAreSteps start book = (before after : List (Entry N R)) (e : Entry N R) → book ≡ before ++ e ∷ after
      → e.reply ≡ (step (replay step start before) e.who e.note).0
