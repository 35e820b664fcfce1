-- The replies of a legal history, one by one, and the state that it begins in.
use Rattle.std.proofs.Common.{◌≡◌, ◌∙◌, ℕ, List, [], ◌∷◌, ◌++◌, refl, sym, ap, subst}
use Rattle.turn_hall.specs.declared.entry.Entry.{Entry}
use Rattle.turn_hall.specs.Replay.{replay, IsLegal}
use Rattle.turn_hall.specs.OneThread.{RepliesAreSteps}
use Rattle.turn_hall.proofs.Histories.{replay-keeps}

module _ {S N R : Type 0} (step : S → ℕ → N → R × S) where
  reply_at : (s : S) (before after : List (Entry N R)) (e : Entry N R) → IsLegal step s (before ++ e ∷ after) → e.reply ≡ (step (replay step s before) e.who e.note).0
  reply_at s [] after e legal = sym legal.0
  reply_at s (x ∷ xs) after e legal = reply_at (step s x.who x.note).1 xs after e legal.1

  pub replies_are_steps : (start : S) (book : List (Entry N R)) → IsLegal step start book → RepliesAreSteps step start book
  replies_are_steps start book legal before after e is = reply_at start before after e (subst (IsLegal step start) is legal)

  -- where a state is reached from its opening state, that one is its own opening state
  pub opening_is_first : (opening : S → S) (keeps : (s : S) (who : ℕ) (note : N) → opening (step s who note).1 ≡ opening s) (state : S) (book : List (Entry N R))
      → replay step (opening state) book ≡ state → opening (opening state) ≡ opening state
  opening_is_first opening keeps state book leads =
      let first = opening state in
      sym (replay-keeps step (λ s. opening s ≡ opening first) (λ s who note is. keeps s who note ∙ is) first book refl) ∙ ap opening leads
