-- A book with one more entry.
use Rattle.std.proofs.Common.{◌≡◌, ℕ, List, [], ◌∷◌, ◌++◌, sym, ap, ◌∙◌, subst}
use Rattle.turn_hall.specs.declared.entry.Entry.{Entry}
use Rattle.turn_hall.specs.Replay.{replay, IsLegal, entry}
use Rattle.turn_hall.specs.Steps.{ComesFrom}
use Rattle.turn_hall.specs.Handle.{IsHistoryOf, DeskHistory, FitsDesk}
use Rattle.turn_hall.proofs.Histories.{replay-append, legal-append}

module _ {S N R : Type 0} (step : S → ℕ → N → R × S) (start s t : S) (who : ℕ) (note : N) (reply : R) (es : List (Entry N R)) (stepped : step s who note ≡ (reply, t)) (replayed : replay step start es ≡ s) where
  pub grown_state : replay step start (es ++ entry who note reply ∷ []) ≡ t
  grown_state = replay-append step start es (entry who note reply ∷ []) ∙ (ap (λ (z : S). (step z who note).1) replayed ∙ ap (λ (z : R × S). z.1) stepped)

  pub grown_legal : IsLegal step start es → IsLegal step start (es ++ entry who note reply ∷ [])
  grown_legal legal = legal-append step start es (entry who note reply ∷ []) legal (ap (λ (z : S). (step z who note).0) replayed ∙ ap (λ (z : R × S). z.0) stepped, tt)

module _ {S N R : Type 0} (step : S → ℕ → N → R × S) (opening : S → S) (keeps : (s : S) (who : ℕ) (note : N) → opening (step s who note).1 ≡ opening s) where
  pub same_opening : (s t : S) (who : ℕ) (note : N) (reply : R) → step s who note ≡ (reply, t) → opening t ≡ opening s
  same_opening s t who note reply stepped = ap (λ (z : R × S). opening z.1) (sym stepped) ∙ keeps s who note

-- a desk with an empty book
pub comes_fresh : {S N R : Type 0} (step : S → ℕ → N → R × S) (opening : S → S) (start state : S) (es : List (Entry N R)) → opening start ≡ start → state ≡ start → es ≡ [] → ComesFrom step opening start state es
comes_fresh step opening start state es first same empty = (first, ap opening same ∙ first, subst (IsLegal step start) (sym empty) tt, ap (replay step start) empty ∙ sym same)

-- the book with one more entry still comes from the start
pub comes_grown : {S N R : Type 0} (step : S → ℕ → N → R × S) (opening : S → S) (keeps : (s : S) (who : ℕ) (note : N) → opening (step s who note).1 ≡ opening s) (start s t : S) (who : ℕ) (note : N) (reply : R) (es : List (Entry N R))
    → step s who note ≡ (reply, t) → ComesFrom step opening start s es → ComesFrom step opening start t (es ++ entry who note reply ∷ [])
comes_grown step opening keeps start s t who note reply es stepped h =
    (h.0, same_opening step opening keeps s t who note reply stepped ∙ h.1, grown_legal step start s t who note reply es stepped h.3 h.2, grown_state step start s t who note reply es stepped h.3)

-- one more call is one more entry
pub history_grown : {S N R : Type 0} (step : S → ℕ → N → R × S) (opening : S → S) (keeps : (s : S) (who : ℕ) (note : N) → opening (step s who note).1 ≡ opening s) (s t : S) (who : ℕ) (note : N) (reply : R) (es : List (Entry N R))
    → step s who note ≡ (reply, t) → IsHistoryOf step opening s es → IsHistoryOf step opening t (es ++ entry who note reply ∷ [])
history_grown step opening keeps s t who note reply es stepped h =
    subst (λ (z : _). IsLegal step z (es ++ entry who note reply ∷ []) × (replay step z (es ++ entry who note reply ∷ []) ≡ t)) (sym (same_opening step opening keeps s t who note reply stepped))
    (grown_legal step (opening s) s t who note reply es stepped h.1 h.0, grown_state step (opening s) s t who note reply es stepped h.1)

-- the desk after one more call still comes from the desk as it was at first
pub fits_grown : {D S N R : Type 0} (state : D → S) (step : S → ℕ → N → R × S) (opening : S → S) (keeps : (s : S) (who : ℕ) (note : N) → opening (step s who note).1 ≡ opening s) (start : D) (b b' : DeskHistory D N R) (who : ℕ) (note : N) (reply : R)
    → step (state b.desk) who note ≡ (reply, state b'.desk) → b'.book ≡ b.book ++ entry who note reply ∷ [] → FitsDesk state step opening start b → FitsDesk state step opening start b'
fits_grown state step opening keeps start b b' who note reply stepped grown h =
    subst (ComesFrom step opening (state start) (state b'.desk)) (sym grown) (comes_grown step opening keeps (state start) (state b.desk) (state b'.desk) who note reply b.book stepped h)
