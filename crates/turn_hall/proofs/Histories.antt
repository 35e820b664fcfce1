-- Histories put together.
use Rattle.std.specs.Prelude.{◌≡◌, ℕ, List, [], ◌∷◌, ◌++◌, refl}
use Rattle.turn_hall.specs.declared.entry.Entry.{Entry}
use Rattle.turn_hall.specs.Replay.{replay, IsLegal}

module _ {S N R : Type 0} (step : S → ℕ → N → R × S) where
  pub replay-append : (s : S) (xs ys : List (Entry N R)) → replay step s (xs ++ ys) ≡ replay step (replay step s xs) ys
  replay-append s [] ys = refl
  replay-append s (x ∷ xs) ys = replay-append (step s x.who x.note).1 xs ys

  pub legal-append : (s : S) (xs ys : List (Entry N R)) → IsLegal step s xs → IsLegal step (replay step s xs) ys → IsLegal step s (xs ++ ys)
  legal-append s [] ys a b = b
  legal-append s (x ∷ xs) ys a b = (a.0, legal-append (step s x.who x.note).1 xs ys a.1 b)

  pub legal-front : (s : S) (xs ys : List (Entry N R)) → IsLegal step s (xs ++ ys) → IsLegal step s xs
  legal-front s [] ys a = tt
  legal-front s (x ∷ xs) ys a = (a.0, legal-front (step s x.who x.note).1 xs ys a.1)

  -- what each step keeps, a replay keeps
  pub replay-keeps : (P : S → Type 0) → ((s : S) (who : ℕ) (n : N) → P s → P (step s who n).1) → (s : S) (xs : List (Entry N R)) → P s → P (replay step s xs)
  replay-keeps P k s [] p = p
  replay-keeps P k s (x ∷ xs) p = replay-keeps P k (step s x.who x.note).1 xs (k s x.who x.note p)
