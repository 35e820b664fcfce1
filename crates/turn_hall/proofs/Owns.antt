-- A history up to the last entry of a number.
use Rattle.std.proofs.Common.{◌≡◌, ℕ, Bool, true, false, List, [], ◌∷◌, ◌++◌, if◌then◌else◌, eqb, refl, ap}
use Rattle.std.proofs.lemmas.Bool.{eqb-true}
use Rattle.turn_hall.specs.declared.entry.Entry.{Entry}
use Rattle.turn_hall.specs.Replay.{entries_of, EndsWith}
use Rattle.turn_hall.specs.Seen.{own_part, keep_if}

module _ {N R : Type 0} (who : ℕ) where
  abbrev Cut : List (Entry N R) → List (Entry N R) → Type 0
  Cut es own = (tail : List (Entry N R)) × (es ≡ own ++ tail) × (entries_of who tail ≡ [])

  cut_if : (e : Entry N R) (es own l : List (Entry N R)) → entries_of who (e ∷ es) ≡ l → Cut es own → Cut (e ∷ es) (keep_if l e own)
  cut_if e es own [] is c = (e ∷ es, refl, is)
  cut_if e es own (x ∷ xs) is c = (c.0, ap (λ (t : List (Entry N R)). e ∷ t) c.1, c.2)

  pub own_cut : (es : List (Entry N R)) → Cut es (own_part who es)
  own_cut [] = ([], refl, refl)
  own_cut (e ∷ es) = cut_if e es (own_part who es) (entries_of who (e ∷ es)) refl (own_cut es)

  none_if : (e : Entry N R) (own l : List (Entry N R)) → keep_if l e own ≡ [] → l ≡ []
  none_if e own [] is = refl
  none_if e own (x ∷ xs) is = absurd cc

  own_none : (es : List (Entry N R)) → own_part who es ≡ [] → entries_of who es ≡ []
  own_none [] is = refl
  own_none (e ∷ es) is = none_if e (own_part who es) (entries_of who (e ∷ es)) is

  first_own : (b : Bool) (e : Entry N R) (es : List (Entry N R)) → eqb e.who who ≡ b → entries_of who es ≡ [] → (x : Entry N R) (xs : List (Entry N R)) → (if b then (e ∷ entries_of who es) else entries_of who es) ≡ x ∷ xs → e.who ≡ who
  first_own true e es is none x xs p = eqb-true e.who who is
  first_own false e es is none x xs p = absurd cc

  ends_if : (e : Entry N R) (es own l : List (Entry N R)) → entries_of who (e ∷ es) ≡ l → (own ≡ [] → entries_of who es ≡ []) → EndsWith who own → EndsWith who (keep_if l e own)
  ends_if e es own [] is none h = tt
  ends_if e es [] (x ∷ xs) is none h = first_own (eqb e.who who) e es refl (none refl) x xs is
  ends_if e es (f ∷ fs) (x ∷ xs) is none h = h

  pub own_ends : (es : List (Entry N R)) → EndsWith who (own_part who es)
  own_ends [] = tt
  own_ends (e ∷ es) = ends_if e es (own_part who es) (entries_of who (e ∷ es)) refl (own_none es) (own_ends es)
