-- Look-ups after a change of the first item that passes another test.
use Rattle.std.proofs.Common.{◌≡◌, List, [], ◌∷◌, Bool, true, false, refl, cond}
use Rattle.std.specs.Prelude.{find}
use Rattle.catalogue_state.specs.State.{change_first, drop_first}

module _ {X : Type 0} (p q : X → Bool) where
  find_change_at : (f : X → X) (x : X) (xs : List X) (b c : Bool) → p x ≡ b → q x ≡ c → (p x ≡ true → q x ≡ true → ⊥)
      → (p x ≡ true → q (f x) ≡ false) → find q (change_first p f xs) ≡ find q xs
      → find q (cond (p x) (f x ∷ xs) (x ∷ change_first p f xs)) ≡ find q (x ∷ xs)
  find_change_at f x xs true true e g apart kept ih = absurd (apart e g)
  find_change_at f x xs true false e g apart kept ih = rw (e, kept e, g) refl
  find_change_at f x xs false true e g apart kept ih = rw (e, g) refl
  find_change_at f x xs false false e g apart kept ih = rw (e, g) ih

  pub find_change_other : (f : X → X) (xs : List X) → ((x : X) → p x ≡ true → q x ≡ true → ⊥) → ((x : X) → p x ≡ true → q (f x) ≡ false)
      → find q (change_first p f xs) ≡ find q xs
  find_change_other f [] apart kept = refl
  find_change_other f (x ∷ xs) apart kept = find_change_at f x xs (p x) (q x) refl refl (apart x) (kept x) (find_change_other f xs apart kept)

  find_drop_at : (x : X) (xs : List X) (b c : Bool) → p x ≡ b → q x ≡ c → (p x ≡ true → q x ≡ true → ⊥)
      → find q (drop_first p xs) ≡ find q xs → find q (cond (p x) xs (x ∷ drop_first p xs)) ≡ find q (x ∷ xs)
  find_drop_at x xs true true e g apart ih = absurd (apart e g)
  find_drop_at x xs true false e g apart ih = rw (e, g) refl
  find_drop_at x xs false true e g apart ih = rw (e, g) refl
  find_drop_at x xs false false e g apart ih = rw (e, g) ih

  pub find_drop_other : (xs : List X) → ((x : X) → p x ≡ true → q x ≡ true → ⊥) → find q (drop_first p xs) ≡ find q xs
  find_drop_other [] apart = refl
  find_drop_other (x ∷ xs) apart = find_drop_at x xs (p x) (q x) refl refl (apart x) (find_drop_other xs apart)
