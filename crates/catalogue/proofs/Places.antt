-- The first item that passes a test, by its place.
use Rattle.std.proofs.Common.{◌≡◌, ℕ, zero, suc, ◌<◌, ◌≤◌, List, [], ◌∷◌, Option, Some, None, Bool, true, false, refl, sym, ap, ◌∙◌, cond, arith, length, get_or, set, ltb, inl, inr}
use Rattle.std.specs.Prelude.{find, position, remove}
use Rattle.std.specs.List.{position_or_len, refill}
use Rattle.std.proofs.lemmas.Bool.{cases_lt, lt-ltb}
use Rattle.std.proofs.lemmas.Option.{none-some}
use Rattle.std.proofs.lemmas.List.{length-set}
use Rattle.std.proofs.lemmas.List.Quantifiers.{position-Some}
use Rattle.std.proofs.lemmas.List.Sums.{fails_before_first}
use Rattle.graph_model.proofs.Rows.{refill_same}
use Rattle.catalogue_state.specs.State.{change_first, drop_first}

module _ {X : Type 0} (p : X → Bool) where
  -- no item before a place passes
  abbrev FailsBefore : List X → ℕ → X → Type 0
  FailsBefore xs i d = (k : ℕ) → k < i → p (get_or xs k d) ≡ false

  -- no item passes
  abbrev NonePasses : List X → Type 0
  NonePasses xs = (k : ℕ) (d : X) → k < length xs → p (get_or xs k d) ≡ false

  rest_fails : (x : X) (xs : List X) → NonePasses (x ∷ xs) → NonePasses xs
  rest_fails x xs none k d lt = none (suc k) d (omega arith)

  head_fails : (x : X) (xs : List X) → NonePasses (x ∷ xs) → p x ≡ false
  head_fails x xs none = none 0 x (omega arith)

  find_nothing : (xs : List X) → NonePasses xs → find p xs ≡ None
  find_nothing [] none = refl
  find_nothing (x ∷ xs) none = rw (head_fails x xs none) (find_nothing xs (rest_fails x xs none))

  change_nothing : (f : X → X) (xs : List X) → NonePasses xs → change_first p f xs ≡ xs
  change_nothing f [] none = refl
  change_nothing f (x ∷ xs) none = rw (head_fails x xs none) (ap (λ l. x ∷ l) (change_nothing f xs (rest_fails x xs none)))

  drop_nothing : (xs : List X) → NonePasses xs → drop_first p xs ≡ xs
  drop_nothing [] none = refl
  drop_nothing (x ∷ xs) none = rw (head_fails x xs none) (ap (λ l. x ∷ l) (drop_nothing xs (rest_fails x xs none)))

  find_at : (xs : List X) (i : ℕ) (d : X) → i < length xs → p (get_or xs i d) ≡ true → FailsBefore xs i d → find p xs ≡ Some (get_or xs i d)
  find_at [] i d lt is before = absurd (omega arith)
  find_at (x ∷ xs) zero d lt is before = rw is refl
  find_at (x ∷ xs) (suc i) d lt is before = rw (before 0 (omega arith)) (find_at xs i d (omega arith) is (λ k l. before (suc k) (omega arith)))

  drop_at : (xs : List X) (i : ℕ) (d : X) → i < length xs → p (get_or xs i d) ≡ true → FailsBefore xs i d → drop_first p xs ≡ remove xs i
  drop_at [] i d lt is before = absurd (omega arith)
  drop_at (x ∷ xs) zero d lt is before = rw is refl
  drop_at (x ∷ xs) (suc i) d lt is before = rw (before 0 (omega arith)) (ap (λ l. x ∷ l) (drop_at xs i d (omega arith) is (λ k l. before (suc k) (omega arith))))

  change_at : (f : X → X) (xs : List X) (i : ℕ) (d : X) → i < length xs → p (get_or xs i d) ≡ true → FailsBefore xs i d → change_first p f xs ≡ set xs i (f (get_or xs i d))
  change_at f [] i d lt is before = absurd (omega arith)
  change_at f (x ∷ xs) zero d lt is before = rw is refl
  change_at f (x ∷ xs) (suc i) d lt is before = rw (before 0 (omega arith)) (ap (λ l. x ∷ l) (change_at f xs i d (omega arith) is (λ k l. before (suc k) (omega arith))))

  past_end : (n m : ℕ) → ◌≡◌ {A = Option ℕ} (cond (ltb n m) (Some n) None) None → m ≤ n
  past_end n m h = elim (cases_lt n m) [
    | inl lt ↦ absurd (none-some n (sym h ∙ ap (λ b. cond b (Some n) None) (lt-ltb n m lt)))
    | inr ge ↦ ge
  ]

  none_passes : (xs : List X) → position p xs ≡ None → NonePasses xs
  none_passes xs h k d lt =
      let all = past_end (position_or_len p xs) (length xs) h in
      fails_before_first p xs k d (omega (arith, all, lt))

  -- where no item has a place
  pub none_found : (xs : List X) → position p xs ≡ None → find p xs ≡ None
  none_found xs h = find_nothing xs (none_passes xs h)

  pub none_changed : (f : X → X) (xs : List X) → position p xs ≡ None → xs ≡ change_first p f xs
  none_changed f xs h = sym (change_nothing f xs (none_passes xs h))

  pub none_dropped : (xs : List X) → position p xs ≡ None → xs ≡ drop_first p xs
  none_dropped xs h = sym (drop_nothing xs (none_passes xs h))

  -- where the first is at a place
  pub some_within : (xs : List X) (i : ℕ) → position p xs ≡ Some i → i < length xs
  some_within [] i h = absurd (cc)
  some_within (x ∷ xs) i h = (position-Some p (x ∷ xs) i x h).0

  pub some_found : (xs : List X) (i : ℕ) (d : X) → position p xs ≡ Some i → find p xs ≡ Some (get_or xs i d)
  some_found xs i d h = let at = position-Some p xs i d h in find_at xs i d at.0 at.1 at.2

  pub some_dropped : (xs : List X) (i : ℕ) (d : X) → position p xs ≡ Some i → drop_first p xs ≡ remove xs i
  some_dropped xs i d h = let at = position-Some p xs i d h in drop_at xs i d at.0 at.1 at.2

  pub some_changed : (f : X → X) (xs : List X) (i : ℕ) (d : X) → position p xs ≡ Some i → change_first p f xs ≡ set xs i (f (get_or xs i d))
  some_changed f xs i d h = let at = position-Some p xs i d h in change_at f xs i d at.0 at.1 at.2

  -- a slice that was lent for a change at that place
  pub lent_changed : (f : X → X) (xs ws : List X) (i : ℕ) (d y : X) → ws ≡ xs → position p xs ≡ Some i → y ≡ f (get_or xs i d) → refill (length xs) xs (set ws i y) ≡ change_first p f xs
  lent_changed f xs ws i d y lent at is =
      rw (lent, is) (refill_same xs (set xs i (f (get_or xs i d))) (length-set xs i (f (get_or xs i d))) ∙ sym (some_changed f xs i d at))
