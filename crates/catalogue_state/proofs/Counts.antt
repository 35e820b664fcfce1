-- How many items pass a test, after one was changed, taken out or put behind.
use Rattle.std.proofs.Common.{◌≡◌, ℕ, ◌+◌, ◌≤◌, ◌++◌, List, [], ◌∷◌, None, Bool, true, false, refl, sym, ap, subst, ◌∙◌, cond, arith}
use Rattle.std.specs.Prelude.{find, count_by}
use Rattle.std.proofs.lemmas.Option.{none-some}
use Rattle.std.proofs.lemmas.List.Sums.{sum_by-cons, sum_by-append}
use Rattle.catalogue_state.specs.State.{change_first, drop_first}

module _ {X : Type 0} where
  abbrev one : (X → Bool) → X → ℕ
  one q x = cond {A = ℕ} (q x) 1 0

  count_cons : (q : X → Bool) (x : X) (xs : List X) → count_by q (x ∷ xs) ≡ one q x + count_by q xs
  count_cons q x xs = sum_by-cons (one q) x xs

  changed_at : (q p : X → Bool) (f : X → X) (x : X) (xs : List X) (b : Bool) → q (f x) ≡ q x → count_by q (change_first p f xs) ≡ count_by q xs
      → count_by q (cond b (f x ∷ xs) (x ∷ change_first p f xs)) ≡ count_by q (x ∷ xs)
  changed_at q p f x xs true same ih = omega (arith, count_cons q (f x) xs, count_cons q x xs, ap (λ b. cond {A = ℕ} b 1 0) same)
  changed_at q p f x xs false same ih = omega (arith, count_cons q x (change_first p f xs), count_cons q x xs, ih)

  pub count_changed : (q p : X → Bool) (f : X → X) → ((x : X) → q (f x) ≡ q x) → (xs : List X) → count_by q (change_first p f xs) ≡ count_by q xs
  count_changed q p f same [] = refl
  count_changed q p f same (x ∷ xs) = changed_at q p f x xs (p x) (same x) (count_changed q p f same xs)

  dropped_at : (q p : X → Bool) (x : X) (xs : List X) (b : Bool) → count_by q (drop_first p xs) ≤ count_by q xs → count_by q (cond b xs (x ∷ drop_first p xs)) ≤ count_by q (x ∷ xs)
  dropped_at q p x xs true ih = omega (arith, count_cons q x xs)
  dropped_at q p x xs false ih = omega (arith, count_cons q x (drop_first p xs), count_cons q x xs, ih)

  pub count_dropped : (q p : X → Bool) (xs : List X) → count_by q (drop_first p xs) ≤ count_by q xs
  count_dropped q p [] = omega arith
  count_dropped q p (x ∷ xs) = dropped_at q p x xs (p x) (count_dropped q p xs)

  none_at : (q : X → Bool) (x : X) (xs : List X) (b : Bool) → q x ≡ b → find q (x ∷ xs) ≡ None → (find q xs ≡ None → count_by q xs ≡ 0) → one q x + count_by q xs ≡ 0
  none_at q x xs true e none ih = absurd (none-some x (sym (rw e at none)))
  none_at q x xs false e none ih = rw e (omega (arith, ih (rw e at none)))

  count_none : (q : X → Bool) (xs : List X) → find q xs ≡ None → count_by q xs ≡ 0
  count_none q [] none = refl
  count_none q (x ∷ xs) none = count_cons q x xs ∙ none_at q x xs (q x) refl none (count_none q xs)

  more_at : (q : X → Bool) (xs : List X) (y : X) (b : Bool) → q y ≡ b → count_by q xs ≤ 1 → (q y ≡ true → find q xs ≡ None) → count_by q xs + (one q y + 0) ≤ 1
  more_at q xs y true e few new = rw (e, count_none q xs (new e)) (omega arith)
  more_at q xs y false e few new = rw e (omega (arith, few))

  -- one more item, which passes only where none passed before
  pub one_more_each : (q : X → Bool) (xs : List X) (y : X) → count_by q xs ≤ 1 → (q y ≡ true → find q xs ≡ None) → count_by q (xs ++ y ∷ []) ≤ 1
  one_more_each q xs y few new =
      subst (λ n. n ≤ 1) (sym (sum_by-append (one q) xs (y ∷ []) ∙ ap (λ n. count_by q xs + n) (count_cons q y []))) (more_at q xs y (q y) refl few new)

  zero_at : (q : X → Bool) (x : X) (xs : List X) (b : Bool) → q x ≡ b → one q x + count_by q xs ≤ 0 → (count_by q xs ≤ 0 → find q xs ≡ None) → find q (x ∷ xs) ≡ None
  zero_at q x xs true e zero ih = absurd (omega (arith, rw e at zero))
  zero_at q x xs false e zero ih = rw e (ih (omega (arith, rw e at zero)))

  find_none : (q : X → Bool) (xs : List X) → count_by q xs ≤ 0 → find q xs ≡ None
  find_none q [] zero = refl
  find_none q (x ∷ xs) zero = zero_at q x xs (q x) refl (subst (λ n. n ≤ 0) (count_cons q x xs) zero) (find_none q xs)

  gone_at : (q : X → Bool) (x : X) (xs : List X) (b : Bool) → q x ≡ b → one q x + count_by q xs ≤ 1 → (count_by q xs ≤ 1 → find q (drop_first q xs) ≡ None) → find q (cond (q x) xs (x ∷ drop_first q xs)) ≡ None
  gone_at q x xs true e few ih = let zero : count_by q xs ≤ 0 = omega (arith, rw e at few) in rw e (find_none q xs zero)
  gone_at q x xs false e few ih = rw (e, e) (ih (omega (arith, rw e at few)))

  -- the only one that passes is gone once it was taken out
  pub only_one_dropped : (q : X → Bool) (xs : List X) → count_by q xs ≤ 1 → find q (drop_first q xs) ≡ None
  only_one_dropped q [] few = refl
  only_one_dropped q (x ∷ xs) few = gone_at q x xs (q x) refl (subst (λ n. n ≤ 1) (count_cons q x xs) few) (only_one_dropped q xs)
