-- What holds of each item of a list.
use Rattle.std.proofs.Common.{◌≡◌, ℕ, zero, suc, ◌<◌, ◌≤◌, ◌⊎◌, inl, inr, List, [], ◌∷◌, ◌++◌, Some, Bool, true, false, refl, sym, subst, ap, cond, arith, length, get_or, map, drop}
use Rattle.std.specs.Prelude.{find, Contains, flat_map}
use Rattle.std.proofs.lemmas.Option.{same_Some}
use Rattle.std.proofs.lemmas.List.Elements.{Contains-append_left, Contains-append_right, Contains-append_cases, Contains-push_cases}
use Rattle.catalogue_state.specs.State.{change_first, drop_first}

module _ {X : Type 0} where
  pub here : (x : X) (xs : List X) → Contains (x ∷ xs) x
  here x xs = (0, omega arith, refl)

  pub there : (x y : X) (xs : List X) → Contains xs x → Contains (y ∷ xs) x
  there x y xs h = (suc h.0, omega (arith, h.1), h.2)

  cases_at : (x y : X) (xs : List X) (k : ℕ) → k < suc (length xs) → get_or (y ∷ xs) k x ≡ x → (y ≡ x) ⊎ Contains xs x
  cases_at x y xs zero lt e = inl e
  cases_at x y xs (suc k) lt e = inr (k, omega arith, e)

  pub cases : (x y : X) (xs : List X) → Contains (y ∷ xs) x → (y ≡ x) ⊎ Contains xs x
  cases x y xs h = cases_at x y xs h.0 h.1 h.2

  pub in_none : (x : X) → Contains [] x → ⊥
  in_none x h = absurd (omega (arith, h.1))

  found_at : (p : X → Bool) (y : X) (xs : List X) (x : X) (b : Bool) → p y ≡ b → (find p xs ≡ Some x → Contains xs x) → find p (y ∷ xs) ≡ Some x → Contains (y ∷ xs) x
  found_at p y xs x true e ih h = let k = rw e at h in (0, omega arith, cc)
  found_at p y xs x false e ih h = let k = rw e at h in there x y xs (ih k)

  -- what is found is in the list
  pub of_find : (p : X → Bool) (xs : List X) (x : X) → find p xs ≡ Some x → Contains xs x
  of_find p [] x h = absurd (cc)
  of_find p (y ∷ xs) x h = found_at p y xs x (p y) refl (of_find p xs x) h

  -- P holds of each item
  abbrev pub Each : (X → Type 0) → List X → Type 0
  Each P xs = (x : X) → Contains xs x → P x

  pub each_none : (P : X → Type 0) → Each P []
  each_none P x h = absurd (in_none x h)

  pub each_rest : (P : X → Type 0) (y : X) (xs : List X) → Each P (y ∷ xs) → Each P xs
  each_rest P y xs all x h = all x (there x y xs h)

  pub each_cons : (P : X → Type 0) (y : X) (xs : List X) → P y → Each P xs → Each P (y ∷ xs)
  each_cons P y xs py all x h = elim (cases x y xs h) [ inl q ↦ subst P q py | inr k ↦ all x k ]

  change_at : (P : X → Type 0) (p : X → Bool) (f : X → X) (y : X) (xs : List X) (b : Bool) → p y ≡ b → (P y → P (f y)) → P y → Each P xs → Each P (change_first p f xs)
      → Each P (cond (p y) (f y ∷ xs) (y ∷ change_first p f xs))
  change_at P p f y xs true e up py all ih = rw e (each_cons P (f y) xs (up py) all)
  change_at P p f y xs false e up py all ih = rw e (each_cons P y (change_first p f xs) py ih)

  -- after a change of one item that keeps P
  pub each_changed : (P : X → Type 0) (p : X → Bool) (f : X → X) → ((x : X) → P x → P (f x)) → (xs : List X) → Each P xs → Each P (change_first p f xs)
  each_changed P p f up [] all = all
  each_changed P p f up (y ∷ xs) all =
      let rest = each_rest P y xs all in
      change_at P p f y xs (p y) refl (up y) (all y (here y xs)) rest (each_changed P p f up xs rest)

  found_change_at : (P : X → Type 0) (p : X → Bool) (f : X → X) (y x : X) (xs : List X) (b : Bool) → p x ≡ b → find p (x ∷ xs) ≡ Some y → P (f y) → P x → Each P xs
      → (find p xs ≡ Some y → Each P (change_first p f xs)) → Each P (cond (p x) (f x ∷ xs) (x ∷ change_first p f xs))
  found_change_at P p f y x xs true e is py px all ih =
      let q : x ≡ y = same_Some x y (rw e at is) in
      rw e (each_cons P (f x) xs (subst (λ w. P (f w)) (sym q) py) all)
  found_change_at P p f y x xs false e is py px all ih = rw e (each_cons P x (change_first p f xs) px (ih (rw e at is)))

  -- after a change of the item that is found, after which P holds of it
  pub each_found : (P : X → Type 0) (p : X → Bool) (f : X → X) (y : X) (xs : List X) → find p xs ≡ Some y → P (f y) → Each P xs → Each P (change_first p f xs)
  each_found P p f y [] is py all = all
  each_found P p f y (x ∷ xs) is py all =
      let rest = each_rest P x xs all in
      found_change_at P p f y x xs (p x) refl is py (all x (here x xs)) rest (λ q. each_found P p f y xs q py rest)

  drop_at : (P : X → Type 0) (p : X → Bool) (y : X) (xs : List X) (b : Bool) → p y ≡ b → P y → Each P xs → Each P (drop_first p xs) → Each P (cond (p y) xs (y ∷ drop_first p xs))
  drop_at P p y xs true e py all ih = rw e all
  drop_at P p y xs false e py all ih = rw e (each_cons P y (drop_first p xs) py ih)

  -- after one item was taken out
  pub each_dropped : (P : X → Type 0) (p : X → Bool) (xs : List X) → Each P xs → Each P (drop_first p xs)
  each_dropped P p [] all = all
  each_dropped P p (y ∷ xs) all =
      let rest = each_rest P y xs all in
      drop_at P p y xs (p y) refl (all y (here y xs)) rest (each_dropped P p xs rest)

  -- after one more item
  pub each_push : (P : X → Type 0) (xs : List X) (y : X) → Each P xs → P y → Each P (xs ++ y ∷ [])
  each_push P xs y all py x h = elim (Contains-push_cases xs y x h) [ inl k ↦ all x k | inr q ↦ subst P q py ]

  in_drop_at : (n : ℕ) (x y : X) (xs : List X) → (Contains (drop n xs) y → Contains xs y) → Contains (drop n xs) y → Contains (x ∷ xs) y
  in_drop_at n x y xs ih h = there y x xs (ih h)

  -- what is behind the first items of a list is in the list
  pub in_drop : (n : ℕ) (xs : List X) (y : X) → Contains (drop n xs) y → Contains xs y
  in_drop zero [] y h = h
  in_drop zero (x ∷ xs) y h = h
  in_drop (suc n) [] y h = h
  in_drop (suc n) (x ∷ xs) y h = in_drop_at n x y xs (in_drop n xs y) h

  -- how many there are then
  change_length_at : (p : X → Bool) (f : X → X) (x : X) (xs : List X) (b : Bool) → length (change_first p f xs) ≡ length xs → length (cond b (f x ∷ xs) (x ∷ change_first p f xs)) ≡ suc (length xs)
  change_length_at p f x xs true ih = refl
  change_length_at p f x xs false ih = ap suc ih

  pub length-change_first : (p : X → Bool) (f : X → X) (xs : List X) → length (change_first p f xs) ≡ length xs
  length-change_first p f [] = refl
  length-change_first p f (x ∷ xs) = change_length_at p f x xs (p x) (length-change_first p f xs)

  drop_length_at : (p : X → Bool) (x : X) (xs : List X) (b : Bool) → length (drop_first p xs) ≤ length xs → length (cond b xs (x ∷ drop_first p xs)) ≤ suc (length xs)
  drop_length_at p x xs true ih = omega arith
  drop_length_at p x xs false ih = omega (arith, ih)

  pub length-drop_first : (p : X → Bool) (xs : List X) → length (drop_first p xs) ≤ length xs
  length-drop_first p [] = omega arith
  length-drop_first p (x ∷ xs) = drop_length_at p x xs (p x) (length-drop_first p xs)

module _ {X Y : Type 0} where
  -- of the items of lists, one after the other
  pub each_flat : (P : Y → Type 0) (f : X → List Y) (xs : List X) → Each (λ x. Each P (f x)) xs → Each P (flat_map f xs)
  each_flat P f [] all y h = absurd (in_none y h)
  each_flat P f (x ∷ xs) all y h =
      elim (Contains-append_cases (f x) (flat_map f xs) y h) [
        | inl k ↦ all x (here x xs) y k
        | inr k ↦ each_flat P f xs (each_rest (λ z. Each P (f z)) x xs all) y k
      ]

  flat_from : (f : X → List Y) (x : X) (xs : List X) (y : Y) (z : X) → Contains (f x) y → (z ≡ x) ⊎ Contains xs x → (Contains xs x → Contains (flat_map f xs) y) → Contains (flat_map f (z ∷ xs)) y
  flat_from f x xs y z h (inl q) ih = Contains-append_left (f z) (flat_map f xs) y (subst (λ k. Contains (f k) y) (sym q) h)
  flat_from f x xs y z h (inr k) ih = Contains-append_right (f z) (flat_map f xs) y (ih k)

  pub in_flat : (f : X → List Y) (x : X) (xs : List X) (y : Y) → Contains xs x → Contains (f x) y → Contains (flat_map f xs) y
  in_flat f x [] y h k = absurd (in_none x h)
  in_flat f x (z ∷ xs) y h k = flat_from f x xs y z k (cases x z xs h) (λ j. in_flat f x xs y j k)

  pub each_map : (P : Y → Type 0) (f : X → Y) (xs : List X) → Each (λ x. P (f x)) xs → Each P (map f xs)
  each_map P f [] all = each_none P
  each_map P f (x ∷ xs) all = each_cons P (f x) (map f xs) (all x (here x xs)) (each_map P f xs (each_rest (λ z. P (f z)) x xs all))

  pub in_map : (f : X → Y) (xs : List X) (x : X) → Contains xs x → Contains (map f xs) (f x)
  in_map f [] x h = absurd (in_none x h)
  in_map f (z ∷ xs) x h = elim (cases x z xs h) [ inl q ↦ (0, omega arith, ap f q) | inr k ↦ there (f x) (f z) (map f xs) (in_map f xs x k) ]

  pub each_of_map : (P : Y → Type 0) (f : X → Y) (xs : List X) → Each P (map f xs) → Each (λ x. P (f x)) xs
  each_of_map P f xs all x h = all (f x) (in_map f xs x h)
