-- the list of what is left
use Rattle.std.proofs.Common.{◌≡◌, ℕ, zero, suc, ◌+◌, ◌<◌, ◌≤◌, ◌⊎◌, inl, inr, Bool, true, false, cond, List, [], ◌∷◌, ◌++◌, length, take, slice_index, refl, ap, sym, ◌∙◌, arith}
use Rattle.std.specs.Prelude.{filter, nat_le, Contains, Result, Ok, Err, OnOk}
use Rattle.std.specs.List.{range_with_len}
use Rattle.std.proofs.lemmas.Bool.{false≢true, leb-true, le-leb}
use Rattle.std.proofs.lemmas.List.{map-id, append-nil, take_more}
use Rattle.std.proofs.lemmas.List.Elements.{filter-append}
use Rattle.std.proofs.lemmas.List.FromFn.{map-range_with_len_more, length-range_with_len, get_or-range_with_len}

-- ---- the items that pass a test

pub here_or_there : {X : Type 0} (y x : X) (xs : List X) → Contains (y ∷ xs) x → (y ≡ x) ⊎ Contains xs x
here_or_there y x xs (zero, lt, at) = inl at
here_or_there y x xs (suc k, lt, at) = inr (k, omega arith, at)

there : {X : Type 0} (y x : X) (xs : List X) → Contains xs x → Contains (y ∷ xs) x
there y x xs h = (suc h.0, omega (arith, h.1), h.2)

module _ {X : Type 0} (p : X → Bool) where
  passed_by : (y x : X) (xs : List X) (b : Bool) → p y ≡ b → (Contains (filter p xs) x → Contains xs x × (p x ≡ true))
      → Contains (cond b (y ∷ filter p xs) (filter p xs)) x → Contains (y ∷ xs) x × (p x ≡ true)
  passed_by y x xs false e ih h = let r = ih h in (there y x xs r.0, r.1)
  passed_by y x xs true e ih h =
      elim (here_or_there y x (filter p xs) h) [
        | inl q ↦ ((0, omega arith, q), sym (ap p q) ∙ e)
        | inr q ↦ let r = ih q in (there y x xs r.0, r.1)
      ]

  pub passed : (xs : List X) (x : X) → Contains (filter p xs) x → Contains xs x × (p x ≡ true)
  passed [] x h = absurd (omega (arith, h.1))
  passed (y ∷ xs) x h = passed_by y x xs (p y) refl (passed xs x) h

  passes_by : (y x : X) (xs : List X) (b : Bool) → p y ≡ b → (Contains xs x → Contains (filter p xs) x) → p x ≡ true
      → (y ≡ x) ⊎ Contains xs x → Contains (cond b (y ∷ filter p xs) (filter p xs)) x
  passes_by y x xs true e ih px (inl q) = (0, omega arith, q)
  passes_by y x xs true e ih px (inr q) = there y x (filter p xs) (ih q)
  passes_by y x xs false e ih px (inl q) = absurd (false≢true (sym e ∙ ap p q ∙ px))
  passes_by y x xs false e ih px (inr q) = ih q

  pub passes : (xs : List X) (x : X) → Contains xs x → p x ≡ true → Contains (filter p xs) x
  passes [] x h px = absurd (omega (arith, h.1))
  passes (y ∷ xs) x h px = passes_by y x xs (p y) refl (λ q. passes xs x q px) px (here_or_there y x xs h)

  no_longer_by : (y : X) (xs : List X) (b : Bool) → p y ≡ b → length (filter p xs) ≤ length xs → length (cond b (y ∷ filter p xs) (filter p xs)) ≤ length (y ∷ xs)
  no_longer_by y xs true e ih = omega (arith, ih)
  no_longer_by y xs false e ih = omega (arith, ih)

  pub no_longer : (xs : List X) → length (filter p xs) ≤ length xs
  no_longer [] = omega arith
  no_longer (y ∷ xs) = no_longer_by y xs (p y) refl (no_longer xs)

  shorter_by : (y x : X) (xs : List X) (b : Bool) → p y ≡ b → p x ≡ false → (Contains xs x → length (filter p xs) < length xs)
      → (y ≡ x) ⊎ Contains xs x → length (cond b (y ∷ filter p xs) (filter p xs)) < length (y ∷ xs)
  shorter_by y x xs true e px ih (inl q) = absurd (false≢true (sym px ∙ sym (ap p q) ∙ e))
  shorter_by y x xs true e px ih (inr q) = omega (arith, ih q)
  shorter_by y x xs false e px ih h = omega (arith, no_longer xs)

  -- a list with an item that does not pass gets shorter
  pub shorter : (xs : List X) (x : X) → Contains xs x → p x ≡ false → length (filter p xs) < length xs
  shorter [] x h px = absurd (omega (arith, h.1))
  shorter (y ∷ xs) x h px = shorter_by y x xs (p y) refl px (λ q. shorter xs x q px) (here_or_there y x xs h)

  -- where the list gets no shorter each item passes
  pub all_pass : (xs : List X) (x : X) (b : Bool) → p x ≡ b → length (filter p xs) ≡ length xs → Contains xs x → p x ≡ true
  all_pass xs x true e same h = e
  all_pass xs x false e same h = absurd (omega (arith, shorter xs x h e, same))

-- ---- lists made item by item

pub range_more : (n : ℕ) → range_with_len 0 (n + 1) ≡ range_with_len 0 n ++ n ∷ []
range_more n = sym (map-id (range_with_len 0 (n + 1))) ∙ map-range_with_len_more (λ (i : ℕ). i) 0 n n (omega arith) ∙ ap (λ (xs : List ℕ). xs ++ n ∷ []) (map-id (range_with_len 0 n))

module _ (p : ℕ → Bool) (xs : List ℕ) (i : ℕ) (lt : i < length xs) where
  split : filter p (take (i + 1) xs) ≡ filter p (take i xs) ++ filter p (slice_index xs i ∷ [])
  split = ap (filter p) (take_more xs i 0 lt) ∙ filter-append p (take i xs) (slice_index xs i ∷ [])

  pub filter_yes : p (slice_index xs i) ≡ true → filter p (take (i + 1) xs) ≡ filter p (take i xs) ++ slice_index xs i ∷ []
  filter_yes h = split ∙ ap (λ (b : Bool). filter p (take i xs) ++ cond b (slice_index xs i ∷ []) []) h

  pub filter_no : p (slice_index xs i) ≡ false → filter p (take (i + 1) xs) ≡ filter p (take i xs)
  filter_no h = split ∙ ap (λ (b : Bool). filter p (take i xs) ++ cond b (slice_index xs i ∷ []) []) h ∙ append-nil (filter p (take i xs))

-- ---- the vertices with few edge ends

module _ (ends left : List ℕ) (level v : ℕ) where
  pub few_in : Contains (filter (λ u. nat_le (slice_index ends u) level) left) v → Contains left v × (slice_index ends v ≤ level)
  few_in h = let r = passed (λ u. nat_le (slice_index ends u) level) left v h in (r.0, leb-true (slice_index ends v) level r.1)

  pub few_has : Contains left v → slice_index ends v ≤ level → Contains (filter (λ u. nat_le (slice_index ends u) level) left) v
  few_has h le = passes (λ u. nat_le (slice_index ends u) level) left v h (le-leb (slice_index ends v) level le)

  -- where the list got no shorter all of it is there
  pub few_all : length (filter (λ u. nat_le (slice_index ends u) level) left) ≡ length left → Contains left v → Contains (filter (λ u. nat_le (slice_index ends u) level) left) v
  few_all same h =
      passes (λ u. nat_le (slice_index ends u) level) left v h
      (all_pass (λ u. nat_le (slice_index ends u) level) left v (nat_le (slice_index ends v) level) refl same h)

-- ---- all vertices

pub all_in : (n v : ℕ) → Contains (range_with_len 0 n) v → v < n
all_in n v h =
    let lt : h.0 < n = omega (arith, h.1, length-range_with_len 0 n) in
    omega (arith, h.2, get_or-range_with_len 0 n h.0 v lt)

pub all_there : (n v : ℕ) → v < n → Contains (range_with_len 0 n) v
all_there n v lt = (v, omega (arith, length-range_with_len 0 n), get_or-range_with_len 0 n v v lt ∙ omega arith)

-- what follows of an Ok follows of it after a step
pub on_ok : {T E P Q : Type 0} (r : Result T E) → OnOk r P → (P → Q) → OnOk r Q
on_ok (Ok x) p f = f p
on_ok (Err e) p f = tt
