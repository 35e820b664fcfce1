-- The numbers of the columns of a derived snapshot: those that it keeps and the new ones, none twice.
use Rattle.std.proofs.Common.{◌≡◌, ℕ, zero, suc, ◌+◌, ◌<◌, ◌≤◌, ◌⊎◌, inl, inr, List, [], ◌∷◌, ◌++◌, Option, Some, None, Bool, true, false, refl, sym, ap, subst, ◌∙◌, cond, arith, length, eqb}
use Rattle.std.specs.Prelude.{Contains, slice_get, slice_index_or, ◌==◌}
use Rattle.std.specs.List.{range_with_len}
use Rattle.std.proofs.lemmas.Bool.{eq-eqb, eqb-true}
use Rattle.std.proofs.lemmas.Option.{none-some, same_Some, slice_get-get_or}
use Rattle.column_reclaim.specs.Registry.{times}
use Rattle.column_reclaim.proofs.Times.{times-cons}
use Rattle.graph_slots.specs.declared.part.Part.{Part}
use Rattle.catalogue_state.specs.Derived.{numbers_by, numbers_kept, new_count, new_parts}
use Rattle.catalogue_state.proofs.Lists.{here, there, cases, in_none}
use Rattle.catalogue.proofs.Uses.{times_in, in_of_get}
use Rattle.catalogue.proofs.Numbers.{none_below, range_differs}

-- a slot keeps one of so many
abbrev pub KnowsBelow : ℕ → List (Option ℕ) → Type 0
KnowsBelow n kept = (i k : ℕ) → slice_get kept i ≡ Some (Some k) → k < n

-- no slot is kept twice
abbrev pub KeepsOnce : List (Option ℕ) → Type 0
KeepsOnce kept = (i j k : ℕ) → slice_get kept i ≡ Some (Some k) → slice_get kept j ≡ Some (Some k) → i ≡ j

rest_below : (n : ℕ) (k : Option ℕ) (kept : List (Option ℕ)) → KnowsBelow n (k ∷ kept) → KnowsBelow n kept
rest_below n k kept all i j e = all (suc i) j e

same_suc : (i j : ℕ) → suc i ≡ suc j → i ≡ j
same_suc i j e = omega (arith, e)

rest_once : (k : Option ℕ) (kept : List (Option ℕ)) → KeepsOnce (k ∷ kept) → KeepsOnce kept
rest_once k kept once i j n a b = same_suc i j (once (suc i) (suc j) n a b)

-- ---- one number at two places

place_at : (c x : ℕ) (xs : List ℕ) (j : ℕ) → x ≡ c → slice_get xs j ≡ Some c → times c (x ∷ xs) ≤ 1 → ⊥
place_at c x xs j q b few =
    let one : cond {A = ℕ} (x == c) 1 0 ≡ 1 = ap (λ t. cond {A = ℕ} t 1 0) (eq-eqb x c q) in
    absurd (omega (arith, few, times-cons c x xs, one, times_in c xs (in_of_get c xs j b)))

same_place : (c : ℕ) (xs : List ℕ) (i j : ℕ) → times c xs ≤ 1 → slice_get xs i ≡ Some c → slice_get xs j ≡ Some c → i ≡ j
same_place c [] i j few a b = absurd (none-some c a)
same_place c (x ∷ xs) zero zero few a b = refl
same_place c (x ∷ xs) zero (suc j) few a b = absurd (place_at c x xs j (same_Some x c a) b few)
same_place c (x ∷ xs) (suc i) zero few a b = absurd (place_at c x xs i (same_Some x c b) a few)
same_place c (x ∷ xs) (suc i) (suc j) few a b = ap suc (same_place c xs i j (omega (arith, few, times-cons c x xs)) a b)

module _ (old : List ℕ) where
  -- ---- how many there are

  pub length_numbers : (next : ℕ) (kept : List (Option ℕ)) → length (numbers_by old next kept) ≡ length kept
  length_numbers next [] = refl
  length_numbers next (Some n ∷ kept) = ap suc (length_numbers next kept)
  length_numbers next (None ∷ kept) = ap suc (length_numbers (next + 1) kept)

  pub times_numbers : (c next : ℕ) (kept : List (Option ℕ)) → times c (numbers_by old next kept) ≡ times c (numbers_kept old kept) + times c (range_with_len next (new_count kept))
  times_numbers c next [] = omega arith
  times_numbers c next (Some n ∷ kept) =
      let x = slice_index_or old n 0 in
      omega (arith, times-cons c x (numbers_by old next kept), times-cons c x (numbers_kept old kept), times_numbers c next kept)
  times_numbers c next (None ∷ kept) =
      omega (
        arith,
        times-cons c next (numbers_by old (next + 1) kept),
        times-cons c next (range_with_len (next + 1) (new_count kept)),
        times_numbers c (next + 1) kept,
      )

  -- ---- the numbers that are kept are the base's, none twice

  abbrev IsOf : List (Option ℕ) → ℕ → Type 0
  IsOf kept c = (i : ℕ) × (n : ℕ) × (slice_get kept i ≡ Some (Some n)) × (slice_get old n ≡ Some c)

  of_next : (k : Option ℕ) (kept : List (Option ℕ)) (c : ℕ) → IsOf kept c → IsOf (k ∷ kept) c
  of_next k kept c h = (suc h.0, h.1, h.2, h.3)

  of_first : (n c : ℕ) (kept : List (Option ℕ)) → n < length old → (slice_index_or old n 0 ≡ c) ⊎ Contains (numbers_kept old kept) c
      → (Contains (numbers_kept old kept) c → IsOf kept c) → IsOf (Some n ∷ kept) c
  of_first n c kept lt (inl q) ih = (0, n, refl, slice_get-get_or old n 0 lt ∙ ap (λ x. Some x) q)
  of_first n c kept lt (inr h) ih = of_next (Some n) kept c (ih h)

  pub kept_in : (c : ℕ) (kept : List (Option ℕ)) → KnowsBelow (length old) kept → Contains (numbers_kept old kept) c → IsOf kept c
  kept_in c [] known h = absurd (in_none c h)
  kept_in c (Some n ∷ kept) known h =
      of_first n c kept (known 0 n refl) (cases c (slice_index_or old n 0) (numbers_kept old kept) h) (kept_in c kept (rest_below (length old) (Some n) kept known))
  kept_in c (None ∷ kept) known h = of_next None kept c (kept_in c kept (rest_below (length old) None kept known) h)

  in_times_at : (c x : ℕ) (xs : List ℕ) (b : Bool) → eqb x c ≡ b → 0 < cond {A = ℕ} b 1 0 + times c xs → (0 < times c xs → Contains xs c) → Contains (x ∷ xs) c
  in_times_at c x xs true e lt ih = subst (Contains (x ∷ xs)) (eqb-true x c e) (here x xs)
  in_times_at c x xs false e lt ih = there c x xs (ih (omega (arith, lt)))

  pub in_times : (c : ℕ) (xs : List ℕ) → 0 < times c xs → Contains xs c
  in_times c [] lt = absurd (omega (arith, lt))
  in_times c (x ∷ xs) lt = in_times_at c x xs (eqb x c) refl (subst (λ n. 0 < n) (times-cons c x xs) lt) (in_times c xs)

  -- a number that is kept at the first place is kept at no other
  alone : (c n : ℕ) (kept : List (Option ℕ)) → times c old ≤ 1 → slice_get old n ≡ Some c → KeepsOnce (Some n ∷ kept) → IsOf kept c → ⊥
  alone c n kept few at once h =
      let same : n ≡ h.1 = same_place c old n h.1 few at h.3 in
      absurd (omega (arith, once 0 (suc h.0) n refl (subst (λ k. slice_get kept h.0 ≡ Some (Some k)) (sym same) h.2)))

  none_more : (n : ℕ) → (0 < n → ⊥) → 1 + n ≤ 1
  none_more zero none = omega arith
  none_more (suc n) none = absurd (none (omega arith))

  differ_at : (c n : ℕ) (kept : List (Option ℕ)) (b : Bool) → eqb (slice_index_or old n 0) c ≡ b → times c old ≤ 1 → n < length old → KnowsBelow (length old) kept → KeepsOnce (Some n ∷ kept)
      → times c (numbers_kept old kept) ≤ 1 → cond {A = ℕ} b 1 0 + times c (numbers_kept old kept) ≤ 1
  differ_at c n kept false e few lt known once ih = omega (arith, ih)
  differ_at c n kept true e few lt known once ih =
      let at : slice_get old n ≡ Some c = slice_get-get_or old n 0 lt ∙ ap (λ x. Some x) (eqb-true (slice_index_or old n 0) c e) in
      let none : 0 < times c (numbers_kept old kept) → ⊥ = λ some. alone c n kept few at once (kept_in c kept known (in_times c (numbers_kept old kept) some)) in
      none_more (times c (numbers_kept old kept)) none

  kept_differ : (c : ℕ) (kept : List (Option ℕ)) → times c old ≤ 1 → KnowsBelow (length old) kept → KeepsOnce kept → times c (numbers_kept old kept) ≤ 1
  kept_differ c [] few known once = omega arith
  kept_differ c (Some n ∷ kept) few known once =
      subst (λ k. k ≤ 1) (sym (times-cons c (slice_index_or old n 0) (numbers_kept old kept)))
      (differ_at c n kept (eqb (slice_index_or old n 0) c) refl few (known 0 n refl) (rest_below (length old) (Some n) kept known) once
      (kept_differ c kept few (rest_below (length old) (Some n) kept known) (rest_once (Some n) kept once)))
  kept_differ c (None ∷ kept) few known once = kept_differ c kept few (rest_below (length old) None kept known) (rest_once None kept once)

  -- so no number of the derived snapshot stands twice: those that are kept are below the new ones
  module _ (next : ℕ) (kept : List (Option ℕ)) (known : KnowsBelow (length old) kept) (once : KeepsOnce kept) (below : (c : ℕ) → Contains old c → c < next) where
    kept_below : (c : ℕ) → 0 < times c (numbers_kept old kept) → c < next
    kept_below c some = let h = kept_in c kept known (in_times c (numbers_kept old kept) some) in below c (in_of_get c old h.1 h.3)

    both_at : (c k n : ℕ) → k ≤ 1 → n ≤ 1 → (0 < k → c < next) → (c < next → n ≡ 0) → k + n ≤ 1
    both_at c zero n few one lt none = omega (arith, one)
    both_at c (suc k) n few one lt none = omega (arith, few, none (lt (omega arith)))

    pub numbers_differ : (c : ℕ) → times c old ≤ 1 → times c (numbers_by old next kept) ≤ 1
    numbers_differ c few =
        subst (λ k. k ≤ 1) (sym (times_numbers c next kept))
        (both_at c (times c (numbers_kept old kept)) (times c (range_with_len next (new_count kept))) (kept_differ c kept few known once) (range_differs next (new_count kept) c)
        (kept_below c) (none_below next (new_count kept) c))

  -- ---- what stands at a slot

  -- a slot that keeps one has the base's number of it
  pub number_kept : (next : ℕ) (kept : List (Option ℕ)) (k n : ℕ) → slice_get kept k ≡ Some (Some n) → slice_get (numbers_by old next kept) k ≡ Some (slice_index_or old n 0)
  number_kept next [] k n e = absurd (none-some (Some n) e)
  number_kept next (Some i ∷ kept) zero n e = ap (λ (j : ℕ). Some (slice_index_or old j 0)) (same_Some i n (same_Some (Some i) (Some n) e))
  number_kept next (None ∷ kept) zero n e = absurd (none-some n (same_Some None (Some n) e))
  number_kept next (Some i ∷ kept) (suc k) n e = number_kept next kept k n e
  number_kept next (None ∷ kept) (suc k) n e = number_kept (next + 1) kept k n e

  -- a new slot has a new number, under which its part is listed
  abbrev pub IsNew : ℕ → List (Option ℕ) → List Part → ℕ → Type 0
  IsNew next kept parts k = (j : ℕ) × (slice_get (numbers_by old next kept) k ≡ Some (next + j)) × (slice_get (new_parts kept parts) j ≡ slice_get parts k)

  new_next : (next : ℕ) (kept : List (Option ℕ)) (p : Part) (parts : List Part) (k : ℕ) → IsNew (next + 1) kept parts k → IsNew next (None ∷ kept) (p ∷ parts) (suc k)
  new_next next kept p parts k h =
      let e : next + 1 + h.0 ≡ next + suc h.0 = omega arith in
      (suc h.0, h.1 ∙ ap (λ (n : ℕ). Some n) e, h.2)

  pub number_new : (next : ℕ) (kept : List (Option ℕ)) (parts : List Part) (k : ℕ) → length parts ≡ length kept → slice_get kept k ≡ Some None → IsNew next kept parts k
  number_new next [] parts k same e = absurd (none-some None e)
  number_new next (Some i ∷ kept) [] k same e = absurd (omega (arith, same))
  number_new next (None ∷ kept) [] k same e = absurd (omega (arith, same))
  number_new next (Some i ∷ kept) (p ∷ parts) zero same e = absurd (none-some i (sym (same_Some (Some i) None e)))
  number_new next (None ∷ kept) (p ∷ parts) zero same e = let z : next ≡ next + 0 = omega arith in (0, ap (λ (n : ℕ). Some n) z, refl)
  number_new next (Some i ∷ kept) (p ∷ parts) (suc k) same e = number_new next kept parts k (omega (arith, same)) e
  number_new next (None ∷ kept) (p ∷ parts) (suc k) same e = new_next next kept p parts k (number_new (next + 1) kept parts k (omega (arith, same)) e)

pub length_new : (kept : List (Option ℕ)) (parts : List Part) → length parts ≡ length kept → length (new_parts kept parts) ≡ new_count kept
length_new [] parts same = refl
length_new (Some n ∷ kept) [] same = absurd (omega (arith, same))
length_new (None ∷ kept) [] same = absurd (omega (arith, same))
length_new (Some n ∷ kept) (p ∷ parts) same = length_new kept parts (omega (arith, same))
length_new (None ∷ kept) (p ∷ parts) same = ap suc (length_new kept parts (omega (arith, same)))

-- ---- slots one after the other

pub numbers_append : (old : List ℕ) (next : ℕ) (kept more : List (Option ℕ)) → numbers_by old next (kept ++ more) ≡ numbers_by old next kept ++ numbers_by old (next + new_count kept) more
numbers_append old next [] more = let z : next ≡ next + 0 = omega arith in ap (λ (n : ℕ). numbers_by old n more) z
numbers_append old next (Some i ∷ kept) more = ap (λ l. slice_index_or old i 0 ∷ l) (numbers_append old next kept more)
numbers_append old next (None ∷ kept) more =
    let e : next + 1 + new_count kept ≡ next + suc (new_count kept) = omega arith in
    ap (λ l. next ∷ l) (numbers_append old (next + 1) kept more ∙ ap (λ n. numbers_by old (next + 1) kept ++ numbers_by old n more) e)

pub kept_append : (old : List ℕ) (kept more : List (Option ℕ)) → numbers_kept old (kept ++ more) ≡ numbers_kept old kept ++ numbers_kept old more
kept_append old [] more = refl
kept_append old (Some i ∷ kept) more = ap (λ l. slice_index_or old i 0 ∷ l) (kept_append old kept more)
kept_append old (None ∷ kept) more = kept_append old kept more

pub count_append : (kept more : List (Option ℕ)) → new_count (kept ++ more) ≡ new_count kept + new_count more
count_append [] more = omega arith
count_append (Some i ∷ kept) more = count_append kept more
count_append (None ∷ kept) more = omega (arith, count_append kept more)

pub parts_append : (kept more : List (Option ℕ)) (parts rest : List Part) → length parts ≡ length kept → new_parts (kept ++ more) (parts ++ rest) ≡ new_parts kept parts ++ new_parts more rest
parts_append [] more [] rest same = refl
parts_append [] more (q ∷ parts) rest same = absurd (omega (arith, same))
parts_append (Some i ∷ kept) more [] rest same = absurd (omega (arith, same))
parts_append (None ∷ kept) more [] rest same = absurd (omega (arith, same))
parts_append (Some i ∷ kept) more (q ∷ parts) rest same = parts_append kept more parts rest (omega (arith, same))
parts_append (None ∷ kept) more (q ∷ parts) rest same = ap (λ l. q ∷ l) (parts_append kept more parts rest (omega (arith, same)))

pub count_few : (kept : List (Option ℕ)) → new_count kept ≤ length kept
count_few [] = omega arith
count_few (Some n ∷ kept) = omega (arith, count_few kept)
count_few (None ∷ kept) = omega (arith, count_few kept)
