-- The list of the columns in use rises, and has what some snapshot in use has.
use Rattle.std.proofs.Common.{◌≡◌, ℕ, zero, suc, ◌+◌, ◌<◌, ◌⊎◌, inl, inr, List, [], ◌∷◌, Bool, true, false, refl, sym, subst, cond, arith, length, get_or}
use Rattle.std.specs.Prelude.{Contains, count_by, ◌==◌, ◌↔◌, ⊤}
use Rattle.std.specs.List.{list_any}
use Rattle.std.specs.List.Sorted.{IsStrictlyIncreasing}
use Rattle.std.specs.declared.cmp.Ordering.{Ordering}
use Rattle.std.specs.declared.cmp.Ordering.TheVariants.{Less, Equal, Greater}
use Rattle.std.specs.Ordering.{nat_cmp, match_ordering}
use Rattle.std.specs.Cmp.{ranked}
use Rattle.std.specs.BTreeSet.{insert_key}
use Rattle.std.proofs.lemmas.Bool.{eqb-true, eq-eqb}
use Rattle.std.proofs.lemmas.List.Sums.{sum_by-cons}
use Rattle.std.proofs.lemmas.List.Elements.{Contains-append_left, Contains-append_right, Contains-append_cases, Contains-get_or}
use Rattle.catalogue_state.specs.declared.parts.Snap.{Snap}
use Rattle.catalogue_state.specs.State.{State, columns_of, put_all, roots, reach, has_column, count}
use Rattle.catalogue_state.proofs.Lists.{Each, here, there, cases, in_none, each_none, each_cons}

-- ---- rising lists

-- each number is below all later ones
abbrev pub Rises : List ℕ → Type 0
Rises [] = ⊤
Rises (x ∷ xs) = Each (λ y. x < y) xs × Rises xs

rises_at : (k x : ℕ) (xs : List ℕ) (r : Ordering) → r ≡ nat_cmp k x → Rises (x ∷ xs) → Rises (insert_key nat_cmp xs k) → Each (λ y. x < k → x < y) (insert_key nat_cmp xs k)
    → Rises (match_ordering r (k ∷ x ∷ xs) (x ∷ xs) (x ∷ insert_key nat_cmp xs k))
rises_at k x xs Less e rising rest above =
    let lt : k < x = ranked k x Less e in
    (each_cons (λ y. k < y) x xs lt (λ y h. omega (arith, lt, rising.0 y h)), rising)
rises_at k x xs Equal e rising rest above = rising
rises_at k x xs Greater e rising rest above = (λ y h. above y h (ranked k x Greater e), rest)

from_insert_at : (k x : ℕ) (xs : List ℕ) (r : Ordering) (c : ℕ) → (Contains (insert_key nat_cmp xs k) c → (c ≡ k) ⊎ Contains xs c)
    → Contains (match_ordering r (k ∷ x ∷ xs) (x ∷ xs) (x ∷ insert_key nat_cmp xs k)) c → (c ≡ k) ⊎ Contains (x ∷ xs) c
from_insert_at k x xs Less c ih h = elim (cases c k (x ∷ xs) h) [ inl q ↦ inl (sym q) | inr i ↦ inr i ]
from_insert_at k x xs Equal c ih h = inr h
from_insert_at k x xs Greater c ih h =
    elim (cases c x (insert_key nat_cmp xs k) h) [
      | inl q ↦ inr (subst (Contains (x ∷ xs)) q (here x xs))
      | inr i ↦ elim (ih i) [ inl q ↦ inl q | inr j ↦ inr (there c x xs j) ]
    ]

-- what is in the list after a number was put into it
from_insert : (k : ℕ) (xs : List ℕ) (c : ℕ) → Contains (insert_key nat_cmp xs k) c → (c ≡ k) ⊎ Contains xs c
from_insert k [] c h = elim (cases c k [] h) [ inl q ↦ inl (sym q) | inr i ↦ inr i ]
from_insert k (x ∷ xs) c h = from_insert_at k x xs (nat_cmp k x) c (from_insert k xs c) h

new_inserted_at : (k x : ℕ) (xs : List ℕ) (r : Ordering) → r ≡ nat_cmp k x → Contains (insert_key nat_cmp xs k) k → Contains (match_ordering r (k ∷ x ∷ xs) (x ∷ xs) (x ∷ insert_key nat_cmp xs k)) k
new_inserted_at k x xs Less e ih = here k (x ∷ xs)
new_inserted_at k x xs Equal e ih = subst (Contains (x ∷ xs)) (sym (ranked k x Equal e)) (here x xs)
new_inserted_at k x xs Greater e ih = there k x (insert_key nat_cmp xs k) ih

new_inserted : (k : ℕ) (xs : List ℕ) → Contains (insert_key nat_cmp xs k) k
new_inserted k [] = here k []
new_inserted k (x ∷ xs) = new_inserted_at k x xs (nat_cmp k x) refl (new_inserted k xs)

old_inserted_at : (k x : ℕ) (xs : List ℕ) (r : Ordering) (c : ℕ) → (Contains xs c → Contains (insert_key nat_cmp xs k) c) → Contains (x ∷ xs) c
    → Contains (match_ordering r (k ∷ x ∷ xs) (x ∷ xs) (x ∷ insert_key nat_cmp xs k)) c
old_inserted_at k x xs Less c ih h = there c k (x ∷ xs) h
old_inserted_at k x xs Equal c ih h = h
old_inserted_at k x xs Greater c ih h =
    elim (cases c x xs h) [
      | inl q ↦ subst (Contains (x ∷ insert_key nat_cmp xs k)) q (here x (insert_key nat_cmp xs k))
      | inr i ↦ there c x (insert_key nat_cmp xs k) (ih i)
    ]

old_inserted : (k : ℕ) (xs : List ℕ) (c : ℕ) → Contains xs c → Contains (insert_key nat_cmp xs k) c
old_inserted k [] c h = absurd (in_none c h)
old_inserted k (x ∷ xs) c h = old_inserted_at k x xs (nat_cmp k x) c (old_inserted k xs c) h

above_of : (k x c : ℕ) (xs : List ℕ) → Each (λ y. x < y) xs → (c ≡ k) ⊎ Contains xs c → x < k → x < c
above_of k x c xs all (inl q) lt = omega (arith, q, lt)
above_of k x c xs all (inr h) lt = all c h

rises_inserted : (k : ℕ) (xs : List ℕ) → Rises xs → Rises (insert_key nat_cmp xs k)
rises_inserted k [] rising = (each_none (λ y. k < y), tt)
rises_inserted k (x ∷ xs) rising =
    rises_at k x xs (nat_cmp k x) refl rising (rises_inserted k xs rising.1) (λ y h. above_of k x y xs rising.0 (from_insert k xs y h))

pub rises_put : (found columns : List ℕ) → Rises found → Rises (put_all found columns)
rises_put found [] rising = rising
rises_put found (c ∷ columns) rising = rises_put (insert_key nat_cmp found c) columns (rises_inserted c found rising)

increasing_at : (x : ℕ) (xs : List ℕ) (k : ℕ) → Rises (x ∷ xs) → IsStrictlyIncreasing xs → k + 1 < suc (length xs) → get_or (x ∷ xs) k 0 < get_or xs k 0
increasing_at x xs zero rising ih lt = rising.0 (get_or xs 0 0) (Contains-get_or xs 0 0 (omega arith))
increasing_at x xs (suc k) rising ih lt = let e : suc k ≡ k + 1 = omega arith in subst (λ n. get_or xs k 0 < get_or xs n 0) (sym e) (ih k (omega arith))

increasing : (xs : List ℕ) → Rises xs → IsStrictlyIncreasing xs
increasing [] rising k lt = absurd (omega (arith, lt))
increasing (x ∷ xs) rising k lt =
    let e : k + 1 ≡ suc k = omega arith in
    subst (λ n. get_or (x ∷ xs) k 0 < get_or (x ∷ xs) n 0) (sym e) (increasing_at x xs k rising (increasing xs rising.1) (omega (arith, lt)))

pub reach_rises : (m : State) → IsStrictlyIncreasing (reach m)
reach_rises m = increasing (reach m) (rises_put [] (columns_of (roots m)) tt)

-- ---- what they have

from_put_at : (c d : ℕ) (found columns : List ℕ) → Contains (insert_key nat_cmp found d) c ⊎ Contains columns c → Contains found c ⊎ Contains (d ∷ columns) c
from_put_at c d found columns (inl h) = elim (from_insert d found c h) [ inl q ↦ inr (subst (Contains (d ∷ columns)) (sym q) (here d columns)) | inr i ↦ inl i ]
from_put_at c d found columns (inr h) = inr (there c d columns h)

from_put : (c : ℕ) (found columns : List ℕ) → Contains (put_all found columns) c → Contains found c ⊎ Contains columns c
from_put c found [] h = inl h
from_put c found (d ∷ columns) h = from_put_at c d found columns (from_put c (insert_key nat_cmp found d) columns h)

found_put : (c : ℕ) (found columns : List ℕ) → Contains found c → Contains (put_all found columns) c
found_put c found [] h = h
found_put c found (d ∷ columns) h = found_put c (insert_key nat_cmp found d) columns (old_inserted d found c h)

put_in : (c : ℕ) (found columns : List ℕ) → Contains columns c → Contains (put_all found columns) c
put_in c found [] h = absurd (in_none c h)
put_in c found (d ∷ columns) h =
    elim (cases c d columns h) [
      | inl q ↦ found_put c (insert_key nat_cmp found d) columns (subst (Contains (insert_key nat_cmp found d)) q (new_inserted d found))
      | inr i ↦ put_in c (insert_key nat_cmp found d) columns i
    ]

has_at : (c k : ℕ) (ks : List ℕ) (b : Bool) → (k == c) ≡ b → (list_any (λ j. j == c) ks ≡ true → Contains ks c) → list_any (λ j. j == c) (k ∷ ks) ≡ true → Contains (k ∷ ks) c
has_at c k ks true e ih h = subst (Contains (k ∷ ks)) (eqb-true k c e) (here k ks)
has_at c k ks false e ih h = there c k ks (ih (rw e at h))

pub column_in : (c : ℕ) (ks : List ℕ) → list_any (λ j. j == c) ks ≡ true → Contains ks c
column_in c [] h = absurd (cc)
column_in c (k ∷ ks) h = has_at c k ks (k == c) refl (column_in c ks) h

any_at : (c k : ℕ) (ks : List ℕ) (b : Bool) → (k == c) ≡ b → (k ≡ c) ⊎ Contains ks c → (Contains ks c → list_any (λ j. j == c) ks ≡ true) → list_any (λ j. j == c) (k ∷ ks) ≡ true
any_at c k ks true e h ih = rw e refl
any_at c k ks false e (inl q) ih = let yes = eq-eqb k c q in absurd (cc)
any_at c k ks false e (inr h) ih = rw e (ih h)

pub column_found : (c : ℕ) (ks : List ℕ) → Contains ks c → list_any (λ j. j == c) ks ≡ true
column_found c [] h = absurd (in_none c h)
column_found c (k ∷ ks) h = any_at c k ks (k == c) refl (cases c k ks h) (column_found c ks)

abbrev uses : ℕ → List Snap → ℕ
uses c rs = count_by (has_column c) rs

uses_cons : (c : ℕ) (b : Snap) (rs : List Snap) → uses c (b ∷ rs) ≡ cond {A = ℕ} (has_column c b) 1 0 + uses c rs
uses_cons c b rs = sum_by-cons (λ s. cond {A = ℕ} (has_column c s) 1 0) b rs

counted_at : (c : ℕ) (b : Snap) (rs : List Snap) → Contains b.columns c ⊎ Contains (columns_of rs) c → (Contains (columns_of rs) c → 0 < uses c rs) → 0 < cond {A = ℕ} (has_column c b) 1 0 + uses c rs
counted_at c b rs (inl h) ih = rw (column_found c b.columns h) (omega arith)
counted_at c b rs (inr h) ih = omega (arith, ih h)

counted : (c : ℕ) (rs : List Snap) → Contains (columns_of rs) c → 0 < uses c rs
counted c [] h = absurd (in_none c h)
counted c (b ∷ rs) h = subst (λ n. 0 < n) (sym (uses_cons c b rs)) (counted_at c b rs (Contains-append_cases b.columns (columns_of rs) c h) (counted c rs))

used_at : (c : ℕ) (b : Snap) (rs : List Snap) (has : Bool) → has_column c b ≡ has → 0 < cond {A = ℕ} has 1 0 + uses c rs → (0 < uses c rs → Contains (columns_of rs) c) → Contains (columns_of (b ∷ rs)) c
used_at c b rs true e lt ih = Contains-append_left b.columns (columns_of rs) c (column_in c b.columns e)
used_at c b rs false e lt ih = Contains-append_right b.columns (columns_of rs) c (ih (omega (arith, lt)))

used : (c : ℕ) (rs : List Snap) → 0 < uses c rs → Contains (columns_of rs) c
used c [] lt = absurd (omega (arith, lt))
used c (b ∷ rs) lt = used_at c b rs (has_column c b) refl (subst (λ n. 0 < n) (uses_cons c b rs) lt) (used c rs)

none_before : (c : ℕ) (columns : List ℕ) → Contains [] c ⊎ Contains columns c → Contains columns c
none_before c columns (inl h) = absurd (in_none c h)
none_before c columns (inr h) = h

pub reach_is_used : (m : State) (c : ℕ) → Contains (reach m) c ↔ (0 < count m c)
reach_is_used m c =
    (λ h. counted c (roots m) (none_before c (columns_of (roots m)) (from_put c [] (columns_of (roots m)) h)), λ lt. put_in c [] (columns_of (roots m)) (used c (roots m) lt))
