-- How the registry is kept where a snapshot comes, and where one goes.
use Rattle.std.proofs.Common.{◌≡◌, ℕ, zero, suc, ◌+◌, ◌<◌, ◌≤◌, ◌⊎◌, inl, inr, List, [], ◌∷◌, ◌++◌, Some, Bool, true, false, refl, sym, ap, subst, ◌∙◌, cond, arith, length, get_or, eqb, append_assoc}
use Rattle.std.specs.Prelude.{Contains, slice_get, All, ◌==◌}
use Rattle.std.specs.List.{range_with_len}
use Rattle.std.proofs.lemmas.Bool.{eq-eqb, ne_eqb}
use Rattle.std.proofs.lemmas.Option.{same_Some}
use Rattle.std.proofs.lemmas.List.{append-nil}
use Rattle.std.proofs.lemmas.List.Sums.{sum_by-cons, sum_by-append}
use Rattle.std.proofs.lemmas.List.Elements.{All-map, All-push, Contains-get_or}
use Rattle.std.proofs.lemmas.List.Quantifiers.{all_pairs_push}
use Rattle.column_reclaim.specs.declared.row.RegistryRow.{RegistryRow}
use Rattle.column_reclaim.specs.Registry.{Rises, IsListed, times, count_of, item_of, raise_by, raised, lowered, lowered_all}
use Rattle.column_reclaim.proofs.Times.{times-cons, times_distinct}
use Rattle.column_reclaim.proofs.Finds.{own_count, counted_listed, count_raised, item_raised, count_lowered, item_lowered, count_push, item_push}
use Rattle.column_reclaim.proofs.Changes.{rises_raised, rises_lowered, counted_raised, counted_filter}
use Rattle.graph_slots.specs.declared.part.Part.{Part}
use Rattle.catalogue_state.specs.declared.parts.Snap.{Snap}
use Rattle.catalogue_state.specs.State.{has_column}
use Rattle.catalogue.specs.Kept.{IsNumbered}
use Rattle.catalogue.specs.Registry.{Rows, part_in, uses, HasParts, IsRegistry, new_rows, IsKeptPart, IsNewPart, Comes}
use Rattle.catalogue_state.proofs.Lists.{Each, here, there, cases, in_none, each_rest}
use Rattle.catalogue_state.proofs.Rising.{column_in, column_found}

-- ---- how many snapshots have a column

abbrev pub hits : ℕ → Snap → ℕ
hits c s = cond {A = ℕ} (has_column c s) 1 0

pub uses_cons : (c : ℕ) (s : Snap) (rs : List Snap) → uses c (s ∷ rs) ≡ hits c s + uses c rs
uses_cons c s rs = sum_by-cons (hits c) s rs

pub uses_append : (c : ℕ) (xs ys : List Snap) → uses c (xs ++ ys) ≡ uses c xs + uses c ys
uses_append c xs ys = sum_by-append (hits c) xs ys

has_at : (c : ℕ) (t s : Snap) (rs : List Snap) → (s ≡ t) ⊎ Contains rs t → (Contains rs t → hits c t ≤ uses c rs) → hits c t ≤ hits c s + uses c rs
has_at c t s rs (inl q) ih = omega (arith, ap (hits c) q)
has_at c t s rs (inr h) ih = omega (arith, ih h)

pub uses_has : (c : ℕ) (t : Snap) (rs : List Snap) → Contains rs t → hits c t ≤ uses c rs
uses_has c t [] h = absurd (in_none t h)
uses_has c t (s ∷ rs) h = subst (λ n. hits c t ≤ n) (sym (uses_cons c s rs)) (has_at c t s rs (cases t s rs h) (uses_has c t rs))

one_at_most : (b : Bool) → cond {A = ℕ} b 1 0 ≤ 1
one_at_most true = omega arith
one_at_most false = omega arith

pub uses_few : (c : ℕ) (rs : List Snap) → uses c rs ≤ length rs
uses_few c [] = omega arith
uses_few c (s ∷ rs) = omega (arith, uses_cons c s rs, uses_few c rs, one_at_most (has_column c s))

-- a snapshot in use has its columns in use
pub own_use : (c : ℕ) (t : Snap) (rs : List Snap) → Contains rs t → Contains t.columns c → 0 < uses c rs
own_use c t rs h k =
    let one : hits c t ≡ 1 = ap (λ b. cond {A = ℕ} b 1 0) (column_found c t.columns k) in
    omega (arith, one, uses_has c t rs h)

below_at : (next c : ℕ) (s : Snap) (rs : List Snap) (b : Bool) → has_column c s ≡ b → IsNumbered next s → 0 < cond {A = ℕ} b 1 0 + uses c rs → (0 < uses c rs → c < next) → c < next
below_at next c s rs true e is lt ih = (is.within c (column_in c s.columns e)).1
below_at next c s rs false e is lt ih = ih (omega (arith, lt))

-- what is in use has a number below the next
pub uses_below : (next c : ℕ) (rs : List Snap) → Each (IsNumbered next) rs → 0 < uses c rs → c < next
uses_below next c [] all lt = absurd (omega (arith, lt))
uses_below next c (s ∷ rs) all lt =
    below_at next c s rs (has_column c s) refl (all s (here s rs)) (subst (λ n. 0 < n) (uses_cons c s rs) lt) (uses_below next c rs (each_rest (IsNumbered next) s rs all))

-- ---- numbers in lists

pub in_of_get : (c : ℕ) (xs : List ℕ) (k : ℕ) → slice_get xs k ≡ Some c → Contains xs c
in_of_get c [] k h = absurd (cc h)
in_of_get c (x ∷ xs) zero h = subst (Contains (x ∷ xs)) (same_Some x c h) (here x xs)
in_of_get c (x ∷ xs) (suc k) h = there c x xs (in_of_get c xs k h)

times_in_at : (c x : ℕ) (xs : List ℕ) → (x ≡ c) ⊎ Contains xs c → (Contains xs c → 0 < times c xs) → 0 < cond {A = ℕ} (x == c) 1 0 + times c xs
times_in_at c x xs (inl q) ih = let e : eqb x c ≡ true = eq-eqb x c q in rw e (omega arith)
times_in_at c x xs (inr h) ih = omega (arith, ih h)

pub times_in : (c : ℕ) (xs : List ℕ) → Contains xs c → 0 < times c xs
times_in c [] h = absurd (in_none c h)
times_in c (x ∷ xs) h = subst (λ n. 0 < n) (sym (times-cons c x xs)) (times_in_at c x xs (cases c x xs h) (times_in c xs))

-- ---- the tie looks at uses and members alone

pub registry_same : (rows : Rows) (rs rs' : List Snap) → ((c : ℕ) → uses c rs ≡ uses c rs') → ((t : Snap) → Contains rs' t → Contains rs t) → IsRegistry rows rs → IsRegistry rows rs'
registry_same rows rs rs' same from f = record {
  rises = f.rises;
  counted = f.counted;
  counts = λ c. f.counts c ∙ same c;
  differ = λ s h. f.differ s (from s h);
  parts = λ s h. f.parts s (from s h);
}

module _ (rows : Rows) (rs : List Snap) (f : IsRegistry rows rs) where
  counted_of : (b : Snap) → Contains rs b → (c : ℕ) → times c b.columns ≤ count_of rows c
  counted_of b h c = omega (arith, times_distinct c b.columns (f.differ b h c), uses_has c b rs h, f.counts c)

  -- what a release asks
  pub all_listed : (b : Snap) → Contains rs b → All (IsListed rows) b.columns
  all_listed b h = λ k d lt. counted_listed (get_or b.columns k d) rows (omega (arith, counted_of b h (get_or b.columns k d), times_in (get_or b.columns k d) b.columns (Contains-get_or b.columns k d lt)))

  pub all_used : (b : Snap) → Contains rs b → All (λ r. times r.id b.columns ≤ r.count) rows
  all_used b h = λ k d lt. omega (arith, counted_of b h (get_or rows k d).id, own_count rows k d f.rises lt)

  -- all numbers are below the next
  pub ids_below : (next : ℕ) → Each (IsNumbered next) rs → All (λ r. r.id < next) rows
  ids_below next all = λ k d lt. uses_below next (get_or rows k d).id rs all (omega (arith, f.counted k d lt, own_count rows k d f.rises lt, f.counts (get_or rows k d).id))

-- ---- a snapshot goes

pub registry_drop : (rows : Rows) (s : Snap) (rs : List Snap) → IsRegistry rows (s ∷ rs) → IsRegistry (lowered s.columns rows) rs
registry_drop rows s rs f =
    let low = lowered s.columns rows in
    let own = f.differ s (here s rs) in
    let counts : (c : ℕ) → count_of low c ≡ uses c rs
    = λ c. omega (arith, count_lowered c s.columns rows f.rises, f.counts c, uses_cons c s rs, times_distinct c s.columns (own c)) in
    record {
      rises = rises_lowered s.columns rows f.rises;
      counted = counted_filter (lowered_all s.columns rows);
      counts = counts;
      differ = λ t h. f.differ t (there t s rs h);
      parts = λ t h k c e.
          item_lowered c s.columns rows f.rises (counted_listed c low (omega (arith, counts c, own_use c t rs h (in_of_get c t.columns k e)))) ∙ f.parts t (there t s rs h) k c e;
    }

-- ---- new rows

abbrev pub row : ℕ → Part → RegistryRow Part
row first p = record { id = first; count = 1; item = p }

module _ (first : ℕ) (p : Part) (rows : Rows) (all : All (λ r. r.id < first) rows) where
  more : All (λ r. r.id < first + 1) (rows ++ row first p ∷ [])
  more = All-push (λ r. r.id < first + 1) rows (row first p) (λ k d lt. omega (arith, all k d lt)) (omega arith)

  apart : (ps : List Part) → rows ++ new_rows first (p ∷ ps) ≡ (rows ++ row first p ∷ []) ++ new_rows (first + 1) ps
  apart ps = sym (append_assoc rows (row first p ∷ []) (new_rows (first + 1) ps))

pub new_rows_push : (first : ℕ) (ps : List Part) (p : Part) → new_rows first (ps ++ p ∷ []) ≡ new_rows first ps ++ row (first + length ps) p ∷ []
new_rows_push first [] p = let e : first ≡ first + 0 = omega arith in ap (λ n. row n p ∷ []) e
new_rows_push first (q ∷ ps) p =
    let e : first + 1 + length ps ≡ first + suc (length ps) = omega arith in
    ap (λ (l : Rows). row first q ∷ l) (new_rows_push (first + 1) ps p ∙ ap (λ n. new_rows (first + 1) ps ++ row n p ∷ []) e)

pub count_new : (c first : ℕ) (ps : List Part) (rows : Rows) → All (λ r. r.id < first) rows → count_of (rows ++ new_rows first ps) c ≡ count_of rows c + times c (range_with_len first (length ps))
count_new c first [] rows all = let e = ap (λ (l : Rows). count_of l c) (append-nil rows) in omega (arith, e)
count_new c first (p ∷ ps) rows all =
    omega (
      arith,
      ap (λ (l : Rows). count_of l c) (apart first p rows all ps),
      count_new c (first + 1) ps (rows ++ row first p ∷ []) (more first p rows all),
      count_push c (row first p) rows all,
      times-cons c first (range_with_len (first + 1) (length ps)),
    )

pub item_old : (c first : ℕ) (ps : List Part) (rows : Rows) → All (λ r. r.id < first) rows → c < first → item_of (rows ++ new_rows first ps) c ≡ item_of rows c
item_old c first [] rows all lt = ap (λ (l : Rows). item_of l c) (append-nil rows)
item_old c first (p ∷ ps) rows all lt =
    let other : eqb first c ≡ false = ne_eqb first c (λ e. omega (arith, e, lt)) in
    ap (λ (l : Rows). item_of l c) (apart first p rows all ps) ∙ item_old c (first + 1) ps (rows ++ row first p ∷ []) (more first p rows all) (omega (arith, lt))
    ∙ item_push c (row first p) rows all ∙ ap (λ b. cond b (Some p) (item_of rows c)) other

pub item_own : (first j : ℕ) (q : Part) (ps : List Part) (rows : Rows) → All (λ r. r.id < first) rows → slice_get ps j ≡ Some q → item_of (rows ++ new_rows first ps) (first + j) ≡ Some q
item_own first j q [] rows all is = absurd (cc is)
item_own first zero q (p ∷ ps) rows all is =
    let same : eqb first (first + 0) ≡ true = eq-eqb first (first + 0) (omega arith) in
    ap (λ (l : Rows). item_of l (first + 0)) (apart first p rows all ps) ∙ item_old (first + 0) (first + 1) ps (rows ++ row first p ∷ []) (more first p rows all) (omega arith)
    ∙ item_push (first + 0) (row first p) rows all ∙ ap (λ b. cond b (Some p) (item_of rows (first + 0))) same ∙ is
item_own first (suc j) q (p ∷ ps) rows all is =
    let e : first + suc j ≡ (first + 1) + j = omega arith in
    ap (λ (l : Rows). item_of l (first + suc j)) (apart first p rows all ps)
    ∙ ap (item_of ((rows ++ row first p ∷ []) ++ new_rows (first + 1) ps)) e ∙ item_own (first + 1) j q ps (rows ++ row first p ∷ []) (more first p rows all) is

pub raised_below : (n : ℕ) (ids : List ℕ) (rows : Rows) → All (λ r. r.id < n) rows → All (λ r. r.id < n) (raised ids rows)
raised_below n ids rows all = All-map (λ r. r.id < n) (raise_by ids) rows all

rises_new : (first : ℕ) (ps : List Part) (rows : Rows) → All (λ r. r.id < first) rows → Rises rows → Rises (rows ++ new_rows first ps)
rises_new first [] rows all up = subst (λ (l : Rows). Rises l) (sym (append-nil rows)) up
rises_new first (p ∷ ps) rows all up =
    subst (λ (l : Rows). Rises l) (sym (apart first p rows all ps))
    (rises_new (first + 1) ps (rows ++ row first p ∷ []) (more first p rows all) (all_pairs_push (λ r s. r.id < s.id) rows (row first p) up all))

counted_new : (first : ℕ) (ps : List Part) (rows : Rows) → All (λ r. 0 < r.count) rows → All (λ r. 0 < r.count) (rows ++ new_rows first ps)
counted_new first [] rows all = subst (λ (l : Rows). All (λ r. 0 < r.count) l) (sym (append-nil rows)) all
counted_new first (p ∷ ps) rows all =
    subst (λ (l : Rows). All (λ r. 0 < r.count) l) (append_assoc rows (row first p ∷ []) (new_rows (first + 1) ps))
    (counted_new (first + 1) ps (rows ++ row first p ∷ []) (All-push (λ r. 0 < r.count) rows (row first p) all (omega arith)))

-- ---- a snapshot comes

module _ (rows : Rows) (next : ℕ) (s : Snap) (rs : List Snap) (kept : List ℕ) (new : List Part) (f : IsRegistry rows rs) (numbered : Each (IsNumbered next) rs)
    (differ : (c : ℕ) → times c s.columns ≤ 1) (comes : Comes rs next s kept new) where
  -- what it asks of the registry
  pub kept_listed : All (IsListed rows) kept
  kept_listed = λ k d lt. counted_listed (get_or kept k d) rows (omega (arith, f.counts (get_or kept k d), comes.used (get_or kept k d) (Contains-get_or kept k d lt)))

  pub kept_room : (n : ℕ) → length rs + 1 < n → All (λ r. r.count + times r.id kept < n) rows
  kept_room n few = λ k d lt.
      let id = (get_or rows k d).id in
      omega (arith, own_count rows k d f.rises lt, f.counts id, uses_few id rs, comes.numbers id, differ id, few)

  abbrev up : Rows
  up = raised kept rows

  below : All (λ r. r.id < next) up
  below = raised_below next kept rows (ids_below rows rs f next numbered)

  abbrev after : Rows
  after = up ++ new_rows next new

  stays : (t : Snap) → Contains rs t → (k c : ℕ) → slice_get t.columns k ≡ Some c → item_of after c ≡ part_in t.shot k
  stays t h k c e =
      item_old c next new up below ((numbered t h).within c (in_of_get c t.columns k e)).1 ∙ item_raised c kept rows ∙ f.parts t h k c e

  own_at : (k c : ℕ) → IsKeptPart rs (part_in s.shot k) c ⊎ IsNewPart next new (part_in s.shot k) c → item_of after c ≡ part_in s.shot k
  own_at k c (inl h) = stays h.0 h.2 h.1 c h.3 ∙ h.4
  own_at k c (inr h) = ap (item_of after) (sym h.2) ∙ item_own next h.0 h.1 new up below h.3 ∙ sym h.4

  parts_at : (t : Snap) → (s ≡ t) ⊎ Contains rs t → HasParts after t
  parts_at t (inl q) = subst (λ b. HasParts after b) q (λ k c e. own_at k c (comes.parts k c e))
  parts_at t (inr h) = stays t h

  differ_at : (t : Snap) → (s ≡ t) ⊎ Contains rs t → (c : ℕ) → times c t.columns ≤ 1
  differ_at t (inl q) = subst (λ (b : Snap). (c : ℕ) → times c b.columns ≤ 1) q differ
  differ_at t (inr h) = f.differ t h

  pub registry_come : IsRegistry after (s ∷ rs)
  registry_come = record {
    rises = rises_new next new up below (rises_raised kept rows f.rises);
    counted = counted_new next new up (counted_raised kept rows f.counted);
    counts = λ c.
        omega (arith, count_new c next new up below, count_raised c kept rows kept_listed, f.counts c, comes.numbers c, times_distinct c s.columns (differ c), uses_cons c s rs);
    differ = λ t h. differ_at t (cases t s rs h);
    parts = λ t h. parts_at t (cases t s rs h);
  }
