-- How rows change, one of them or all.
use Rattle.std.proofs.Common.{◌≡◌, ℕ, ◌+◌, ◌-◌, ◌<◌, ◌≤◌, List, [], ◌∷◌, ◌++◌, refl, sym, ap, ◌∙◌, arith, length, get_or, set, take, map, filter, inl, inr}
use Rattle.std.specs.Prelude.{All, HoldsAt, ◌≢◌, true}
use Rattle.std.proofs.lemmas.Bool.{cases_eq, ltb-true}
use Rattle.std.proofs.lemmas.List.{take_more, same_lists, length-set, length-map, get_or-map, get_or-set_same, get_or-set_other, get_or_read}
use Rattle.std.proofs.lemmas.List.Elements.{All-map, All-weaker, filter_passes}
use Rattle.std.proofs.lemmas.List.Folds.{map_fixed}
use Rattle.std.proofs.lemmas.List.Kept.{AllPairs-filter}
use Rattle.column_reclaim.specs.declared.row.RegistryRow.{RegistryRow}
use Rattle.column_reclaim.specs.Registry.{Rises, ids_of, times, raise_by, lower_by, raised, lowered_all, lowered, is_counted}
use Rattle.column_reclaim.proofs.Times.{times-append, times_same, times_other, times_more_le}

module _ {T : Type 0} where
  -- ---- rows keep their ids

  module _ (g : RegistryRow T → RegistryRow T) (same : (r : RegistryRow T) → (g r).id ≡ r.id) where
    pub rises_map : (rows : List (RegistryRow T)) → Rises rows → Rises (map g rows)
    rises_map rows up = λ i j d lt within.
        let n = length-map rows g in
        let a = get_or-map g rows i d d (omega arith) in
        let b = get_or-map g rows j d d (omega arith) in
        rw (a, b, same (get_or rows i d), same (get_or rows j d)) (up i j d lt (omega arith))

    pub ids_map : (rows : List (RegistryRow T)) → ids_of (map g rows) ≡ ids_of rows
    ids_map [] = refl
    ids_map (r ∷ rows) = rw (same r) (ap (λ l. r.id ∷ l) (ids_map rows))

  pub rises_raised : (ids : List ℕ) (rows : List (RegistryRow T)) → Rises rows → Rises (raised ids rows)
  rises_raised ids rows up = rises_map (raise_by ids) (λ r. refl) rows up

  pub rises_lowered_all : (ids : List ℕ) (rows : List (RegistryRow T)) → Rises rows → Rises (lowered_all ids rows)
  rises_lowered_all ids rows up = rises_map (lower_by ids) (λ r. refl) rows up

  pub rises_lowered : (ids : List ℕ) (rows : List (RegistryRow T)) → Rises rows → Rises (lowered ids rows)
  rises_lowered ids rows up = AllPairs-filter (λ r s. r.id < s.id) is_counted (lowered_all ids rows) (rises_map (lower_by ids) (λ r. refl) rows up)

  pub ids_raised : (ids : List ℕ) (rows : List (RegistryRow T)) → ids_of (raised ids rows) ≡ ids_of rows
  ids_raised ids rows = ids_map (raise_by ids) (λ r. refl) rows

  -- ---- the ids come one after another

  pub raised_none : (rows : List (RegistryRow T)) → raised [] rows ≡ rows
  raised_none rows = map_fixed (raise_by []) rows (λ k d lt. let e : (get_or rows k d).count + 0 ≡ (get_or rows k d).count = omega arith in rw e refl)

  pub lowered_none : (rows : List (RegistryRow T)) → lowered_all [] rows ≡ rows
  lowered_none rows = map_fixed (lower_by []) rows (λ k d lt. let e : (get_or rows k d).count - 0 ≡ (get_or rows k d).count = omega arith in rw e refl)

  pub raised_append : (xs ys : List ℕ) (rows : List (RegistryRow T)) → raised (xs ++ ys) rows ≡ raised ys (raised xs rows)
  raised_append xs ys [] = refl
  raised_append xs ys (r ∷ rows) =
      let e : r.count + times r.id (xs ++ ys) ≡ r.count + times r.id xs + times r.id ys = omega (arith, times-append r.id xs ys) in
      rw (e, raised_append xs ys rows) refl

  pub lowered_append : (xs ys : List ℕ) (rows : List (RegistryRow T)) → lowered_all (xs ++ ys) rows ≡ lowered_all ys (lowered_all xs rows)
  lowered_append xs ys [] = refl
  lowered_append xs ys (r ∷ rows) =
      let e : r.count - times r.id (xs ++ ys) ≡ r.count - times r.id xs - times r.id ys = omega (arith, times-append r.id xs ys) in
      rw (e, lowered_append xs ys rows) refl

  pub raised_more : (k d : ℕ) (ids : List ℕ) (rows : List (RegistryRow T)) → k < length ids → raised (take (k + 1) ids) rows ≡ raised (get_or ids k d ∷ []) (raised (take k ids) rows)
  raised_more k d ids rows lt = ap (λ l. raised l rows) (take_more ids k d lt) ∙ raised_append (take k ids) (get_or ids k d ∷ []) rows

  pub lowered_more : (k d : ℕ) (ids : List ℕ) (rows : List (RegistryRow T)) → k < length ids → lowered_all (take (k + 1) ids) rows ≡ lowered_all (get_or ids k d ∷ []) (lowered_all (take k ids) rows)
  lowered_more k d ids rows lt = ap (λ l. lowered_all l rows) (take_more ids k d lt) ∙ lowered_append (take k ids) (get_or ids k d ∷ []) rows

  -- ---- a change of the row of one id

  module _ (g : RegistryRow T → RegistryRow T) (id : ℕ) (others : (r : RegistryRow T) → r.id ≢ id → g r ≡ r) where
    pub changed_at : (rows : List (RegistryRow T)) (i : ℕ) (x : RegistryRow T) → Rises rows → i < length rows → HoldsAt (λ r. r.id ≡ id) rows i → x ≡ get_or rows i x → set rows i (g x) ≡ map g rows
    changed_at rows i x up at own is = same_lists (set rows i (g x)) (map g rows) (length-set rows i (g x) ∙ sym (length-map rows g)) (λ k d within.
        let lt : k < length rows = omega (arith, within, length-set rows i (g x)) in
        let there = get_or-map g rows k d d lt in
        elim (cases_eq k i) [
          | inl e ↦ rw (there, e, get_or-set_same rows i (g x) d at) (ap g (get_or_read rows i x at is d))
          | inr ne ↦
              let other : (get_or rows k d).id ≢ id = λ e. grind (arith, own d, up k i d, up i k d, at, lt, ne, e) in
              rw (there, others (get_or rows k d) other) (get_or-set_other rows i k (g x) d ne)
        ])

    pub unchanged : (rows : List (RegistryRow T)) → All (λ r. r.id ≢ id) rows → map g rows ≡ rows
    unchanged rows none = map_fixed g rows (λ k d lt. others (get_or rows k d) (none k d lt))

  pub raise_other : (id : ℕ) (r : RegistryRow T) → r.id ≢ id → raise_by (id ∷ []) r ≡ r
  raise_other id r ne = let e : r.count + times r.id (id ∷ []) ≡ r.count = omega (arith, times_other r.id id (λ e. ne (sym e))) in rw e refl

  pub lower_other : (id : ℕ) (r : RegistryRow T) → r.id ≢ id → lower_by (id ∷ []) r ≡ r
  lower_other id r ne = let e : r.count - times r.id (id ∷ []) ≡ r.count = omega (arith, times_other r.id id (λ e. ne (sym e))) in rw e refl

  -- ---- bounds of counts

  -- after the ids before a place there is room for the one there, or a use of it is left
  pub room_more : (n k d : ℕ) (ids : List ℕ) → k < length ids → (rows : List (RegistryRow T)) → All (λ r. r.count + times r.id ids < n) rows
      → All (λ r. r.id ≡ get_or ids k d → r.count + 1 < n) (raised (take k ids) rows)
  room_more n k d ids lt rows all =
      All-map (λ r. r.id ≡ get_or ids k d → r.count + 1 < n) (raise_by (take k ids)) rows
      (All-weaker (λ r. r.count + times r.id ids < n) (λ r. r.id ≡ get_or ids k d → r.count + times r.id (take k ids) + 1 < n)
      (λ r h e. omega (arith, h, times_more_le r.id k d ids lt, times_same r.id (get_or ids k d) (sym e))) rows all)

  pub used_more : (k d : ℕ) (ids : List ℕ) → k < length ids → (rows : List (RegistryRow T)) → All (λ r. times r.id ids ≤ r.count) rows
      → All (λ r. r.id ≡ get_or ids k d → 0 < r.count) (lowered_all (take k ids) rows)
  used_more k d ids lt rows all =
      All-map (λ r. r.id ≡ get_or ids k d → 0 < r.count) (lower_by (take k ids)) rows
      (All-weaker (λ r. times r.id ids ≤ r.count) (λ r. r.id ≡ get_or ids k d → 0 < r.count - times r.id (take k ids))
      (λ r h e. omega (arith, h, times_more_le r.id k d ids lt, times_same r.id (get_or ids k d) (sym e))) rows all)

  pub counted_raised : (ids : List ℕ) (rows : List (RegistryRow T)) → All (λ r. 0 < r.count) rows → All (λ r. 0 < r.count) (raised ids rows)
  counted_raised ids rows all =
      All-map (λ r. 0 < r.count) (raise_by ids) rows (All-weaker (λ r. 0 < r.count) (λ r. 0 < r.count + times r.id ids) (λ r h. omega (arith, h)) rows all)

  pub counted_filter : (rows : List (RegistryRow T)) → All (λ r. 0 < r.count) (filter is_counted rows)
  counted_filter rows =
      All-weaker (λ r. is_counted r ≡ true) (λ r. 0 < r.count) (λ r h. ltb-true 0 r.count h) (filter is_counted rows) (filter_passes is_counted rows)

-- what the loops of `retain` and `release` keep
pub ruleset retained_rows = (raised_none, raised_more, rises_raised, counted_raised)

pub ruleset released_rows = (lowered_none, lowered_more, rises_lowered_all, rises_lowered, counted_filter)
