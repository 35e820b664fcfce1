-- What is found under an id, before and after a change.
use Rattle.std.proofs.Common.{◌≡◌, ℕ, suc, ◌+◌, ◌-◌, ◌<◌, List, [], ◌∷◌, ◌++◌, Option, Some, None, true, false, refl, sym, ap, subst, ◌∙◌, cond, arith, length, get_or, map, filter, inl, inr}
use Rattle.std.specs.Prelude.{All, IsSome, is_some, option_map, slice_get, ◌==◌, ◌⊎◌, ◌↔◌, ⊤, Bool}
use Rattle.std.specs.List.{position_or_len}
use Rattle.std.proofs.lemmas.Bool.{false≢true, cases_eq, cond_both, eq-eqb, ne_eqb, lt-ltb}
use Rattle.std.proofs.lemmas.Bool.Decides.{nat_tests}
use Rattle.std.proofs.lemmas.List.Elements.{All-head, All-tail}
use Rattle.std.proofs.lemmas.List.Folds.{find_at, find-append}
use Rattle.std.proofs.lemmas.List.Sums.{passes_at_first, position_or_len_is}
use Rattle.std.proofs.lemmas.Map.Entries.{option_filter}
use Rattle.std.proofs.lemmas.Option.{slice_get_within, get_or_from_slice_get, slice_get-get_or}
use Rattle.column_reclaim.specs.declared.row.RegistryRow.{RegistryRow}
use Rattle.column_reclaim.specs.Registry.{Rises, IsListed, row_of, count_in, count_of, item_of, has_id, times, raise_by, lower_by, raised, lowered_all, lowered, is_counted}
use Rattle.column_reclaim.proofs.Times.{times-cons}
use Rattle.column_reclaim.proofs.Changes.{rises_lowered_all, counted_filter}

module _ {T : Type 0} where
  -- ---- what is found

  -- a row that is found has the id, and what holds of all rows
  module _ (P : RegistryRow T → Type 0) (id : ℕ) (rows : List (RegistryRow T)) (all : All P rows) where
    pub found : (r : RegistryRow T) → row_of rows id ≡ Some r → (r.id ≡ id) × P r
    found r is =
        let n = position_or_len (has_id id) rows in
        let at = sym (find_at (has_id id) rows) ∙ is in
        let lt = slice_get_within rows n r at in
        let e : get_or rows n r ≡ r = get_or_from_slice_get rows n r r at in
        let own : has_id id r ≡ true = subst (λ s. has_id id s ≡ true) e (passes_at_first (has_id id) rows r lt) in
        (grind (arith, nat_tests, own), subst P e (all n r lt))

    pub row_cases : (row_of rows id ≡ None) ⊎ ((r : RegistryRow T) × (row_of rows id ≡ Some r) × ((r.id ≡ id) × P r))
    row_cases = cases (row_of rows id) refl
      where
        cases : (o : Option (RegistryRow T)) → row_of rows id ≡ o → (row_of rows id ≡ None) ⊎ ((r : RegistryRow T) × (row_of rows id ≡ Some r) × ((r.id ≡ id) × P r))
        cases None is = inl is
        cases (Some r) is = inr (r, is, found r is)

  -- the count of a row's id is the row's
  pub own_count : (rows : List (RegistryRow T)) (k : ℕ) (d : RegistryRow T) → Rises rows → k < length rows → count_of rows (get_or rows k d).id ≡ (get_or rows k d).count
  own_count rows k d up lt =
      let id = (get_or rows k d).id in
      let first = position_or_len_is (has_id id) rows k d (omega arith) (λ j below. grind (arith, nat_tests, up j k d below lt)) (λ _. eq-eqb id id refl) in
      ap count_in (find_at (has_id id) rows ∙ ap (slice_get rows) first ∙ slice_get-get_or rows k d lt)

  -- what is counted is listed, and where all counts are above 0, what is listed is counted
  pub counted_listed : (id : ℕ) (rows : List (RegistryRow T)) → 0 < count_of rows id → IsListed rows id
  counted_listed id rows = elim (row_of rows id) as (λ o. 0 < count_in o → is_some o ≡ true) [ None ↦ λ h. absurd (omega (arith, h)) | Some r ↦ λ _. refl ]

  pub listed_counted : (id : ℕ) (rows : List (RegistryRow T)) → All (λ r. 0 < r.count) rows → IsListed rows id → 0 < count_of rows id
  listed_counted id rows all h = elim (row_cases (λ r. 0 < r.count) id rows all) [ inl none ↦ absurd (false≢true (sym (ap is_some none) ∙ h)) | inr s ↦ rw s.1 s.2.1 ]

  -- ---- after a change of all counts

  module _ (g : RegistryRow T → RegistryRow T) (same : (r : RegistryRow T) → (g r).id ≡ r.id) where
    pub find_map : (id : ℕ) (xs : List (RegistryRow T)) → row_of (map g xs) id ≡ option_map g (row_of xs id)
    find_map id [] = refl
    find_map id (x ∷ xs) =
        let b : has_id id (g x) ≡ has_id id x = ap (λ k. k == id) (same x) in
        rw (b, find_map id xs) (elim (x.id == id) as (λ b. cond b (Some (g x)) (option_map g (row_of xs id)) ≡ option_map g (cond b (Some x) (row_of xs id))) [ true ↦ refl | false ↦ refl ])

  -- ---- retained

  none_times : (id : ℕ) (ids : List ℕ) (rows : List (RegistryRow T)) → row_of rows id ≡ None → All (IsListed rows) ids → times id ids ≡ 0
  none_times id [] rows none all = refl
  none_times id (x ∷ ids) rows none all =
      let rest = none_times id ids rows none (All-tail (IsListed rows) x ids all) in
      let other = ne_eqb x id (λ e. false≢true (sym (ap is_some none) ∙ subst (IsListed rows) e (All-head (IsListed rows) x ids all))) in
      times-cons id x ids ∙ (rw (other, rest) refl)

  pub count_raised : (id : ℕ) (ids : List ℕ) (rows : List (RegistryRow T)) → All (IsListed rows) ids → count_of (raised ids rows) id ≡ count_of rows id + times id ids
  count_raised id ids rows all =
      ap count_in (find_map (raise_by ids) (λ r. refl) id rows)
      ∙ elim (row_cases (λ r. ⊤) id rows (λ k d lt. tt)) [
        | inl none ↦ rw none (omega (arith, none_times id ids rows none all))
        | inr s ↦ rw s.1 (ap (λ k. s.0.count + times k ids) s.2.0)
      ]

  pub item_raised : (id : ℕ) (ids : List ℕ) (rows : List (RegistryRow T)) → item_of (raised ids rows) id ≡ item_of rows id
  item_raised id ids rows =
      ap (option_map (λ r. r.item)) (find_map (raise_by ids) (λ r. refl) id rows)
      ∙ elim (row_of rows id) as (λ o. option_map (λ r. r.item) (option_map (raise_by ids) o) ≡ option_map (λ r. r.item) o) [ None ↦ refl | Some r ↦ refl ]

  -- ---- released

  -- the one row of an id stays or goes
  find_filter : (id : ℕ) (p : RegistryRow T → Bool) (rows : List (RegistryRow T)) → Rises rows → row_of (filter p rows) id ≡ option_filter p (row_of rows id)
  find_filter id p [] up = refl
  find_filter id p (r ∷ rows) up =
      let ih = find_filter id p rows (λ i j d lt within. up (suc i) (suc j) d (omega (arith, lt)) (omega (arith, within))) in
      elim (cases_eq r.id id) [
        | inl own ↦
            let b = eq-eqb r.id id own in
            let none : row_of rows id ≡ None = elim (row_cases (λ s. r.id < s.id) id rows (λ k d lt. up 0 (suc k) d (omega arith) (omega (arith, lt)))) [ inl none ↦ none | inr s ↦ absurd (omega (arith, own, s.2.0, s.2.1)) ] in
            rw b (elim (p r) as (λ d. row_of (cond d (r ∷ filter p rows) (filter p rows)) id ≡ cond d (Some r) None) [ true ↦ rw b refl | false ↦ ih ∙ ap (option_filter p) none ])
        | inr other ↦
            let b = ne_eqb r.id id other in
            rw b (elim (p r) as (λ d. row_of (cond d (r ∷ filter p rows) (filter p rows)) id ≡ option_filter p (row_of rows id)) [ true ↦ rw b ih | false ↦ ih ])
      ]

  pub find_lowered : (id : ℕ) (ids : List ℕ) (rows : List (RegistryRow T)) → Rises rows
      → row_of (lowered ids rows) id ≡ option_filter is_counted (option_map (lower_by ids) (row_of rows id))
  find_lowered id ids rows up =
      find_filter id is_counted (lowered_all ids rows) (rises_lowered_all ids rows up) ∙ ap (option_filter is_counted) (find_map (lower_by ids) (λ r. refl) id rows)

  pub count_lowered : (id : ℕ) (ids : List ℕ) (rows : List (RegistryRow T)) → Rises rows → count_of (lowered ids rows) id ≡ count_of rows id - times id ids
  count_lowered id ids rows up =
      ap count_in (find_lowered id ids rows up)
      ∙ elim (row_cases (λ r. ⊤) id rows (λ k d lt. tt)) [
        | inl none ↦ rw none (omega arith)
        | inr s ↦ rw s.1 (
            let low = lower_by ids s.0 in
            cond_both (is_counted low) (Some low) None (λ o. count_in o ≡ low.count) (λ _. refl) (λ e. grind (arith, nat_tests, e)) ∙ ap (λ k. s.0.count - times k ids) s.2.0)
      ]

  -- an id that stays listed keeps its item
  pub item_lowered : (id : ℕ) (ids : List ℕ) (rows : List (RegistryRow T)) → Rises rows → IsListed (lowered ids rows) id → item_of (lowered ids rows) id ≡ item_of rows id
  item_lowered id ids rows up h =
      let e = find_lowered id ids rows up in
      let some = subst (λ o. IsSome o) e h in
      ap (option_map (λ r. r.item)) e
      ∙ elim (row_cases (λ r. ⊤) id rows (λ k d lt. tt)) [
        | inl none ↦ rw none refl
        | inr s ↦
            let low = lower_by ids s.0 in
            rw s.1 (cond_both (is_counted low) (Some low) None (λ o. IsSome o → option_map (λ r. r.item) o ≡ Some s.0.item) (λ _ h. refl) (λ _ h. absurd (false≢true h)) (rw s.1 at some))
      ]

  -- an id stays listed exactly where its count is above how often it comes
  pub listed_lowered : (id : ℕ) (ids : List ℕ) (rows : List (RegistryRow T)) → Rises rows → IsListed (lowered ids rows) id ↔ (times id ids < count_of rows id)
  listed_lowered id ids rows up = (
    λ listed. omega (arith, count_lowered id ids rows up, listed_counted id (lowered ids rows) (counted_filter (lowered_all ids rows)) listed),
    λ more. counted_listed id (lowered ids rows) (omega (arith, count_lowered id ids rows up, more)),
  )

  -- what was retained is released
  pub lowered_raised : (ids : List ℕ) (rows : List (RegistryRow T)) → All (λ r. 0 < r.count) rows → lowered ids (raised ids rows) ≡ rows
  lowered_raised ids [] all = refl
  lowered_raised ids (r ∷ rows) all =
      let e : r.count + times r.id ids - times r.id ids ≡ r.count = omega arith in
      let counted : is_counted r ≡ true = lt-ltb 0 r.count (All-head (λ r. 0 < r.count) r rows all) in
      rw (e, counted) (ap (λ l. r ∷ l) (lowered_raised ids rows (All-tail (λ r. 0 < r.count) r rows all)))

  -- ---- added

  module _ (id : ℕ) (r : RegistryRow T) (rows : List (RegistryRow T)) (all : All (λ s. s.id < r.id) rows) where
    pub find_push : row_of (rows ++ r ∷ []) id ≡ cond (has_id id r) (Some r) (row_of rows id)
    find_push =
        find-append (has_id id) rows (r ∷ [])
        ∙ elim (row_cases (λ s. s.id < r.id) id rows all) [
          | inl none ↦ rw none refl
          | inr s ↦ rw (s.1, ne_eqb r.id id (λ e. omega (arith, s.2.0, s.2.1, e))) refl
        ]

    pub count_push : count_of (rows ++ r ∷ []) id ≡ count_of rows id + cond (has_id id r) r.count 0
    count_push =
        ap count_in find_push
        ∙ elim (row_cases (λ s. s.id < r.id) id rows all) [
          | inl none ↦ rw none (elim (has_id id r) as (λ b. count_in (cond b (Some r) None) ≡ 0 + cond b r.count 0) [ true ↦ omega arith | false ↦ omega arith ])
          | inr s ↦ rw (s.1, ne_eqb r.id id (λ e. omega (arith, s.2.0, s.2.1, e))) (omega arith)
        ]

    pub item_push : item_of (rows ++ r ∷ []) id ≡ cond (has_id id r) (Some r.item) (item_of rows id)
    item_push =
        ap (option_map (λ s. s.item)) find_push
        ∙ elim (has_id id r) as (λ b. option_map (λ s. s.item) (cond b (Some r) (row_of rows id)) ≡ cond b (Some r.item) (item_of rows id)) [ true ↦ refl | false ↦ refl ]
