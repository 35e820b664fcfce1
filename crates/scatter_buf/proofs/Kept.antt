-- What is kept beside the places, when a value is put, and when all places have theirs.
use Rattle.std.proofs.Common.{◌≡◌, ◌≢◌, ◌↔◌, ◌++◌, take, drop, append-nil, take_all, drop_of_length-le, ℕ, ◌+◌, ◌<◌, ◌≤◌, true, cond, List, [], ◌∷◌, map, length, get_or, set, slice_get, is_some, count_by, All, IsSome, Option, Some, None, refl, sym, ap, ◌∙◌, inl, inr, arith, length-set}
use Rattle.std.proofs.lemmas.Bool.{cases_eq}
use Rattle.std.proofs.lemmas.List.{get_or-set_same, get_or-set_other}
use Rattle.std.proofs.lemmas.List.Elements.{All-nil, All-cons, All-head, All-tail}
use Rattle.std.proofs.lemmas.List.Sums.{count_by-le-length, sum_by-cons, sum_by-set}
use Rattle.std.proofs.lemmas.Option.{slice_get_within, get_or_from_slice_get}
use Rattle.scatter_buf.specs.Marks.{is_marked}
use Rattle.scatter_buf.specs.Scatter.{values_of, IsKept}

module _ {X : Type 0} where
  -- each place has its value exactly where as many have theirs as there are places
  all_from_count : (cs : List (Option X)) → count_by is_some cs ≡ length cs → All IsSome cs
  all_from_count [] e = All-nil IsSome
  all_from_count (None ∷ cs) e = absurd (omega (arith, e, count_by-le-length is_some cs))
  all_from_count (Some x ∷ cs) e = let step : count_by is_some (Some x ∷ cs) ≡ 1 + count_by is_some cs = sum_by-cons (λ c. cond (is_some c) 1 0) (Some x) cs in All-cons IsSome (Some x) cs refl (all_from_count cs (omega (arith, e, step)))

  count_from_all : (cs : List (Option X)) → All IsSome cs → count_by is_some cs ≡ length cs
  count_from_all [] all = refl
  count_from_all (None ∷ cs) all = let none : IsSome {T = X} None = All-head IsSome None cs all in cc
  count_from_all (Some x ∷ cs) all = let step : count_by is_some (Some x ∷ cs) ≡ 1 + count_by is_some cs = sum_by-cons (λ c. cond (is_some c) 1 0) (Some x) cs in omega (arith, step, count_from_all cs (All-tail IsSome (Some x) cs all))

  pub full_by_count : (cs : List (Option X)) → (count_by is_some cs ≡ length cs) ↔ All IsSome cs
  full_by_count cs = (all_from_count cs, count_from_all cs)

  -- the values are then all that there is
  pub values_of_full : (cs : List (Option X)) → All IsSome cs → cs ≡ map Some (values_of cs)
  values_of_full [] all = refl
  values_of_full (None ∷ cs) all = let none : IsSome {T = X} None = All-head IsSome None cs all in cc
  values_of_full (Some x ∷ cs) all = ap (λ l. Some x ∷ l) (values_of_full cs (All-tail IsSome (Some x) cs all))

  pub values_of-map : (xs : List X) → values_of (map Some xs) ≡ xs
  values_of-map [] = refl
  values_of-map (x ∷ xs) = ap (λ l. x ∷ l) (values_of-map xs)

  module _ (cs : List (Option X)) (place : ℕ) (value : X) (empty : slice_get cs place ≡ Some None) where
    within : place < length cs
    within = slice_get_within cs place None empty

    pub one_more : count_by is_some (set cs place (Some value)) ≡ count_by is_some cs + 1
    one_more =
        let sums = sum_by-set (λ c. cond (is_some c) 1 0) cs place (Some value) None within in
        let none : get_or cs place None ≡ None = get_or_from_slice_get cs place None None empty in
        omega (arith, rw none at sums)

    -- so the count of values stays below that of places
    pub below : count_by is_some cs + 1 ≤ length cs
    below = omega (arith, one_more, count_by-le-length is_some (set cs place (Some value)), length-set cs place (Some value))

    pub kept_put : (old new : List ℕ) (count filled : ℕ) → IsKept cs old count filled → length new ≡ length old → is_marked new place ≡ true
        → ((other : ℕ) → other ≢ place → is_marked new other ≡ is_marked old other) → IsKept (set cs place (Some value)) new count (filled + 1)
    kept_put old new count filled kept long marked others = record {
      size = length-set cs place (Some value) ∙ kept.size;
      values = omega (arith, one_more, kept.values);
      covered = omega (arith, kept.covered);
      marks = λ i lt. elim (cases_eq i place) [
        | inl same ↦ ap (is_marked new) same ∙ marked ∙ ap is_some (sym (get_or-set_same cs place (Some value) None within)) ∙ ap (λ k. is_some (get_or (set cs place (Some value)) k None)) (sym same)
        | inr apart ↦ others i apart ∙ kept.marks i lt ∙ ap is_some (sym (get_or-set_other cs place i (Some value) None apart))
      ];
    }

-- what is written through the slice of a vector replaces its items
pub written_back : (n : ℕ) (new old : List ℕ) → n ≡ length old → length new ≡ length old → take n (new ++ drop (length new) old) ≡ new
written_back n new old count long =
    ap (λ rest. take n (new ++ rest)) (drop_of_length-le old (omega arith)) ∙ ap (take n) (append-nil new) ∙ take_all n new (omega arith)
