-- markings: none, one, one after another, and of a whole round
use Rattle.std.proofs.Common.{◌≡◌, ◌≢◌, ℕ, ◌+◌, ◌<◌, ◌≤◌, ◌⊎◌, inl, inr, true, false, List, [], ◌∷◌, ◌++◌, Option, Some, None, length, take, set, refl, ap, sym, ◌∙◌, subst, arith, get_or-set_same, get_or-set_other}
use Rattle.std.specs.Prelude.{Contains, sum_by, is_some}
use Rattle.std.proofs.lemmas.Bool.{cases_eq, cases_lt}
use Rattle.std.proofs.lemmas.List.{length_push, length-set, get_or_past}
use Rattle.std.proofs.lemmas.List.Sums.{sum_by-set, sum_by_more}
use Rattle.std.proofs.lemmas.List.Elements.{Contains-append_left, Contains-push, Contains-push_cases}
use Rattle.std.proofs.lemmas.Option.{none-some, same_Some}
use Rattle.algo_digraph.specs.Digraph.{Digraph}
use Rattle.algo_digraph.specs.Walks.{Joins}
use Rattle.algo_reach.specs.Marks.{mark_of, unmarked, HasSource, IsMarking, IsPulled}

-- a vertex has a mark or none
pub marked_or_not : (o : Option ℕ) → (o ≡ None) ⊎ ((d : ℕ) × (o ≡ Some d))
marked_or_not None = inl refl
marked_or_not (Some d) = inr (d, refl)

pub some_mark : (o : Option ℕ) → is_some o ≡ true → o ≢ None
some_mark None h e = cc
some_mark (Some d) h e = cc

pub no_mark : (o : Option ℕ) → is_some o ≡ false → o ≡ None
no_mark None h = refl
no_mark (Some d) h = cc

pub given_mark : (o : Option ℕ) → o ≢ None → (d : ℕ) × (o ≡ Some d)
given_mark None h = absurd (h refl)
given_mark (Some d) h = (d, refl)

-- a vertex with a mark is one of the list
pub marked_within : (marks : List (Option ℕ)) (v d : ℕ) → mark_of marks v ≡ Some d → v < length marks
marked_within marks v d h =
    elim (cases_lt v (length marks)) [
      | inl lt ↦ lt
      | inr past ↦ absurd (none-some d (sym (get_or_past marks v None past) ∙ h))
    ]

-- a list that is not empty has an item
pub some_item : {X : Type 0} (xs : List X) → xs ≢ [] → 0 < length xs
some_item [] ne = absurd (ne refl)
some_item (x ∷ xs) ne = omega arith

-- what a round leaves of a vertex: its mark, the mark of a cause that it found, or none where there is no cause
pub pulled_same : (Cause : Type 0) (mark : ℕ) (s r : Option ℕ) → s ≢ None → r ≡ s → IsPulled Cause mark s r
pulled_same Cause mark None r ne e = absurd (ne refl)
pulled_same Cause mark (Some d) r ne e = e

pub pulled_got : (Cause : Type 0) (mark : ℕ) (s r : Option ℕ) → s ≡ None → r ≡ Some mark → Cause → IsPulled Cause mark s r
pulled_got Cause mark (Some k) r none e cause = cc
pulled_got Cause mark None None none e cause = cc
pulled_got Cause mark None (Some d) none e cause = (same_Some d mark e, cause)

pub pulled_not : (Cause : Type 0) (mark : ℕ) (s r : Option ℕ) → s ≡ None → r ≡ None → (Cause → ⊥) → IsPulled Cause mark s r
pulled_not Cause mark (Some k) r none e not = cc
pulled_not Cause mark None None none e not = not
pulled_not Cause mark None (Some d) none e not = cc

-- the vertices below i that have a mark now and had none before
pub record IsNewUpTo (old new : List (Option ℕ)) (i : ℕ) (found : List ℕ) : Type 0 where
  pub listed : (v : ℕ) → Contains found v → (v < i) × (mark_of old v ≡ None) × (mark_of new v ≢ None)
  pub has : (v : ℕ) → v < i → mark_of old v ≡ None → mark_of new v ≢ None → Contains found v
  pub count : length found + sum_by unmarked (take i new) ≡ sum_by unmarked (take i old)

pub new_none : (old new : List (Option ℕ)) → IsNewUpTo old new 0 []
new_none old new = record {
  listed = λ v h. absurd (omega (arith, h.1));
  has = λ v lt h k. absurd (omega arith);
  count = refl;
}

unmarked_some : (o : Option ℕ) → o ≢ None → unmarked o ≡ 0
unmarked_some None ne = absurd (ne refl)
unmarked_some (Some d) ne = refl

module _ (old new : List (Option ℕ)) (i : ℕ) (found : List ℕ) (lo : i < length old) (ln : i < length new) where
  pub new_more : IsNewUpTo old new i found → (mark_of old i ≡ None) × (mark_of new i ≢ None) → IsNewUpTo old new (i + 1) (found ++ i ∷ [])
  new_more so both = record {
    listed = λ v h.
        elim (Contains-push_cases found i v h) [
          | inl before ↦ (let b = so.listed v before in (omega (arith, b.0), b.1, b.2))
          | inr e ↦ subst (λ x. (x < i + 1) × (mark_of old x ≡ None) × (mark_of new x ≢ None)) e (omega arith, both.0, both.1)
        ];
    has = λ v lt h k.
        elim (cases_lt v i) [
          | inl less ↦ Contains-append_left found (i ∷ []) v (so.has v less h k)
          | inr ge ↦ (let e : i ≡ v = omega arith in subst (Contains (found ++ i ∷ [])) e (Contains-push found i))
        ];
    count = omega (arith, so.count, length_push found i, sum_by_more unmarked old i None lo, sum_by_more unmarked new i None ln, ap unmarked both.0, unmarked_some (mark_of new i) both.1);
  }

  same_count : (mark_of old i ≡ None) ⊎ ((d : ℕ) × (mark_of old i ≡ Some d)) → (mark_of old i ≢ None → mark_of new i ≢ None) → ((mark_of old i ≡ None) × (mark_of new i ≢ None) → ⊥) → unmarked (mark_of old i) ≡ unmarked (mark_of new i)
  same_count (inl none) kept not =
      elim (marked_or_not (mark_of new i)) [
        | inl still ↦ ap unmarked (none ∙ sym still)
        | inr got ↦ absurd (not (none, λ e. none-some got.0 (sym e ∙ got.1)))
      ]
  same_count (inr had) kept not =
      let ne : mark_of old i ≢ None = λ e. none-some had.0 (sym e ∙ had.1) in
      unmarked_some (mark_of old i) ne ∙ sym (unmarked_some (mark_of new i) (kept ne))

  pub new_passed : (mark_of old i ≢ None → mark_of new i ≢ None) → IsNewUpTo old new i found → ((mark_of old i ≡ None) × (mark_of new i ≢ None) → ⊥) → IsNewUpTo old new (i + 1) found
  new_passed kept so not = record {
    listed = λ v h. let b = so.listed v h in (omega (arith, b.0), b.1, b.2);
    has = λ v lt h k.
        elim (cases_lt v i) [
          | inl less ↦ so.has v less h k
          | inr ge ↦ (let e : v ≡ i = omega arith in absurd (not (subst (λ x. (mark_of old x ≡ None) × (mark_of new x ≢ None)) e (h, k))))
        ];
    count = omega (arith, so.count, sum_by_more unmarked old i None lo, sum_by_more unmarked new i None ln, same_count (marked_or_not (mark_of old i)) kept not);
  }

-- nothing is marked
pub marking_none : (Cause : ℕ → Type 0) (mark : ℕ) (marks : List (Option ℕ)) (found : List ℕ) → IsMarking Cause mark marks marks found found
marking_none Cause mark marks found = record {
  long = refl;
  kept = λ v d h. h;
  fresh = λ v h. inl h;
  listed = λ v h. inl h;
  stays = λ v h. h;
  has = λ v h k. absurd (none-some mark (sym h ∙ k));
  count = refl;
}

-- one vertex is marked
module _ (mark v : ℕ) (old : List (Option ℕ)) (found : List ℕ) (lt : v < length old) (free : mark_of old v ≡ None) where
  pub marked_at : mark_of (set old v (Some mark)) v ≡ Some mark
  marked_at = get_or-set_same old v (Some mark) None lt

  elsewhere : (w : ℕ) → w ≢ v → mark_of (set old v (Some mark)) w ≡ mark_of old w
  elsewhere w ne = get_or-set_other old v w (Some mark) None ne

  marked_here : (w : ℕ) → w ≡ v → mark_of (set old v (Some mark)) w ≡ Some mark
  marked_here w e = ap (mark_of (set old v (Some mark))) e ∙ marked_at

  pub marking_one : IsMarking (λ w. w ≡ v) mark old (set old v (Some mark)) found (found ++ v ∷ [])
  marking_one = record {
    long = length-set old v (Some mark);
    kept = λ w d h. let ne : w ≢ v = λ e. none-some d (sym free ∙ ap (mark_of old) (sym e) ∙ h) in elsewhere w ne ∙ h;
    fresh = λ w h.
        elim (cases_eq w v) [
          | inl e ↦ inr (marked_here w e, e)
          | inr ne ↦ inl (elsewhere w ne ∙ h)
        ];
    listed = λ w h.
        elim (Contains-push_cases found v w h) [
          | inl before ↦ inl before
          | inr e ↦ inr (subst (λ x. x < length old) e lt, ap (mark_of old) (sym e) ∙ free, marked_here w (sym e))
        ];
    stays = λ w h. Contains-append_left found (v ∷ []) w h;
    has = λ w h k.
        elim (cases_eq w v) [
          | inl e ↦ subst (Contains (found ++ v ∷ [])) (sym e) (Contains-push found v)
          | inr ne ↦ absurd (none-some mark (sym h ∙ sym (elsewhere w ne) ∙ k))
        ];
    count = omega (arith, ap unmarked free, length_push found v, sum_by-set unmarked old v (Some mark) None lt);
  }

-- a mark is never taken away
pub still_marked : (Cause : ℕ → Type 0) (mark : ℕ) (old new : List (Option ℕ)) (before after : List ℕ) (v : ℕ) → IsMarking Cause mark old new before after → mark_of old v ≢ None → mark_of new v ≢ None
still_marked Cause mark old new before after v m ne none =
    let had = given_mark (mark_of old v) ne in none-some had.0 (sym none ∙ m.kept v had.0 had.1)

-- one marking after another
module _ (A B C : ℕ → Type 0) (mark : ℕ) (old mid new : List (Option ℕ)) (before between after : List ℕ)
    (one : IsMarking A mark old mid before between) (two : IsMarking B mark mid new between after)
    (first : (v : ℕ) → A v → C v) (next : (v : ℕ) → B v → C v) where
  fresh_then : (v : ℕ) → mark_of old v ≡ None → (mark_of mid v ≡ None) ⊎ ((mark_of mid v ≡ Some mark) × A v) → (mark_of new v ≡ None) ⊎ ((mark_of new v ≡ Some mark) × C v)
  fresh_then v h (inl still) =
      elim (two.fresh v still) [
        | inl none ↦ inl none
        | inr got ↦ inr (got.0, next v got.1)
      ]
  fresh_then v h (inr got) = inr (two.kept v mark got.0, first v got.1)

  free_before : (v : ℕ) → mark_of mid v ≡ None → mark_of old v ≡ None
  free_before v h =
      elim (marked_or_not (mark_of old v)) [
        | inl none ↦ none
        | inr had ↦ absurd (none-some had.0 (sym h ∙ one.kept v had.0 had.1))
      ]

  listed_first : (v : ℕ) → Contains between v → Contains before v ⊎ ((v < length old) × (mark_of old v ≡ None) × (mark_of new v ≡ Some mark))
  listed_first v h =
      elim (one.listed v h) [
        | inl early ↦ inl early
        | inr got ↦ inr (got.0, got.1, two.kept v mark got.2)
      ]

  has_then : (v : ℕ) → mark_of old v ≡ None → mark_of new v ≡ Some mark → (mark_of mid v ≡ None) ⊎ ((mark_of mid v ≡ Some mark) × A v) → Contains after v
  has_then v h k (inl still) = two.has v still k
  has_then v h k (inr got) = two.stays v (one.has v h got.0)

  pub marking_then : IsMarking C mark old new before after
  marking_then = record {
    long = two.long ∙ one.long;
    kept = λ v d h. two.kept v d (one.kept v d h);
    fresh = λ v h. fresh_then v h (one.fresh v h);
    listed = λ v h.
        elim (two.listed v h) [
          | inl early ↦ listed_first v early
          | inr got ↦ inr (subst (λ n. v < n) one.long got.0, free_before v got.1, got.2)
        ];
    stays = λ v h. two.stays v (one.stays v h);
    has = λ v h k. has_then v h k (one.fresh v h);
    count = two.count ∙ one.count;
  }

-- a round in which each vertex looks for a cause is a marking
module _ (Cause : ℕ → Type 0) (mark : ℕ) (old new : List (Option ℕ)) (found : List ℕ)
    (long : length new ≡ length old)
    (each : (v : ℕ) → v < length old → IsPulled (Cause v) mark (mark_of old v) (mark_of new v)) where
  pulled_kept : (C : Type 0) (v d : ℕ) (s r : Option ℕ) → IsPulled C mark s r → s ≡ Some d → r ≡ Some d
  pulled_kept C v d None r h e = cc
  pulled_kept C v d (Some k) r h e = h ∙ e

  pulled_fresh : (C : Type 0) (s r : Option ℕ) → IsPulled C mark s r → s ≡ None → (r ≡ None) ⊎ ((r ≡ Some mark) × C)
  pulled_fresh C None None h e = inl refl
  pulled_fresh C None (Some d) h e = inr (ap Some h.0, h.1)
  pulled_fresh C (Some k) r h e = cc

  pub pulled_found : (C : Type 0) (s r : Option ℕ) → IsPulled C mark s r → C → r ≢ None
  pulled_found C None None h cause e = h cause
  pulled_found C None (Some d) h cause e = cc
  pulled_found C (Some k) r h cause e = cc

  outside : (v : ℕ) → length old ≤ v → mark_of new v ≡ None
  outside v past = get_or_past new v None (omega (arith, long))

  new_mark : (v : ℕ) → (mark_of new v ≡ None) ⊎ ((mark_of new v ≡ Some mark) × Cause v) → mark_of new v ≢ None → mark_of new v ≡ Some mark
  new_mark v (inl none) ne = absurd (ne none)
  new_mark v (inr got) ne = got.0

  module _ (listed : (v : ℕ) → Contains found v → (v < length old) × (mark_of old v ≡ None) × (mark_of new v ≢ None))
      (has : (v : ℕ) → v < length old → mark_of old v ≡ None → mark_of new v ≢ None → Contains found v)
      (count : length found + sum_by unmarked new ≡ sum_by unmarked old) where
    pub marking_round : IsMarking Cause mark old new [] found
    marking_round = record {
      long = long;
      kept = λ v d h. pulled_kept (Cause v) v d (mark_of old v) (mark_of new v) (each v (marked_within old v d h)) h;
      fresh = λ v h.
          elim (cases_lt v (length old)) [
            | inl lt ↦ pulled_fresh (Cause v) (mark_of old v) (mark_of new v) (each v lt) h
            | inr past ↦ inl (outside v past)
          ];
      listed = λ v h.
          let l = listed v h in
          inr (l.0, l.1, new_mark v (pulled_fresh (Cause v) (mark_of old v) (mark_of new v) (each v l.0) l.1) l.2);
      stays = λ v h. absurd (omega (arith, h.1));
      has = λ v h k. has v (let within = marked_within new v mark k in omega (arith, long)) h (λ none. none-some mark (sym none ∙ k));
      count = omega (arith, count);
    }

  -- what had a mark has one
  pub round_keeps : (v : ℕ) → mark_of old v ≢ None → mark_of new v ≢ None
  round_keeps v ne none =
      let had = given_mark (mark_of old v) ne in
      none-some had.0 (sym none ∙ pulled_kept (Cause v) v had.0 (mark_of old v) (mark_of new v) (each v (marked_within old v had.0 had.1)) had.1)
