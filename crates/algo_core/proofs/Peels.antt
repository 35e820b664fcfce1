-- vertices get their numbers and go
use Rattle.std.proofs.Common.{◌≡◌, ◌≢◌, ℕ, ◌+◌, ◌-◌, ◌<◌, ◌≤◌, ◌⊎◌, inl, inr, max, true, false, cond, List, [], ◌∷◌, ◌++◌, Option, Some, None, length, map, take, set, replicate, slice_index, refl, ap, sym, ◌∙◌, subst, arith, get_or-set_same, get_or-set_other}
use Rattle.std.specs.Prelude.{count_by, filter, flat_map, sum, is_some, Contains, ◌&&◌, ◌==◌}
use Rattle.std.specs.Option.{is_none}
use Rattle.std.proofs.lemmas.Bool.{cases_eq, cases_lt, false≢true, lt-ltb}
use Rattle.std.proofs.lemmas.Bool.Decides.{nat_tests}
use Rattle.std.proofs.lemmas.List.{length-set, length_push, length-replicate, get_or-replicate, get_or_past, take_more}
use Rattle.std.proofs.lemmas.List.Sums.{sum_by-append, sum_by-cons, sum_by-set}
use Rattle.std.proofs.lemmas.List.Elements.{Contains-append_left, Contains-push, Contains-push_cases}
use Rattle.std.proofs.lemmas.Option.{none-some, same_Some}
use Rattle.algo_digraph.specs.declared.arcs.Arc.{Arc}
use Rattle.algo_digraph.specs.Digraph.{Digraph}
use Rattle.algo_digraph.specs.Arcs.{out_arcs, in_arcs}
use Rattle.algo_digraph.specs.Cores.{ends_inside, IsInCore, IsCoreNumber}
use Rattle.algo_core.specs.Peeling.{core_of, is_above, is_left, neighbors, AreNumbered, IsPeeling, IsLowering, IsNumbering}
use Rattle.algo_core.proofs.Counts.{more_ends, ends_lost, target_count, source_count, count_filtered}

-- ---- numbers that are there or not

pub numbered_or_not : (o : Option ℕ) → (o ≡ None) ⊎ ((k : ℕ) × (o ≡ Some k))
numbered_or_not None = inl refl
numbered_or_not (Some k) = inr (k, refl)

pub left_none : (o : Option ℕ) → is_none o ≡ true → o ≡ None
left_none None h = refl
left_none (Some k) h = cc

pub none_of : (o : Option ℕ) → is_some o ≡ false → o ≡ None
none_of None h = refl
none_of (Some k) h = cc

pub none_left : (o : Option ℕ) → o ≡ None → is_none o ≡ true
none_left None h = refl
none_left (Some k) h = cc

pub some_gone : (o : Option ℕ) → o ≢ None → is_none o ≡ false
some_gone None ne = absurd (ne refl)
some_gone (Some k) ne = refl

pub not_left : (o : Option ℕ) → is_none o ≡ false → o ≢ None
not_left None h e = cc
not_left (Some k) h e = cc

-- a number that is kept is there
pub numbered_on : (o r : Option ℕ) → ((k : ℕ) → o ≡ Some k → r ≡ Some k) → o ≢ None → r ≢ None
numbered_on None r kept ne = absurd (ne refl)
numbered_on (Some k) r kept ne = λ e. none-some k (sym e ∙ kept k refl)

pub free_before : (o r : Option ℕ) → ((k : ℕ) → o ≡ Some k → r ≡ Some k) → r ≡ None → o ≡ None
free_before None r kept e = refl
free_before (Some k) r kept e = absurd (none-some k (sym e ∙ kept k refl))

-- what is left is one of the list
pub left_within : (cores : List (Option ℕ)) (v : ℕ) → is_left cores v ≡ true → v < length cores
left_within cores v h =
    elim (cases_lt v (length cores)) [
      | inl lt ↦ lt
      | inr past ↦ absurd (none-some 0 (sym (left_none (core_of cores v) h) ∙ get_or_past cores v (Some 0) past))
    ]

-- ---- the bounds of a number

module _ (g : Digraph) (level : ℕ) (cores : List (Option ℕ)) (ends : List ℕ) (peeling : IsPeeling g level cores ends) where
  -- a set with more edge ends than the level has no vertex with at most so many
  pub no_more : (v : ℕ) → is_left cores v ≡ true → slice_index ends v ≤ level → (j : ℕ) → IsInCore g v j → j ≤ level
  no_more v here low j h =
      elim (cases_lt level j) [
        | inl more ↦ (let within : (u : ℕ) → h.set u ≡ true → is_left cores u ≡ true
            = λ u m. peeling.above u j (record { set = h.set; vertices = h.vertices; holds = m; ends = h.ends }) more in
            omega (arith, h.ends v h.holds, more_ends g h.set (is_left cores) within v, peeling.counted v here, low))
        | inr le ↦ le
      ]

  pub number_is : (v : ℕ) → is_left cores v ≡ true → slice_index ends v ≤ level → IsCoreNumber g v level
  number_is v here low = (peeling.deep v here, no_more v here low)

  -- the level may rise to the fewest edge ends of what is left
  pub raised : (m : ℕ) → ((u : ℕ) → is_left cores u ≡ true → m ≤ slice_index ends u) → IsPeeling g (max level m) cores ends
  raised m least = record {
    long = peeling.long;
    counts = peeling.counts;
    right = peeling.right;
    counted = λ v h. omega (arith, least v h, peeling.counted v h);
    deep = λ v h.
        elim (cases_lt level m) [
          | inl less ↦ (let top : m ≡ max level m = omega arith in subst (IsInCore g v) top (record {
            set = is_left cores;
            vertices = λ u m. omega (arith, left_within cores u m, peeling.long);
            holds = h;
            ends = λ u m'. omega (arith, less, least u m', peeling.counted u m');
          }))
          | inr ge ↦ (let top : level ≡ max level m = omega arith in subst (IsInCore g v) top (peeling.deep v h))
        ];
    above = λ v k h more. peeling.above v k h (omega (arith, more));
  }

-- ---- some of what is left gets its number

module _ (g : Digraph) (level : ℕ) (cores new : List (Option ℕ)) (ends ends' : List ℕ) (Kind : ℕ → Type 0) (peeling : IsPeeling g level cores ends)
    (numbering : IsNumbering Kind level cores new) (low : (v : ℕ) → Kind v → slice_index ends v ≤ level) where
  pub left_before : (v : ℕ) → is_left new v ≡ true → is_left cores v ≡ true
  left_before v h =
      elim (numbered_or_not (core_of cores v)) [
        | inl none ↦ none_left (core_of cores v) none
        | inr had ↦ absurd (none-some had.0 (sym (left_none (core_of new v) h) ∙ numbering.kept v had.0 had.1))
      ]

  right_new : (v k : ℕ) → core_of cores v ≡ None → core_of new v ≡ Some k → (core_of new v ≡ None) ⊎ ((core_of new v ≡ Some level) × Kind v) → IsCoreNumber g v k
  right_new v k was h (inl none) = absurd (none-some k (sym none ∙ h))
  right_new v k was h (inr got) =
      subst (IsCoreNumber g v) (same_Some level k (sym got.0 ∙ h)) (number_is g level cores ends peeling v (none_left (core_of cores v) was) (low v got.1))

  above_new : (v k : ℕ) → IsInCore g v k → level < k → is_left cores v ≡ true → (core_of new v ≡ None) ⊎ ((core_of new v ≡ Some level) × Kind v) → is_left new v ≡ true
  above_new v k h more was (inl none) = none_left (core_of new v) none
  above_new v k h more was (inr got) = absurd (omega (arith, more, no_more g level cores ends peeling v was (low v got.1) k h))

  pub peeled : length ends' ≡ g.vertices → ((v : ℕ) → is_left new v ≡ true → slice_index ends' v ≡ max level (ends_inside g (is_left new) v)) → IsPeeling g level new ends'
  peeled counts counted = record {
    long = numbering.long ∙ peeling.long;
    counts = counts;
    right = λ v k lt h.
        elim (numbered_or_not (core_of cores v)) [
          | inl none ↦ right_new v k none h (numbering.fresh v none)
          | inr had ↦ peeling.right v k lt (had.1 ∙ sym (numbering.kept v had.0 had.1) ∙ h)
        ];
    counted = counted;
    deep = λ v h. peeling.deep v (left_before v h);
    above = λ v k h more. let was = peeling.above v k h more in above_new v k h more was (numbering.fresh v (left_none (core_of cores v) was));
  }

-- ---- numberings: none, one, and one after another

pub numbering_none : (Kind : ℕ → Type 0) (level : ℕ) (cores : List (Option ℕ)) → ((v : ℕ) → Kind v → core_of cores v ≢ None) → IsNumbering Kind level cores cores
numbering_none Kind level cores all = record { long = refl; kept = λ v k h. h; fresh = λ v h. inl h; all = all }

module _ (level v : ℕ) (cores : List (Option ℕ)) (lt : v < length cores) where
  pub number_at : core_of (set cores v (Some level)) v ≡ Some level
  number_at = get_or-set_same cores v (Some level) (Some 0) lt

  pub number_else : (w : ℕ) → w ≢ v → core_of (set cores v (Some level)) w ≡ core_of cores w
  number_else w ne = get_or-set_other cores v w (Some level) (Some 0) ne

  number_of : (w : ℕ) → w ≡ v → core_of (set cores v (Some level)) w ≡ Some level
  number_of w e = ap (core_of (set cores v (Some level))) e ∙ number_at

  pub numbering_one : core_of cores v ≡ None → IsNumbering (λ w. w ≡ v) level cores (set cores v (Some level))
  numbering_one free = record {
    long = length-set cores v (Some level);
    kept = λ w k h. let ne : w ≢ v = λ e. none-some k (sym free ∙ ap (core_of cores) (sym e) ∙ h) in number_else w ne ∙ h;
    fresh = λ w h.
        elim (cases_eq w v) [
          | inl e ↦ inr (number_of w e, e)
          | inr ne ↦ inl (number_else w ne ∙ h)
        ];
    all = λ w e none. none-some level (sym none ∙ number_of w e);
  }

module _ (A B C : ℕ → Type 0) (level : ℕ) (old mid new : List (Option ℕ)) (one : IsNumbering A level old mid) (two : IsNumbering B level mid new)
    (first : (v : ℕ) → A v → C v) (second : (v : ℕ) → B v → C v) (both : (v : ℕ) → C v → A v ⊎ B v) where
  fresh_then : (v : ℕ) → (core_of mid v ≡ None) ⊎ ((core_of mid v ≡ Some level) × A v) → (core_of new v ≡ None) ⊎ ((core_of new v ≡ Some level) × C v)
  fresh_then v (inl none) =
      elim (two.fresh v none) [
        | inl still ↦ inl still
        | inr got ↦ inr (got.0, second v got.1)
      ]
  fresh_then v (inr got) = inr (two.kept v level got.0, first v got.1)

  all_then : (v : ℕ) → A v ⊎ B v → core_of new v ≢ None
  all_then v (inl a) none =
      elim (numbered_or_not (core_of mid v)) [
        | inl free ↦ one.all v a free
        | inr had ↦ none-some had.0 (sym none ∙ two.kept v had.0 had.1)
      ]
  all_then v (inr b) none = two.all v b none

  pub numbering_then : IsNumbering C level old new
  numbering_then = record {
    long = two.long ∙ one.long;
    kept = λ v k h. two.kept v k (one.kept v k h);
    fresh = λ v h. fresh_then v (one.fresh v h);
    all = λ v c. all_then v (both v c);
  }

-- ---- a queue is numbered, one vertex after another

pub numbering_first : (level : ℕ) (queue : List ℕ) (cores : List (Option ℕ)) → IsNumbering (Contains (take 0 queue)) level cores cores
numbering_first level queue cores = numbering_none (Contains (take 0 queue)) level cores (λ v h. absurd (omega (arith, h.1)))

pub numbering_more : (level : ℕ) (queue : List ℕ) (i : ℕ) (old mid new : List (Option ℕ)) → i < length queue → IsNumbering (Contains (take i queue)) level old mid
    → IsNumbering (λ w. w ≡ slice_index queue i) level mid new → IsNumbering (Contains (take (i + 1) queue)) level old new
numbering_more level queue i old mid new lt one two =
    let v = slice_index queue i in
    let front : take (i + 1) queue ≡ take i queue ++ v ∷ [] = take_more queue i 0 lt in
    numbering_then (Contains (take i queue)) (λ w. w ≡ v) (Contains (take (i + 1) queue)) level old mid new one two
    (λ w h. subst (λ xs. Contains xs w) (sym front) (Contains-append_left (take i queue) (v ∷ []) w h))
    (λ w e. subst (λ xs. Contains xs w) (sym front) (subst (Contains (take i queue ++ v ∷ [])) (sym e) (Contains-push (take i queue) v)))
    (λ w h.
    elim (Contains-push_cases (take i queue) v w (subst (λ xs. Contains xs w) front h)) [
      | inl early ↦ inl early
      | inr e ↦ inr (sym e)
    ])

-- ---- counts that fall: none, one, and one after another

pub lowering_none : (level : ℕ) (ends queue : List ℕ) → IsLowering level [] ends ends queue queue
lowering_none level ends queue = record {
  long = refl;
  each = λ w h. omega (arith, h);
  queued = λ w h. inl h;
  stays = λ w h. h;
  less = λ w. omega arith;
  work = omega arith;
}

-- one vertex is listed once, and no other
once : (w : ℕ) → count_by (λ x. x == w) (w ∷ []) ≡ 1
once w = (let same : (w == w) ≡ true = grind (arith, nat_tests) in omega (arith, sum_by-cons (λ x. cond (x == w) 1 0) w [], ap {B = ℕ} (λ b. cond b 1 0) same))

never : (w u : ℕ) → u ≢ w → count_by (λ x. x == u) (w ∷ []) ≡ 0
never w u ne = (let other : (w == u) ≡ false = grind (arith, nat_tests) in omega (arith, sum_by-cons (λ x. cond (x == u) 1 0) w [], ap {B = ℕ} (λ b. cond b 1 0) other))

-- a count that is not above the level does not fall
pub lowering_low : (level w : ℕ) (ends queue : List ℕ) → slice_index ends w ≤ level → IsLowering level (w ∷ []) ends ends queue queue
lowering_low level w ends queue low = record {
  long = refl;
  each = λ u h.
      elim (cases_eq u w) [
        | inl e ↦ omega (arith, h, low, ap (slice_index ends) e)
        | inr ne ↦ omega (arith, h, never w u ne)
      ];
  queued = λ u h. inl h;
  stays = λ u h. h;
  less = λ u. omega arith;
  work = omega arith;
}

module _ (level w : ℕ) (ends queue : List ℕ) (lt : w < length ends) (above : level < slice_index ends w) where
  lowered_at : slice_index (set ends w (slice_index ends w - 1)) w ≡ slice_index ends w - 1
  lowered_at = get_or-set_same ends w (slice_index ends w - 1) 0 lt

  lowered_else : (u : ℕ) → u ≢ w → slice_index (set ends w (slice_index ends w - 1)) u ≡ slice_index ends u
  lowered_else u ne = get_or-set_other ends w u (slice_index ends w - 1) 0 ne

  each_lowered : (u : ℕ) → level ≤ slice_index ends u → slice_index (set ends w (slice_index ends w - 1)) u ≡ max level (slice_index ends u - count_by (λ x. x == u) (w ∷ []))
  each_lowered u h =
      elim (cases_eq u w) [
        | inl e ↦ subst (λ x. slice_index (set ends w (slice_index ends w - 1)) x ≡ max level (slice_index ends x - count_by (λ y. y == x) (w ∷ []))) (sym e) (omega (arith, above, lowered_at, once w))
        | inr ne ↦ omega (arith, h, lowered_else u ne, never w u ne)
      ]

  less_lowered : (u : ℕ) → slice_index (set ends w (slice_index ends w - 1)) u ≤ slice_index ends u
  less_lowered u =
      elim (cases_eq u w) [
        | inl e ↦ subst (λ x. slice_index (set ends w (slice_index ends w - 1)) x ≤ slice_index ends x) (sym e) (omega (arith, lowered_at))
        | inr ne ↦ omega (arith, lowered_else u ne)
      ]

  sum_lowered : sum (set ends w (slice_index ends w - 1)) + slice_index ends w ≡ sum ends + (slice_index ends w - 1)
  sum_lowered = sum_by-set (λ x. x) ends w (slice_index ends w - 1) 0 lt

  pub lowering_one : IsLowering level (w ∷ []) ends (set ends w (slice_index ends w - 1)) queue queue
  lowering_one = record {
    long = length-set ends w (slice_index ends w - 1);
    each = each_lowered;
    queued = λ u h. inl h;
    stays = λ u h. h;
    less = less_lowered;
    work = omega (arith, sum_lowered);
  }

  -- it came down to the level, and is queued
  pub lowering_queued : slice_index ends w - 1 ≤ level → IsLowering level (w ∷ []) ends (set ends w (slice_index ends w - 1)) queue (queue ++ w ∷ [])
  lowering_queued here = record {
    long = length-set ends w (slice_index ends w - 1);
    each = each_lowered;
    queued = λ u h.
        elim (Contains-push_cases queue w u h) [
          | inl early ↦ inl early
          | inr e ↦ inr (subst (λ x. (x < length ends) × (slice_index (set ends w (slice_index ends w - 1)) x ≤ level)) e (lt, omega (arith, lowered_at, here)))
        ];
    stays = λ u h. Contains-append_left queue (w ∷ []) u h;
    less = less_lowered;
    work = omega (arith, sum_lowered, above, length_push queue w);
  }

module _ (level : ℕ) (xs ys : List ℕ) (old mid new : List ℕ) (before between after : List ℕ)
    (one : IsLowering level xs old mid before between) (two : IsLowering level ys mid new between after) where
  each_then : (w : ℕ) → level ≤ slice_index old w → slice_index new w ≡ max level (slice_index old w - count_by (λ x. x == w) (xs ++ ys))
  each_then w h =
      let first = one.each w h in
      let least : level ≤ slice_index mid w = omega (arith, first) in
      omega (arith, two.each w least, first, sum_by-append (λ x. cond (x == w) 1 0) xs ys)

  pub lowering_then : IsLowering level (xs ++ ys) old new before after
  lowering_then = record {
    long = two.long ∙ one.long;
    each = each_then;
    queued = λ w h.
        elim (two.queued w h) [
          | inl early ↦ elim (one.queued w early) [
            | inl first ↦ inl first
            | inr got ↦ inr (got.0, omega (arith, got.1, two.less w))
          ]
          | inr got ↦ inr (omega (arith, got.0, one.long), got.1)
        ];
    stays = λ w h. two.stays w (one.stays w h);
    less = λ w. omega (arith, two.less w, one.less w);
    work = omega (arith, two.work, one.work);
  }

-- it is enough to list the vertices whose counts are above the level
module _ (level : ℕ) (xs old new before after : List ℕ) (lowering : IsLowering level (filter (is_above old level) xs) old new before after) where
  each_listed : (w : ℕ) → level ≤ slice_index old w → slice_index new w ≡ max level (slice_index old w - count_by (λ x. x == w) xs)
  each_listed w h =
      elim (cases_lt level (slice_index old w)) [
        | inl more ↦ omega (arith, lowering.each w h, count_filtered (is_above old level) (λ x. x == w) (λ x q. let same : x ≡ w = grind (arith, nat_tests) in subst (λ y. is_above old level y ≡ true) (sym same) (lt-ltb level (slice_index old w) more)) xs)
        | inr low ↦ omega (arith, lowering.each w h, low, h)
      ]

  pub lowering_above : IsLowering level xs old new before after
  lowering_above = record { long = lowering.long; each = each_listed; queued = lowering.queued; stays = lowering.stays; less = lowering.less; work = lowering.work }

-- ---- vertices go one after another, and their neighbors' counts fall

pub numbered_more : (level : ℕ) (vs : List ℕ) (old new : List (Option ℕ)) (v : ℕ) → AreNumbered level old vs new → v < length new → core_of new v ≡ None → AreNumbered level old (vs ++ v ∷ []) (set new v (Some level))
numbered_more level [] old new v h lt free = subst (λ c. (v < length c) × (core_of c v ≡ None) × (set c v (Some level) ≡ set new v (Some level))) (sym h) (lt, free, refl)
numbered_more level (x ∷ vs) old new v h lt free = (h.0, h.1, numbered_more level vs (set old x (Some level)) new v h.2 lt free)

module _ (g : Digraph) (level : ℕ) where
  -- how often a vertex is a neighbor
  listed : (v w : ℕ) → count_by (λ x. x == w) (neighbors g v) ≡ count_by (λ p. (p.0 == v) && (p.1 == w)) g.edges + count_by (λ p. (p.1 == v) && (p.0 == w)) g.edges
  listed v w =
      omega (arith, sum_by-append (λ x. cond (x == w) 1 0) (map (λ (a : Arc). a.vertex) (out_arcs g v)) (map (λ (a : Arc). a.vertex) (in_arcs g v)), target_count g v w, source_count g v w)

  module _ (v : ℕ) (cores : List (Option ℕ)) (lt : v < length cores) (free : core_of cores v ≡ None) where
    gone : is_left (set cores v (Some level)) v ≡ false
    gone = ap is_none (number_at level v cores lt)

    others : (u : ℕ) → u ≢ v → is_left (set cores v (Some level)) u ≡ is_left cores u
    others u ne = ap is_none (number_else level v cores lt u ne)

    one_lost : (w : ℕ) → is_left (set cores v (Some level)) w ≡ true
        → (is_left cores w ≡ true) × (ends_inside g (is_left cores) w ≡ ends_inside g (is_left (set cores v (Some level))) w + count_by (λ x. x == w) (neighbors g v))
    one_lost w h =
        let apart : w ≢ v = λ e. false≢true (sym gone ∙ ap (is_left (set cores v (Some level))) (sym e) ∙ h) in
        let was : is_left cores w ≡ true = sym (others w apart) ∙ h in
        (was, omega (arith, listed v w, ends_lost g (is_left cores) (is_left (set cores v (Some level))) v w apart (none_left (core_of cores v) free) gone h others))

  -- what is left was left, and lost an edge end for each time that it is a neighbor
  all_lost : (vs : List ℕ) (old new : List (Option ℕ)) → AreNumbered level old vs new → (w : ℕ) → is_left new w ≡ true
      → (is_left old w ≡ true) × (ends_inside g (is_left old) w ≡ ends_inside g (is_left new) w + count_by (λ x. x == w) (flat_map (neighbors g) vs))
  all_lost [] old new h w l = subst (λ c. (is_left c w ≡ true) × (ends_inside g (is_left c) w ≡ ends_inside g (is_left new) w + 0)) (sym h) (l, omega arith)
  all_lost (v ∷ vs) old new h w l =
      let later = all_lost vs (set old v (Some level)) new h.2 w l in
      let first = one_lost v old h.0 h.1 w later.0 in
      (first.0, omega (arith, later.1, first.1, sum_by-append (λ x. cond (x == w) 1 0) (neighbors g v) (flat_map (neighbors g) vs)))

module _ (g : Digraph) (level : ℕ) (vs : List ℕ) (cores new : List (Option ℕ)) (ends ends' before after : List ℕ) (Kind : ℕ → Type 0) (peeling : IsPeeling g level cores ends)
    (turns : AreNumbered level cores vs new) (numbering : IsNumbering Kind level cores new) (low : (v : ℕ) → Kind v → slice_index ends v ≤ level)
    (lowering : IsLowering level (flat_map (neighbors g) vs) ends ends' before after) where
  counted_on : (w : ℕ) → is_left new w ≡ true → slice_index ends' w ≡ max level (ends_inside g (is_left new) w)
  counted_on w h =
      let lost = all_lost g level vs cores new turns w h in
      let was = peeling.counted w lost.0 in
      let least : level ≤ slice_index ends w = omega (arith, was) in
      omega (arith, lowering.each w least, was, lost.1)

  pub wave_peeled : IsPeeling g level new ends'
  wave_peeled = peeled g level cores new ends ends' Kind peeling numbering low (lowering.long ∙ peeling.counts) counted_on

-- ---- the start

pub first_peeling : (g : Digraph) (ends : List ℕ) → length ends ≡ g.vertices → ((v : ℕ) → v < g.vertices → is_left (replicate g.vertices None) v ≡ true → slice_index ends v ≡ ends_inside g (is_left (replicate g.vertices None)) v)
    → IsPeeling g 0 (replicate g.vertices None) ends
first_peeling g ends long each = record {
  long = length-replicate {A = Option ℕ} g.vertices None;
  counts = long;
  right = λ v k lt h. absurd (none-some k (sym (get_or-replicate g.vertices v None (Some 0) lt) ∙ h));
  counted = λ v h. let w = left_within (replicate g.vertices None) v h in omega (arith, each v (omega (arith, w, length-replicate {A = Option ℕ} g.vertices None)) h);
  deep = λ v h. record {
    set = is_left (replicate g.vertices None);
    vertices = λ u m. omega (arith, left_within (replicate g.vertices None) u m, length-replicate {A = Option ℕ} g.vertices None);
    holds = h;
    ends = λ u m. omega arith;
  };
  above = λ v k h more. none_left (core_of (replicate g.vertices None) v) (get_or-replicate g.vertices v None (Some 0) (h.vertices v h.holds));
}
