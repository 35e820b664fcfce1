-- distances up to a level, one level further, and at the end
use Rattle.std.proofs.Common.{◌≡◌, ◌≢◌, ℕ, zero, suc, ◌+◌, ◌<◌, ◌≤◌, ◌⊎◌, inl, inr, List, [], ◌∷◌, ◌++◌, Option, Some, None, length, get_or, set, replicate, refl, sym, ap, subst, ◌∙◌, arith, length-append, get_or-set_same, get_or-set_other}
use Rattle.std.specs.Prelude.{sum_by, Contains}
use Rattle.std.proofs.lemmas.Bool.{cases_lt, cases_eq}
use Rattle.std.proofs.lemmas.List.{length-set, length-replicate, get_or-replicate, get_or_past}
use Rattle.std.proofs.lemmas.List.Sums.{sum_by-le}
use Rattle.std.proofs.lemmas.List.Elements.{Contains-push, Contains-push_cases}
use Rattle.std.proofs.lemmas.Option.{none-some, same_Some}
use Rattle.std.proofs.Math.Nat.{mul-one}
use Rattle.algo_digraph.specs.Digraph.{Digraph, Goes, IsClosed}
use Rattle.algo_digraph.specs.Walks.{IsWalk, IsHopDistance}
use Rattle.algo_reach.specs.Marks.{mark_of, unmarked, HasSource, IsMarking, IsPulled}
use Rattle.algo_reach.proofs.Marking.{marked_within, marked_or_not}

module _ (g : Digraph) where
  -- a walk with one more edge at its end
  pub walk_push : (a u b e : ℕ) (es : List ℕ) → IsWalk g a es u → Goes g e u b → IsWalk g a (es ++ e ∷ []) b
  walk_push a u b e [] w h = (b, subst (λ x. Goes g e x b) (sym w) h, refl)
  walk_push a u b e (f ∷ es) w h = (w.0, w.1, walk_push w.0 u b e es w.2 h)

  -- the last edge of a walk
  pub last_edge : (k a b : ℕ) (es : List ℕ) → IsWalk g a es b → length es ≡ k + 1
      → (u : ℕ) × (e : ℕ) × (fs : List ℕ) × IsWalk g a fs u × (length fs ≡ k) × Goes g e u b
  last_edge k a b [] w n = absurd (omega arith)
  last_edge k a b (e ∷ []) w n = (a, e, [], refl, omega arith, subst (λ x. Goes g e a x) w.2 w.1)
  last_edge zero a b (e ∷ f ∷ es) w n = absurd (omega arith)
  last_edge (suc k) a b (e ∷ f ∷ es) w n =
      let r = last_edge k w.0 b (f ∷ es) w.2 (omega arith) in
      (r.0, r.1, e ∷ r.2, (w.0, w.1, r.3), omega (arith, r.4), r.5)

-- what is known of a vertex at a level
abbrev pub KnownWithin : Digraph → ℕ → ℕ → ℕ → Option ℕ → Type 0
KnownWithin g a k v None = (es : List ℕ) → IsWalk g a es v → k < length es
KnownWithin g a k v (Some d) = (d ≤ k) × IsHopDistance g a v (Some d)

abbrev pub AllKnown : Digraph → ℕ → ℕ → List (Option ℕ) → Type 0
AllKnown g a k seen = (v : ℕ) → v < g.vertices → KnownWithin g a k v (mark_of seen v)

module _ (g : Digraph) (closed : IsClosed g) (a k : ℕ) (seen : List (Option ℕ)) (known : AllKnown g a k seen) where
  -- a walk to a known vertex, and one edge more
  longer : (d u v e : ℕ) → IsHopDistance g a u (Some d) → Goes g e u v → (es : List ℕ) × IsWalk g a es v × (length es ≡ d + 1)
  longer d u v e h goes =
      let n = length-append h.0.0 (e ∷ []) in
      (h.0.0 ++ e ∷ [], walk_push g a u v e h.0.0 h.0.1 goes, omega (arith, n, h.0.2))

  -- no walk of k + 1 edges ends with an edge from a vertex that is not at the level
  none_from : (v u e : ℕ) (fs : List ℕ) (s : Option ℕ) → s ≢ Some k → KnownWithin g a k u s
      → ((es : List ℕ) → IsWalk g a es v → k < length es) → IsWalk g a fs u → length fs ≡ k → Goes g e u v → ⊥
  none_from v u e fs None ne h far w n goes = omega (arith, h fs w)
  none_from v u e fs (Some d) ne h far w n goes =
      elim (cases_lt d k) [
        | inl lt ↦ (let r = longer d u v e h.1 goes in omega (arith, far r.0 r.1, r.2))
        | inr ge ↦ (let q : d ≡ k = omega (arith, h.0) in ne (ap Some q))
      ]

  far_on : (v : ℕ) → v < g.vertices → KnownWithin g a k v None
      → ((e u : ℕ) → Goes g e u v → mark_of seen u ≢ Some k) → KnownWithin g a (k + 1) v None
  far_on v lt far none es w =
      elim (cases_lt (k + 1) (length es)) [
        | inl more ↦ more
        | inr le ↦ (let n : length es ≡ k + 1 = omega (arith, far es w) in
            let r = last_edge g k a v es w n in
            absurd (none_from v r.0 r.1 r.2 (mark_of seen r.0) (none r.1 r.0 r.5) (known r.0 (closed r.1 r.0 v r.5).0) far r.3 r.4 r.5))
      ]

  step_at : (v : ℕ) → v < g.vertices → (s r : Option ℕ) → KnownWithin g a k v s → IsPulled (HasSource g seen k v) (k + 1) s r → KnownWithin g a (k + 1) v r
  step_at v lt (Some d) r h n = subst (KnownWithin g a (k + 1) v) (sym n) (omega (arith, h.0), h.1)
  step_at v lt None None h n = far_on v lt h (λ e u goes at. n (e, u, goes, at))
  step_at v lt None (Some j) h n =
      let u = n.1.1 in
      let at = subst (KnownWithin g a k u) n.1.3 (known u (closed n.1.0 u v n.1.2).0) in
      let r = longer k u v n.1.0 at.1 n.1.2 in
      (omega (arith, n.0), ((r.0, r.1, omega (arith, n.0, r.2)), λ es w. omega (arith, n.0, h es w)))

  -- a level further: what one edge more reaches from the level is marked
  module _ (frontier next : List ℕ) (new : List (Option ℕ)) (marking : IsMarking (HasSource g seen k) (k + 1) seen new [] next)
      (here : (v : ℕ) → mark_of seen v ≡ Some k → Contains frontier v)
      (all : (e u w : ℕ) → Contains frontier u → Goes g e u w → mark_of new w ≢ None) where
    pulled_by : (v : ℕ) (r : Option ℕ) → mark_of new v ≡ r → (r ≡ None) ⊎ ((r ≡ Some (k + 1)) × HasSource g seen k v) → IsPulled (HasSource g seen k v) (k + 1) None r
    pulled_by v None is h = λ cause. all cause.0 cause.1 v (here cause.1 cause.3) cause.2 is
    pulled_by v (Some j) is (inl none) = cc
    pulled_by v (Some j) is (inr got) = (same_Some j (k + 1) got.0, got.1)

    pulled_at : (v : ℕ) (s : Option ℕ) → mark_of seen v ≡ s → IsPulled (HasSource g seen k v) (k + 1) s (mark_of new v)
    pulled_at v None is = pulled_by v (mark_of new v) refl (marking.fresh v is)
    pulled_at v (Some d) is = marking.kept v d is

    pub level_known : AllKnown g a (k + 1) new
    level_known v lt = step_at v lt (mark_of seen v) (mark_of new v) (known v lt) (pulled_at v (mark_of seen v) refl)

    -- the new level is what is marked with it
    top : (v d : ℕ) (s : Option ℕ) → s ≡ Some d → KnownWithin g a k v s → d ≤ k
    top v d None e h = cc
    top v d (Some j) e h = let same = same_Some j d e in omega (arith, h.0)

    free : (v d : ℕ) → v < g.vertices → mark_of new v ≡ Some (k + 1) → mark_of seen v ≡ Some d → ⊥
    free v d lt now had = let same = same_Some d (k + 1) (sym (marking.kept v d had) ∙ now) in omega (arith, top v d (mark_of seen v) had (known v lt))

    pub level_here : (v : ℕ) → Contains next v → mark_of new v ≡ Some (k + 1)
    level_here v h =
        elim (marking.listed v h) [
          | inl none ↦ absurd (omega (arith, none.1))
          | inr got ↦ got.2
        ]

    pub level_all : length seen ≡ g.vertices → (v : ℕ) → mark_of new v ≡ Some (k + 1) → Contains next v
    level_all long v now =
        let lt : v < g.vertices = omega (arith, marked_within new v (k + 1) now, marking.long) in
        elim (marked_or_not (mark_of seen v)) [
          | inl none ↦ marking.has v none now
          | inr had ↦ absurd (free v had.0 lt now had.1)
        ]

  -- where no vertex is at the level, all that a known vertex reaches is known
  module _ (none : (v : ℕ) → v < g.vertices → mark_of seen v ≢ Some k) where
    next_known : (u v e : ℕ) → Goes g e u v → (s r : Option ℕ) → s ≢ Some k → KnownWithin g a k u s → KnownWithin g a k v r → s ≢ None → r ≡ None → ⊥
    next_known u v e goes None r none' h far ne q = ne refl
    next_known u v e goes (Some d) (Some j) none' h far ne q = none-some j (sym q)
    next_known u v e goes (Some d) None none' h far ne q =
        elim (cases_lt d k) [
          | inl lt ↦ (let r = longer d u v e h.1 goes in omega (arith, far r.0 r.1, r.2))
          | inr ge ↦ (let p : d ≡ k = omega (arith, h.0) in none' (ap Some p))
        ]

    reach_known : (u v : ℕ) (es : List ℕ) → u < g.vertices → mark_of seen u ≢ None → IsWalk g u es v → mark_of seen v ≢ None
    reach_known u v [] lt ne w = subst (λ x. mark_of seen x ≢ None) w ne
    reach_known u v (e ∷ es) lt ne w =
        let in' = closed e u w.0 w.1 in
        reach_known w.0 v es in'.1
        (next_known u w.0 e w.1 (mark_of seen u) (mark_of seen w.0) (none u lt) (known u lt) (known w.0 in'.1) ne) w.2

    start_known : (s : Option ℕ) → KnownWithin g a k a s → s ≢ None
    start_known None h q = omega (arith, h [] refl)
    start_known (Some d) h q = none-some d (sym q)

    done_at : (v : ℕ) (r : Option ℕ) → KnownWithin g a k v r → ((es : List ℕ) → IsWalk g a es v → r ≢ None) → IsHopDistance g a v r
    done_at v None h any = λ es w. any es w refl
    done_at v (Some d) h any = h.1

    pub all_done : a < g.vertices → (v : ℕ) → v < g.vertices → IsHopDistance g a v (mark_of seen v)
    all_done start v lt =
        done_at v (mark_of seen v) (known v lt)
        (λ es w. reach_known a v es start (start_known (mark_of seen a) (known a start)) w)

-- no vertex has a mark at first
pub none_in : (n v : ℕ) → mark_of (replicate n None) v ≡ None
none_in n v =
    elim (cases_lt v n) [
      | inl lt ↦ get_or-replicate n v None None lt
      | inr past ↦ get_or_past (replicate n None) v None (omega (arith, length-replicate {A = Option ℕ} n None))
    ]

-- the opening list: the start at distance 0, and nothing else known
pub opening_len : (n a : ℕ) → length (set (replicate {A = Option ℕ} n None) a (Some 0)) ≡ n
opening_len n a = length-set (replicate {A = Option ℕ} n None) a (Some 0) ∙ length-replicate {A = Option ℕ} n None

module _ (g : Digraph) (a : ℕ) (lt : a < g.vertices) where
  zero_first : IsHopDistance g a a (Some 0)
  zero_first = (([], refl, refl), λ es w. omega arith)

  some_steps : (v : ℕ) (es : List ℕ) → (v ≡ a → ⊥) → IsWalk g a es v → 0 < length es
  some_steps v [] ne w = absurd (ne (sym w))
  some_steps v (e ∷ es) ne w = omega arith

  pub opening_known : (seen : List (Option ℕ)) → seen ≡ set (replicate g.vertices None) a (Some 0) → AllKnown g a 0 seen
  opening_known seen is v in' =
      subst (λ s. KnownWithin g a 0 v (mark_of s v)) (sym is)
      (elim (cases_eq v a) [
        | inl q ↦ (let at : mark_of (set (replicate g.vertices None) a (Some 0)) v ≡ Some 0
            = ap (λ k. mark_of (set (replicate g.vertices None) a (Some 0)) k) q ∙ get_or-set_same (replicate g.vertices None) a (Some 0) None (omega (arith, length-replicate {A = Option ℕ} g.vertices None)) in
            subst (λ s. KnownWithin g a 0 v s) (sym at) (omega arith, subst (λ x. IsHopDistance g a x (Some 0)) (sym q) zero_first))
        | inr ne ↦ (let at : mark_of (set (replicate g.vertices None) a (Some 0)) v ≡ None
            = get_or-set_other (replicate g.vertices None) a v (Some 0) None ne ∙ get_or-replicate g.vertices v None None in' in
            subst (λ s. KnownWithin g a 0 v s) (sym at) (λ es w. some_steps v es ne w))
      ])

-- how many vertices have no mark
unmarked_le : (s : Option ℕ) → unmarked s ≤ 1
unmarked_le None = omega arith
unmarked_le (Some k) = omega arith

pub count_le : (xs : List (Option ℕ)) → sum_by unmarked xs ≤ length xs
count_le xs = omega (arith, sum_by-le unmarked 1 xs (λ k d lt. unmarked_le (get_or xs k d)), mul-one (length xs))

-- the first level: the start alone
module _ (n a : ℕ) (lt : a < n) (seen : List (Option ℕ)) (is : seen ≡ set (replicate n None) a (Some 0)) where
  at_start : mark_of seen a ≡ Some 0
  at_start = ap (λ s. mark_of s a) is ∙ get_or-set_same (replicate n None) a (Some 0) None (omega (arith, length-replicate {A = Option ℕ} n None))

  not_elsewhere : (v : ℕ) → v ≢ a → mark_of seen v ≡ None
  not_elsewhere v ne = ap (λ s. mark_of s v) is ∙ get_or-set_other (replicate n None) a v (Some 0) None ne ∙ none_in n v

  pub opening_here : (v : ℕ) → Contains (a ∷ []) v → mark_of seen v ≡ Some 0
  opening_here v h =
      elim (Contains-push_cases [] a v h) [
        | inl none ↦ absurd (omega (arith, none.1))
        | inr e ↦ ap (mark_of seen) (sym e) ∙ at_start
      ]

  pub opening_all : (v : ℕ) → mark_of seen v ≡ Some 0 → Contains (a ∷ []) v
  opening_all v h =
      elim (cases_eq v a) [
        | inl e ↦ subst (Contains (a ∷ [])) (sym e) (Contains-push [] a)
        | inr ne ↦ absurd (none-some 0 (sym (not_elsewhere v ne) ∙ h))
      ]
