-- offers, relaxed vertices and waves
use Rattle.std.proofs.Common.{◌≡◌, ◌≢◌, ℕ, zero, suc, ◌+◌, ◌*◌, ◌<◌, ◌≤◌, ◌⊎◌, inl, inr, List, [], ◌∷◌, ◌++◌, length, drop, set, slice_index, refl, ap, sym, ◌∙◌, subst, arith, get_or-set_same, get_or-set_other}
use Rattle.std.specs.Prelude.{Contains, sum}
use Rattle.std.proofs.lemmas.Bool.{cases_eq, cases_lt}
use Rattle.std.proofs.lemmas.List.{length-set, get_or_past}
use Rattle.std.proofs.lemmas.List.Sums.{sum_by-cons, sum_by-set, sum_by-append}
use Rattle.std.proofs.Math.Seq.{drop-cons}
use Rattle.algo_digraph.specs.Digraph.{Digraph, Goes, IsClosed}
use Rattle.algo_digraph.specs.Walks.{IsWalk, weight_of}
use Rattle.algo_paths.specs.Queue.{entry_of, IsPut}
use Rattle.algo_paths.specs.Search.{IsRelaxed, IsCovered, ComesFrom, IsProgress, IsRelaxing, IsOffer, IsNextBest}

-- ---- lists with one item before the others

pub here_or_there : {X : Type 0} (y x : X) (xs : List X) → Contains (y ∷ xs) x → (y ≡ x) ⊎ Contains xs x
here_or_there y x xs (zero, lt, at) = inl at
here_or_there y x xs (suc k, lt, at) = inr (k, omega arith, at)

-- ---- an offer

pub offer_refused : (w weight : ℕ) (best : List ℕ) (queue : List (ℕ × ℕ)) → slice_index best w ≤ weight → IsOffer w weight best best queue queue
offer_refused w weight best queue le = record {
  long = refl;
  lower = λ u. omega arith;
  taken = le;
  better = λ u. inl refl;
  stays = λ x h. h;
  queued = λ x h. inl h;
  work = omega arith;
}

module _ (w weight : ℕ) (best : List ℕ) (before after : List (ℕ × ℕ)) (lt : w < length best) (less : weight < slice_index best w)
    (put : IsPut (weight, w) before after) where
  at_w : slice_index (set best w weight) w ≡ weight
  at_w = get_or-set_same best w weight 0 lt

  at_other : (u : ℕ) → u ≢ w → slice_index (set best w weight) u ≡ slice_index best u
  at_other u ne = get_or-set_other best w u weight 0 ne

  entry : Contains after (entry_of (set best w weight) w)
  entry =
      let same : entry_of (set best w weight) w ≡ (weight, w) = ap (λ b. (b, w)) at_w in
      subst (Contains after) (sym same) put.put

  lower_at : (u : ℕ) → slice_index (set best w weight) u ≤ slice_index best u
  lower_at u =
      elim (cases_eq u w) [
        | inl e ↦ (let same : slice_index (set best w weight) u ≡ weight = ap (slice_index (set best w weight)) e ∙ at_w in
            let was : slice_index best u ≡ slice_index best w = ap (slice_index best) e in omega arith)
        | inr ne ↦ omega (arith, at_other u ne)
      ]

  better_at : (u : ℕ) → (slice_index (set best w weight) u ≡ slice_index best u)
      ⊎ (Contains after (entry_of (set best w weight) u) × (u ≡ w) × (slice_index (set best w weight) u ≡ weight))
  better_at u =
      elim (cases_eq u w) [
        | inl e ↦ inr (subst (λ x. Contains after (entry_of (set best w weight) x)) (sym e) entry, e, ap (slice_index (set best w weight)) e ∙ at_w)
        | inr ne ↦ inl (at_other u ne)
      ]

  pub offer_taken : IsOffer w weight best (set best w weight) before after
  offer_taken = record {
    long = length-set best w weight;
    lower = lower_at;
    taken = omega (arith, at_w);
    better = better_at;
    stays = put.stays;
    queued = λ x h.
        elim (put.queued x h) [
          | inl old ↦ inl old
          | inr e ↦ inr (ap (λ (y : ℕ × ℕ). y.1) e)
        ];
    work = omega (arith, put.long, sum_by-set (λ x. x) best w weight 0 lt, less);
  }

-- ---- a vertex that is relaxed, edge by edge

pub relaxing_none : (g : Digraph) (weights : List ℕ) (v : ℕ) (best : List ℕ) (queue : List (ℕ × ℕ)) → IsRelaxing g weights v best best queue queue
relaxing_none g weights v best queue = record {
  long = refl;
  lower = λ w. omega arith;
  better = λ w. inl refl;
  stays = λ x h. h;
  queued = λ x h. inl h;
  work = omega arith;
}

module _ (g : Digraph) (weights : List ℕ) (v e w weight : ℕ) (old mid new : List ℕ) (before between after : List (ℕ × ℕ))
    (sofar : IsRelaxing g weights v old mid before between) (one : IsOffer w weight mid new between after)
    (goes : Goes g e v w) (closed : IsClosed g) (is : weight ≡ slice_index old v + slice_index weights e) where
  better_one : (u : ℕ) → (slice_index new u ≡ slice_index mid u) ⊎ (Contains after (entry_of new u) × (u ≡ w) × (slice_index new u ≡ weight))
      → (slice_index mid u ≡ slice_index old u) ⊎ (Contains between (entry_of mid u) × ((d : ℕ) × Goes g d v u × (slice_index mid u ≡ slice_index old v + slice_index weights d)))
      → (slice_index new u ≡ slice_index old u) ⊎ (Contains after (entry_of new u) × ((d : ℕ) × Goes g d v u × (slice_index new u ≡ slice_index old v + slice_index weights d)))
  better_one u (inr now) was = inr (now.0, (e, subst (λ x. Goes g e v x) (sym now.1) goes, now.2 ∙ is))
  better_one u (inl same) (inl still) = inl (same ∙ still)
  better_one u (inl same) (inr got) =
      let entry = subst (λ b. Contains after (b, u)) (sym same) (one.stays (entry_of mid u) got.0) in
      inr (entry, (got.1.0, got.1.1, same ∙ got.1.2))

  pub relaxing_more : IsRelaxing g weights v old new before after
  relaxing_more = record {
    long = one.long ∙ sofar.long;
    lower = λ u. omega (arith, one.lower u, sofar.lower u);
    better = λ u. better_one u (one.better u) (sofar.better u);
    stays = λ x h. one.stays x (sofar.stays x h);
    queued = λ x h.
        elim (one.queued x h) [
          | inl early ↦ sofar.queued x early
          | inr at ↦ inr (subst (λ y. y < g.vertices) (sym at) (closed e v w goes).1)
        ];
    work = omega (arith, one.work, sofar.work);
  }

-- ---- a wave, vertex by vertex

pub progress_none : (g : Digraph) (weights wave best : List ℕ) (queue : List (ℕ × ℕ)) → IsProgress g weights wave wave best best queue queue
progress_none g weights wave best queue = record {
  long = refl;
  lower = λ w. omega arith;
  better = λ w lt. (w, [], refl, omega arith);
  covered = λ v lt h.
      elim h [
        | inl was ↦ was
        | inr less ↦ absurd (omega (arith, less))
      ];
  queued = λ x h. inl h;
  work = omega arith;
}

-- one item fewer
pub drop_more : (xs : List ℕ) (i : ℕ) → i < length xs → drop i xs ≡ slice_index xs i ∷ drop (i + 1) xs
drop_more xs i lt = drop-cons xs i 0 lt ∙ ap (λ k. slice_index xs i ∷ drop k xs) (let e : suc i ≡ i + 1 = omega arith in e)

-- walks one after another
pub walk_then : (g : Digraph) (a b c : ℕ) (es fs : List ℕ) → IsWalk g a es b → IsWalk g b fs c → IsWalk g a (es ++ fs) c
walk_then g a b c [] fs w x = subst (λ y. IsWalk g y fs c) (sym w) x
walk_then g a b c (e ∷ es) fs w x = (w.0, w.1, walk_then g w.0 b c es fs w.2 x)

pub weight_then : (weights es fs : List ℕ) → weight_of weights (es ++ fs) ≡ weight_of weights es + weight_of weights fs
weight_then weights es fs = sum_by-append (slice_index weights) es fs

-- a weight of a weight is a weight
pub comes_then : (g : Digraph) (weights old mid : List ℕ) (w r : ℕ) → ((u : ℕ) → u < g.vertices → ComesFrom g weights old u (slice_index mid u))
    → ((u : ℕ) (es : List ℕ) → w < g.vertices → IsWalk g u es w → u < g.vertices) → w < g.vertices → ComesFrom g weights mid w r → ComesFrom g weights old w r
comes_then g weights old mid w r first starts lt h =
    let f = first h.0 (starts h.0 h.1 lt h.2) in (
      f.0,
      f.1 ++ h.1,
      walk_then g f.0 h.0 w f.1 h.1 f.2 h.2,
      omega (arith, h.3, f.3, weight_then weights f.1 h.1),
    )

-- a walk to a vertex starts at a vertex
pub starts_in : (g : Digraph) → IsClosed g → (u w : ℕ) (es : List ℕ) → w < g.vertices → IsWalk g u es w → u < g.vertices
starts_in g closed u w [] lt h = subst (λ x. x < g.vertices) (sym h) lt
starts_in g closed u w (e ∷ es) lt h = (closed e u h.0 h.1).0

module _ (g : Digraph) (closed : IsClosed g) (weights : List ℕ) (v : ℕ) (rest : List ℕ) (old new : List ℕ) (before after : List (ℕ × ℕ))
    (one : IsRelaxing g weights v old new before after)
    (done : (e w : ℕ) → Goes g e v w → slice_index new w ≤ slice_index old v + slice_index weights e) where
  comes : (w : ℕ) → (slice_index new w ≡ slice_index old w)
      ⊎ (Contains after (entry_of new w) × ((e : ℕ) × Goes g e v w × (slice_index new w ≡ slice_index old v + slice_index weights e)))
      → ComesFrom g weights old w (slice_index new w)
  comes w (inl same) = (w, [], refl, omega (arith, same))
  comes w (inr got) = (v, got.1.0 ∷ [], (w, got.1.1, refl), omega (arith, got.1.2, sum_by-cons (slice_index weights) got.1.0 []))

  -- its own weight stays, since weights of edges are not negative
  own_stays : (slice_index new v ≡ slice_index old v)
      ⊎ (Contains after (entry_of new v) × ((e : ℕ) × Goes g e v v × (slice_index new v ≡ slice_index old v + slice_index weights e)))
      → slice_index new v ≡ slice_index old v
  own_stays (inl same) = same
  own_stays (inr got) = omega (arith, got.1.2, one.lower v)

  waits : (u : ℕ) → slice_index new u ≡ slice_index old u → IsCovered g weights old before (v ∷ rest) u → IsCovered g weights new after rest u
  waits u same (inl (inl entry)) = inl (inl (subst (λ b. Contains after (b, u)) (sym same) (one.stays (entry_of old u) entry)))
  waits u same (inl (inr wave)) =
      elim (here_or_there v u rest wave) [
        | inl e ↦ inr (subst (IsRelaxed g weights new) e (λ d w h. omega (arith, done d w h, own_stays (one.better v))))
        | inr later ↦ inl (inr later)
      ]
  waits u same (inr relaxed) = inr (λ d w h. omega (arith, relaxed d w h, one.lower w, same))

  cover : (u : ℕ) → (slice_index new u ≡ slice_index old u)
      ⊎ (Contains after (entry_of new u) × ((e : ℕ) × Goes g e v u × (slice_index new u ≡ slice_index old v + slice_index weights e)))
      → IsCovered g weights old before (v ∷ rest) u ⊎ (slice_index new u < slice_index old u) → IsCovered g weights new after rest u
  cover u (inr got) h = inl (inl got.0)
  cover u (inl same) (inl was) = waits u same was
  cover u (inl same) (inr less) = absurd (omega (arith, same, less))

  pub progress_one : IsProgress g weights (v ∷ rest) rest old new before after
  progress_one = record {
    long = one.long;
    lower = one.lower;
    better = λ w lt. comes w (one.better w);
    covered = λ u lt h. cover u (one.better u) h;
    queued = one.queued;
    work = one.work;
  }

module _ (g : Digraph) (closed : IsClosed g) (weights : List ℕ) (wave between_wave left : List ℕ) (old mid new : List ℕ) (before between after : List (ℕ × ℕ))
    (one : IsProgress g weights wave between_wave old mid before between) (two : IsProgress g weights between_wave left mid new between after) where
  cover_then : (v : ℕ) → v < g.vertices → IsCovered g weights old before wave v ⊎ (slice_index new v < slice_index old v) → IsCovered g weights new after left v
  cover_then v lt (inl was) = two.covered v lt (inl (one.covered v lt (inl was)))
  cover_then v lt (inr less) =
      elim (cases_lt (slice_index mid v) (slice_index old v)) [
        | inl early ↦ two.covered v lt (inl (one.covered v lt (inr early)))
        | inr ge ↦ two.covered v lt (inr (omega (arith, less, one.lower v)))
      ]

  pub progress_then : IsProgress g weights wave left old new before after
  progress_then = record {
    long = two.long ∙ one.long;
    lower = λ w. omega (arith, two.lower w, one.lower w);
    better = λ w lt. comes_then g weights old mid w (slice_index new w) one.better (λ u es l h. starts_in g closed u w es l h) lt (two.better w lt);
    covered = cover_then;
    queued = λ x h.
        elim (two.queued x h) [
          | inl early ↦ one.queued x early
          | inr lt ↦ inr lt
        ];
    work = omega (arith, two.work, one.work);
  }

-- ---- a wave at once

module _ (g : Digraph) (weights : List ℕ) (wave : List ℕ) (old new : List ℕ) (before after : List (ℕ × ℕ)) (olds : length old ≡ g.vertices) (news : length new ≡ g.vertices)
    (each : (v : ℕ) → v < g.vertices → IsNextBest g weights old v (slice_index new v)) where
  pub round_lower : (w : ℕ) → slice_index new w ≤ slice_index old w
  round_lower w =
      elim (cases_lt w g.vertices) [
        | inl lt ↦ (each w lt).own
        | inr past ↦ (let none : slice_index new w ≡ 0 = get_or_past new w 0 (omega (arith, news)) in omega (arith, none))
      ]

  round_comes : (w : ℕ) → (slice_index new w ≡ slice_index old w) ⊎ ((e : ℕ) × (u : ℕ) × Goes g e u w × (slice_index new w ≡ slice_index old u + slice_index weights e))
      → ComesFrom g weights old w (slice_index new w)
  round_comes w (inl same) = (w, [], refl, omega (arith, same))
  round_comes w (inr got) = (got.1, got.0 ∷ [], (w, got.2, refl), omega (arith, got.3, sum_by-cons (slice_index weights) got.0 []))

  module _ (closed : IsClosed g) (better : (v : ℕ) → slice_index new v < slice_index old v → Contains after (entry_of new v))
      (queued : (x : ℕ × ℕ) → Contains after x → Contains before x ⊎ (x.1 < g.vertices))
      (work : 2 * sum new + length after ≤ 2 * sum old + length before) where
    round_cover : (v : ℕ) → IsCovered g weights new after [] v
    round_cover v =
        elim (cases_lt (slice_index new v) (slice_index old v)) [
          | inl less ↦ inl (inl (better v less))
          | inr same ↦ inr (λ e w h. omega (arith, (each w (closed e v w h).1).least e v h, same))
        ]

    pub progress_round : IsProgress g weights wave [] old new before after
    progress_round = record {
      long = news ∙ sym olds;
      lower = round_lower;
      better = λ w lt. round_comes w (each w lt).some;
      covered = λ v lt h. round_cover v;
      queued = queued;
      work = work;
    }
