-- the search as a whole
use Rattle.std.proofs.Common.{◌≡◌, ◌≢◌, ℕ, ◌+◌, ◌<◌, ◌≤◌, ◌^◌, inl, inr, List, [], ◌∷◌, ◌++◌, Option, Some, None, ℤ, length, set, replicate, slice_index, refl, ap, sym, ◌∙◌, subst, arith, get_or-set_same, get_or-set_other}
use Rattle.std.specs.Prelude.{Contains}
use Rattle.std.proofs.lemmas.Bool.{cases_eq, cases_lt}
use Rattle.std.proofs.lemmas.List.{length-set, length-replicate, get_or-replicate, get_or_past}
use Rattle.std.proofs.lemmas.List.Sums.{sum_by-cons}
use Rattle.algo_digraph.specs.Digraph.{Digraph, Goes, IsClosed}
use Rattle.algo_digraph.specs.Walks.{IsWalk, IsLeastWeight, weight_of}
use Rattle.algo_paths.specs.Queue.{entry_of, IsPut, IsWave}
use Rattle.algo_paths.specs.Search.{IsRelaxed, IsCovered, IsProgress, IsSearch, IsTold}
use Rattle.algo_paths.proofs.Relaxing.{walk_then, weight_then}

-- ---- the start

module _ (n from : ℕ) (lt : from < n) where
  first : List ℕ
  first = set (replicate n (2 ^ 63)) from 0

  at_from : slice_index (set (replicate n (2 ^ 63)) from 0) from ≡ 0
  at_from = get_or-set_same (replicate n (2 ^ 63)) from 0 0 (omega (arith, length-replicate {A = ℕ} n (2 ^ 63)))

  far : (v : ℕ) → v ≢ from → v < n → slice_index (set (replicate n (2 ^ 63)) from 0) v ≡ 2 ^ 63
  far v ne inside = get_or-set_other (replicate n (2 ^ 63)) from v 0 0 ne ∙ get_or-replicate n v (2 ^ 63) 0 inside

  pub first_len : length (set (replicate {A = ℕ} n (2 ^ 63)) from 0) ≡ n
  first_len = length-set (replicate {A = ℕ} n (2 ^ 63)) from 0 ∙ length-replicate {A = ℕ} n (2 ^ 63)

  first_low : (v : ℕ) → slice_index (set (replicate n (2 ^ 63)) from 0) v ≤ 2 ^ 63
  first_low v =
      elim (cases_lt v n) [
        | inl inside ↦ elim (cases_eq v from) [
          | inl e ↦ (let z : slice_index (set (replicate n (2 ^ 63)) from 0) v ≡ 0 = ap (slice_index (set (replicate n (2 ^ 63)) from 0)) e ∙ at_from in omega (arith, z))
          | inr ne ↦ omega (arith, far v ne inside)
        ]
        | inr past ↦ (let z : slice_index (set (replicate n (2 ^ 63)) from 0) v ≡ 0 = get_or_past (set (replicate n (2 ^ 63)) from 0) v 0 (omega (arith, first_len)) in omega (arith, z))
      ]

module _ (g : Digraph) (weights : List ℕ) (from : ℕ) (lt : from < g.vertices) where
  is_from : (v : ℕ) → v < g.vertices → slice_index (set (replicate g.vertices (2 ^ 63)) from 0) v < 2 ^ 63 → v ≡ from
  is_from v inside small =
      elim (cases_eq v from) [
        | inl e ↦ e
        | inr ne ↦ absurd (omega (arith, small, far g.vertices from lt v ne inside))
      ]

  pub first_search : (best : List ℕ) (queue : List (ℕ × ℕ)) → best ≡ set (replicate g.vertices (2 ^ 63)) from 0 → IsPut (0, from) [] queue → IsSearch g weights from best queue
  first_search best queue is put =
      subst (λ b. IsSearch g weights from b queue) (sym is)
      (record {
        long = first_len g.vertices from lt;
        low = first_low g.vertices from lt;
        start = at_from g.vertices from lt;
        walks = λ v inside small. let e = is_from v inside small in
            ([], sym e, sym (ap (slice_index (set (replicate g.vertices (2 ^ 63)) from 0)) e ∙ at_from g.vertices from lt));
        queued = λ x h.
            elim (put.queued x h) [
              | inl none ↦ absurd (omega (arith, none.1))
              | inr e ↦ subst (λ y. y < g.vertices) (sym (ap (λ (p : ℕ × ℕ). p.1) e)) lt
            ];
        covered = λ v inside small. let e = is_from v inside small in
            let entry : entry_of (set (replicate g.vertices (2 ^ 63)) from 0) v ≡ (0, from) = ap (λ x. entry_of (set (replicate g.vertices (2 ^ 63)) from 0) x) e ∙ ap (λ b. (b, from)) (at_from g.vertices from lt) in
            inl (inl (subst (Contains queue) (sym entry) put.put));
      })

-- ---- one wave

module _ (g : Digraph) (weights : List ℕ) (from : ℕ) (best new wave : List ℕ) (queue before after : List (ℕ × ℕ))
    (search : IsSearch g weights from best queue) (start_in : from < g.vertices)
    (taken : IsWave best queue before wave)
    (progress : IsProgress g weights wave [] best new before after) where
  waiting : (v : ℕ) → IsCovered g weights best queue [] v → IsCovered g weights best before wave v
  waiting v (inl (inl entry)) = inl (taken.kept (entry_of best v) entry refl)
  waiting v (inl (inr none)) = absurd (omega (arith, none.1))
  waiting v (inr relaxed) = inr relaxed

  covered_on : (v : ℕ) → v < g.vertices → slice_index new v < 2 ^ 63 → IsCovered g weights new after [] v
  covered_on v lt small =
      elim (cases_lt (slice_index new v) (slice_index best v)) [
        | inl less ↦ progress.covered v lt (inr less)
        | inr same ↦ progress.covered v lt (inl (waiting v (search.covered v lt (omega (arith, small, same, progress.lower v)))))
      ]

  walk_on : (v : ℕ) → v < g.vertices → slice_index new v < 2 ^ 63 → ((u w : ℕ) (es : List ℕ) → w < g.vertices → IsWalk g u es w → u < g.vertices) → (es : List ℕ) × IsWalk g from es v × (weight_of weights es ≡ slice_index new v)
  walk_on v lt small starts =
      let h = progress.better v lt in
      let w = search.walks h.0 (starts h.0 v h.1 lt h.2) (omega (arith, h.3, small)) in
      (w.0 ++ h.1, walk_then g from h.0 v w.0 h.1 w.1 h.2, omega (arith, weight_then weights w.0 h.1, w.2, h.3))

  pub search_on : ((u w : ℕ) (es : List ℕ) → w < g.vertices → IsWalk g u es w → u < g.vertices) → IsSearch g weights from new after
  search_on starts = record {
    long = progress.long ∙ search.long;
    low = λ v. omega (arith, progress.lower v, search.low v);
    start = omega (arith, progress.lower from, search.start);
    walks = λ v lt small. walk_on v lt small starts;
    queued = λ x h.
        elim (progress.queued x h) [
          | inl early ↦ search.queued x (taken.left x early)
          | inr inside ↦ inside
        ];
    covered = covered_on;
  }

-- ---- the end

module _ (g : Digraph) (closed : IsClosed g) (weights : List ℕ) (from : ℕ) (best : List ℕ) (search : IsSearch g weights from best []) (start_in : from < g.vertices) where
  relaxed : (v : ℕ) → IsCovered g weights best [] [] v → IsRelaxed g weights best v
  relaxed v (inl (inl none)) = absurd (omega (arith, none.1))
  relaxed v (inl (inr none)) = absurd (omega (arith, none.1))
  relaxed v (inr done) = done

  all_relaxed : (v e w : ℕ) → v < g.vertices → Goes g e v w → slice_index best w ≤ slice_index best v + slice_index weights e
  all_relaxed v e w lt h =
      elim (cases_lt (slice_index best v) (2 ^ 63)) [
        | inl small ↦ relaxed v (search.covered v lt small) e w h
        | inr far ↦ omega (arith, far, search.low w)
      ]

  along : (u v : ℕ) (es : List ℕ) → u < g.vertices → IsWalk g u es v → slice_index best v ≤ slice_index best u + weight_of weights es
  along u v [] lt w = subst (λ x. slice_index best x ≤ slice_index best u + weight_of weights []) w (omega arith)
  along u v (e ∷ es) lt w =
      omega (arith, along w.0 v es (closed e u w.0 w.1).1 w.2, all_relaxed u e w.0 lt w.1, sum_by-cons (slice_index weights) e es)

  told_at : (v b : ℕ) (r : Option ℤ) → IsTold b r → (b < 2 ^ 63 → (es : List ℕ) × IsWalk g from es v × (weight_of weights es ≡ b))
      → ((es : List ℕ) → IsWalk g from es v → b ≤ weight_of weights es) → IsLeastWeight g weights from v r
  told_at v b None t walk least = λ es w. omega (arith, t, least es w)
  told_at v b (Some z) t walk least = subst (λ x. IsLeastWeight g weights from v (Some x)) (sym t.1) (t.0, walk t.0, least)

  pub least_told : (v : ℕ) (r : Option ℤ) → v < g.vertices → IsTold (slice_index best v) r → IsLeastWeight g weights from v r
  least_told v r lt t =
      told_at v (slice_index best v) r t (search.walks v lt) (λ es w. omega (arith, along from v es start_in w, search.start))
