-- the ranks of all vertices together never pass the whole
use Rattle.std.proofs.Common.{◌≡◌, ◌≢◌, ℕ, zero, suc, ◌+◌, ◌*◌, ◌/◌, ◌<◌, ◌≤◌, ◌==◌, inl, inr, Bool, true, false, cond, if◌then◌else◌, List, [], ◌∷◌, All, length, map, replicate, slice_index, Some, refl, ap, sym, ◌∙◌, subst, arith}
use Rattle.std.specs.Prelude.{sum_by, sum, Contains}
use Rattle.std.specs.List.{range_with_len}
use Rattle.std.proofs.Math.Nat.{mul-div-le, mul_assoc}
use Rattle.std.proofs.lemmas.Bool.{cases_lt}
use native.Mathlib.Numerals.{add-one}
use Rattle.std.proofs.lemmas.Bool.Decides.{nat_tests}
use Rattle.std.proofs.lemmas.Option.{get_or_from_slice_get, slice_get_within, slice_get-get_or}
use Rattle.std.proofs.lemmas.List.{length-map, length-replicate, get_or-replicate, get_or_default}
use Rattle.std.proofs.lemmas.List.FromFn.{fill_by_all, length-range_with_len}
use Rattle.std.proofs.lemmas.List.Sums.{sum_by-cons, sum_by_push, sum-map, get_or-le-sum_by}
use Rattle.std.proofs.lemmas.List.Elements.{All-head, All-tail, All-weaker, All-contains_itself}
use Rattle.csr_rows.specs.Rows.{places_from}
use Rattle.csr_rows.proofs.Meaning.{place_of_end, end_of_place}
use Rattle.algo_digraph.specs.declared.arcs.Arc.{Arc}
use Rattle.algo_digraph.specs.Arcs.{arc, in_arcs}
use Rattle.algo_digraph.specs.Digraph.{Digraph, IsClosed, leaving, entering, source_of, target_of}
use Rattle.algo_digraph.proofs.ArcEdges.{goes}
use Rattle.algo_digraph.proofs.Edges.{range_more}
use Rattle.algo_digraph.proofs.Lists.{first_at, second_at}
use Rattle.algo_rank.specs.Ranks.{share_of, next_rank, rank_after, AreRanks}

-- ---- sums

pub sum_zero : {X : Type 0} (f : X → ℕ) (xs : List X) → ((x : X) → f x ≡ 0) → sum_by f xs ≡ 0
sum_zero f [] none = refl
sum_zero f (x ∷ xs) none = omega (arith, sum_by-cons f x xs, none x, sum_zero f xs none)

pub sum_const : {X : Type 0} (f : X → ℕ) (c : ℕ) (xs : List X) → All (λ x. f x ≡ c) xs → sum_by f xs ≡ length xs * c
sum_const f c [] all = omega arith
sum_const f c (x ∷ xs) all =
    let more : suc (length xs) * c ≡ length xs * c + c = omega arith in
    omega (arith, more, sum_by-cons f x xs, All-head (λ y. f y ≡ c) x xs all, sum_const f c xs (All-tail (λ y. f y ≡ c) x xs all))

sum_same : {X : Type 0} (f g : X → ℕ) (xs : List X) → All (λ x. f x ≡ g x) xs → sum_by f xs ≡ sum_by g xs
sum_same f g [] all = refl
sum_same f g (x ∷ xs) all =
    omega (arith, sum_by-cons f x xs, sum_by-cons g x xs, All-head (λ y. f y ≡ g y) x xs all, sum_same f g xs (All-tail (λ y. f y ≡ g y) x xs all))

sum_plus : {X : Type 0} (c : ℕ) (f : X → ℕ) (xs : List X) → sum_by (λ x. c + f x) xs ≡ length xs * c + sum_by f xs
sum_plus c f [] = omega arith
sum_plus c f (x ∷ xs) =
    let more : suc (length xs) * c ≡ length xs * c + c = omega arith in
    omega (arith, more, sum_by-cons (λ y. c + f y) x xs, sum_by-cons f x xs, sum_plus c f xs)

-- ---- each edge is in the row of one vertex

module _ (f : ℕ → ℕ) (first e : ℕ) (rest : ℕ → List ℕ) where
  abbrev rows : ℕ → List ℕ
  rows i = if e == i then first ∷ rest i else rest i

  picked : (b : Bool) (p : List ℕ) → sum_by f (if b then first ∷ p else p) ≡ cond b (f first) 0 + sum_by f p
  picked true p = sum_by-cons f first p
  picked false p = omega arith

  picks : (i : ℕ) (b : Bool) → (e == i) ≡ b → sum_by f (if b then first ∷ rest i else rest i) ≡ cond b (f first) 0 + sum_by f (rest i)
  picks i b is = picked b (rest i)

  at_end : (n : ℕ) → sum_by (λ i. sum_by f (rows i)) (range_with_len 0 (suc n)) ≡ sum_by (λ i. sum_by f (rows i)) (range_with_len 0 n) + sum_by f (rows n)
  at_end n =
      let more : suc n ≡ n + 1 = omega arith in
      ap (λ k. sum_by (λ i. sum_by f (rows i)) (range_with_len 0 k)) more
      ∙ ap (sum_by (λ i. sum_by f (rows i))) (range_more n) ∙ sum_by_push (λ i. sum_by f (rows i)) (range_with_len 0 n) n

  rest_end : (n : ℕ) → sum_by (λ i. sum_by f (rest i)) (range_with_len 0 (suc n)) ≡ sum_by (λ i. sum_by f (rest i)) (range_with_len 0 n) + sum_by f (rest n)
  rest_end n =
      let more : suc n ≡ n + 1 = omega arith in
      ap (λ k. sum_by (λ i. sum_by f (rest i)) (range_with_len 0 k)) more
      ∙ ap (sum_by (λ i. sum_by f (rest i))) (range_more n) ∙ sum_by_push (λ i. sum_by f (rest i)) (range_with_len 0 n) n

  other_row : (n : ℕ) (b : Bool) → (e == n) ≡ b → e ≢ n → sum_by f (rows n) ≡ sum_by f (rest n)
  other_row n true is ne = let same : e ≡ n = grind (arith, nat_tests) in absurd (ne same)
  other_row n false is ne = ap (λ (b : Bool). sum_by f (if b then first ∷ rest n else rest n)) is

  own_row : (n : ℕ) (b : Bool) → (e == n) ≡ b → e ≡ n → sum_by f (rows n) ≡ f first + sum_by f (rest n)
  own_row n true is same = ap (λ (b : Bool). sum_by f (if b then first ∷ rest n else rest n)) is ∙ sum_by-cons f first (rest n)
  own_row n false is same = let no : ⊥ = grind (arith, nat_tests) in absurd no

  before : (n : ℕ) → n ≤ e → sum_by (λ i. sum_by f (rows i)) (range_with_len 0 n) ≡ sum_by (λ i. sum_by f (rest i)) (range_with_len 0 n)
  before zero le = refl
  before (suc n) le = omega (arith, at_end n, rest_end n, before n (omega arith), other_row n (e == n) refl (λ same. omega arith))

  pub one_row : (n : ℕ) → e < n → sum_by (λ i. sum_by f (rows i)) (range_with_len 0 n) ≡ f first + sum_by (λ i. sum_by f (rest i)) (range_with_len 0 n)
  one_row zero lt = absurd (omega arith)
  one_row (suc n) lt =
      elim (cases_lt e n) [
        | inl less ↦ omega (arith, at_end n, rest_end n, one_row n less, other_row n (e == n) refl (λ same. omega arith))
        | inr ge ↦ (let same : e ≡ n = omega arith in omega (arith, at_end n, rest_end n, before n ge, own_row n (e == n) refl same))
      ]

-- a sum along all rows is the sum over all edges
pub sum_rows : (f : ℕ → ℕ) (n first : ℕ) (ends : List ℕ) → All (λ e. e < n) ends
    → sum_by (λ i. sum_by f (places_from first ends i)) (range_with_len 0 n) ≡ sum_by f (range_with_len first (length ends))
sum_rows f n first [] all = sum_zero (λ i. sum_by f []) (range_with_len 0 n) (λ i. refl)
sum_rows f n first (e ∷ ends) all =
    one_row f first e (places_from (first + 1) ends) n (All-head (λ k. k < n) e ends all)
    ∙ ap (λ k. f first + k) (sum_rows f n (first + 1) ends (All-tail (λ k. k < n) e ends all))
    ∙ sym (sum_by-cons f first (range_with_len (first + 1) (length ends)))

-- ---- a round keeps the whole

-- what a vertex hands on is no more than 85 hundredths of its rank
handed_by : (r d : ℕ) → 100 * (d * (85 * r / (100 * d))) ≤ 85 * r
handed_by r d =
    let q = 85 * r / (100 * d) in
    let turned : 100 * (d * q) ≡ 100 * d * q = sym (mul_assoc 100 d q) in
    omega (arith, turned, mul-div-le (85 * r) (100 * d))

module _ (g : Digraph) (rank : ℕ → ℕ) where
  -- what one edge hands on
  abbrev pub handed : ℕ → ℕ
  handed e = share_of g rank (source_of g e)

  leaves : (u e : ℕ) → Contains (leaving g u) e → source_of g e ≡ u
  leaves u e found = sym (first_at g.edges e) ∙ get_or_from_slice_get (map (λ p. p.0) g.edges) e u 0 (place_of_end (map (λ p. p.0) g.edges) u e found)

  by_one : (u : ℕ) → sum_by handed (leaving g u) ≡ length (leaving g u) * share_of g rank u
  by_one u =
      sum_const handed (share_of g rank u) (leaving g u)
      (All-weaker (Contains (leaving g u)) (λ e. handed e ≡ share_of g rank u) (λ e found. ap (share_of g rank) (leaves u e found)) (leaving g u) (All-contains_itself (leaving g u)))

  by_some : (us : List ℕ) → 100 * sum_by (λ u. sum_by handed (leaving g u)) us ≤ 85 * sum_by rank us
  by_some [] = omega arith
  by_some (u ∷ us) =
      omega (
        arith,
        sum_by-cons (λ v. sum_by handed (leaving g v)) u us,
        sum_by-cons rank u us,
        by_one u,
        handed_by (rank u) (length (leaving g u)),
        by_some us,
      )

  sources_in : IsClosed g → All (λ v. v < g.vertices) (map (λ p. p.0) g.edges)
  sources_in closed = λ e d lt.
      let within : e < length g.edges = omega (arith, lt, length-map g.edges (λ (p : ℕ × ℕ). p.0)) in
      subst (λ v. v < g.vertices) (sym (get_or_default (map (λ p. p.0) g.edges) e d 0 lt ∙ first_at g.edges e)) (closed e (source_of g e) (target_of g e) (goes g e within)).0

  targets_in : IsClosed g → All (λ v. v < g.vertices) (map (λ p. p.1) g.edges)
  targets_in closed = λ e d lt.
      let within : e < length g.edges = omega (arith, lt, length-map g.edges (λ (p : ℕ × ℕ). p.1)) in
      subst (λ v. v < g.vertices) (sym (get_or_default (map (λ p. p.1) g.edges) e d 0 lt ∙ second_at g.edges e)) (closed e (source_of g e) (target_of g e) (goes g e within)).1

  -- what comes in at all vertices is what goes out of all
  in_is_out : IsClosed g → sum_by (λ v. sum_by handed (entering g v)) (range_with_len 0 g.vertices) ≡ sum_by (λ u. sum_by handed (leaving g u)) (range_with_len 0 g.vertices)
  in_is_out closed =
      sum_rows handed g.vertices 0 (map (λ p. p.1) g.edges) (targets_in closed)
      ∙ ap (λ n. sum_by handed (range_with_len 0 n)) (length-map g.edges (λ (p : ℕ × ℕ). p.1) ∙ sym (length-map g.edges (λ (p : ℕ × ℕ). p.0)))
      ∙ sym (sum_rows handed g.vertices 0 (map (λ p. p.0) g.edges) (sources_in closed))

  own_by : (n : ℕ) → 100 * (n * (15 * 4294967296 / (100 * n))) ≤ 15 * 4294967296
  own_by n =
      let q = 15 * 4294967296 / (100 * n) in
      let turned : 100 * (n * q) ≡ 100 * n * q = sym (mul_assoc 100 n q) in
      omega (arith, turned, mul-div-le (15 * 4294967296) (100 * n))

  pub next_whole : IsClosed g → sum_by rank (range_with_len 0 g.vertices) ≤ 4294967296 → sum_by (next_rank g rank) (range_with_len 0 g.vertices) ≤ 4294967296
  next_whole closed all =
      omega (
        arith,
        all,
        sum_plus (15 * 4294967296 / (100 * g.vertices)) (λ v. sum_by handed (entering g v)) (range_with_len 0 g.vertices),
        length-range_with_len 0 g.vertices,
        ap (λ k. k * (15 * 4294967296 / (100 * g.vertices))) (length-range_with_len 0 g.vertices),
        own_by g.vertices,
        in_is_out closed,
        by_some (range_with_len 0 g.vertices),
      )

pub ranks_whole : (g : Digraph) (rounds : ℕ) → IsClosed g → sum_by (rank_after g rounds) (range_with_len 0 g.vertices) ≤ 4294967296
ranks_whole g zero closed =
    omega (
      arith,
      sum_const (rank_after g zero) (4294967296 / g.vertices) (range_with_len 0 g.vertices) (λ k d lt. refl),
      ap (λ k. k * (4294967296 / g.vertices)) (length-range_with_len 0 g.vertices),
      mul-div-le 4294967296 g.vertices,
    )
ranks_whole g (suc rounds) closed = next_whole g (rank_after g rounds) closed (ranks_whole g rounds closed)

-- ---- a list of ranks

module _ (g : Digraph) (rounds : ℕ) (ranks : List ℕ) (are : AreRanks g rounds ranks) where
  by_vertices : ranks ≡ map (rank_after g rounds) (range_with_len 0 g.vertices)
  by_vertices = fill_by_all (rank_after g rounds) ranks g.vertices 0 are.long are.each

  pub list_whole : IsClosed g → sum ranks ≤ 4294967296
  list_whole closed = omega (arith, ap sum by_vertices, sum-map (rank_after g rounds) (range_with_len 0 g.vertices), ranks_whole g rounds closed)

  pub one_whole : IsClosed g → (v : ℕ) → v < g.vertices → slice_index ranks v ≤ 4294967296
  one_whole closed v lt = omega (arith, list_whole closed, get_or-le-sum_by (λ (k : ℕ). k) ranks v 0 (omega (arith, lt, are.long)))

  -- the ranks of the next round, from these
  same_share : (u : ℕ) → u < g.vertices → share_of g (slice_index ranks) u ≡ share_of g (rank_after g rounds) u
  same_share u lt = ap (λ r. 85 * r / (100 * length (leaving g u))) (are.each u lt)

  entering_in : IsClosed g → (v : ℕ) → All (λ e. source_of g e < g.vertices) (entering g v)
  entering_in closed v =
      All-weaker (Contains (entering g v)) (λ e. source_of g e < g.vertices)
      (λ e found. (let within : e < length g.edges = omega (arith, slice_get_within (map (λ p. p.1) g.edges) e v (place_of_end (map (λ p. p.1) g.edges) v e found), length-map g.edges (λ (p : ℕ × ℕ). p.1)) in
      (closed e (source_of g e) (target_of g e) (goes g e within)).0)) (entering g v) (All-contains_itself (entering g v))

  pub next_same : IsClosed g → (v : ℕ) → next_rank g (slice_index ranks) v ≡ next_rank g (rank_after g rounds) v
  next_same closed v =
      ap (λ k. 15 * 4294967296 / (100 * g.vertices) + k)
      (sum_same (handed g (slice_index ranks)) (handed g (rank_after g rounds)) (entering g v)
      (All-weaker (λ e. source_of g e < g.vertices) (λ e. handed g (slice_index ranks) e ≡ handed g (rank_after g rounds) e) (λ e lt. same_share (source_of g e) lt) (entering g v) (entering_in closed v)))

  pub next_are : IsClosed g → (next : List ℕ) → length next ≡ g.vertices → ((v : ℕ) → v < g.vertices → slice_index next v ≡ next_rank g (slice_index ranks) v) → AreRanks g (rounds + 1) next
  next_are closed next long each = record {
    long = long;
    each = λ v lt. rw (add-one rounds) (each v lt ∙ next_same closed v);
  }

-- ---- what edges hand on, along the arcs of a vertex

sum_mapped : {X Y : Type 0} (f : Y → ℕ) (h : X → Y) (xs : List X) → sum_by f (map h xs) ≡ sum_by (λ x. f (h x)) xs
sum_mapped f h [] = refl
sum_mapped f h (x ∷ xs) = omega (arith, sum_by-cons f (h x) (map h xs), sum_by-cons (λ y. f (h y)) x xs, sum_mapped f h xs)

module _ (g : Digraph) (closed : IsClosed g) (ranks degrees shares : List ℕ) (each_degree : (u : ℕ) → u < g.vertices → slice_index degrees u ≡ length (leaving g u))
    (each_share : (u : ℕ) → u < g.vertices → 0 < slice_index degrees u → slice_index shares u ≡ 85 * slice_index ranks u / (100 * slice_index degrees u)) where
  -- an edge is one of those that leave its source
  leaves_source : (v e : ℕ) → Contains (entering g v) e → Contains (leaving g (source_of g e)) e
  leaves_source v e found =
      let within : e < length g.edges = omega (arith, slice_get_within (map (λ p. p.1) g.edges) e v (place_of_end (map (λ p. p.1) g.edges) v e found), length-map g.edges (λ (p : ℕ × ℕ). p.1)) in
      let there : e < length (map (λ p. p.0) g.edges) = omega (arith, within, length-map g.edges (λ (p : ℕ × ℕ). p.0)) in
      end_of_place (map (λ p. p.0) g.edges) (source_of g e) e (slice_get-get_or (map (λ p. p.0) g.edges) e 0 there ∙ ap Some (first_at g.edges e))

  source_in : (v e : ℕ) → Contains (entering g v) e → source_of g e < g.vertices
  source_in v e found =
      let within : e < length g.edges = omega (arith, slice_get_within (map (λ p. p.1) g.edges) e v (place_of_end (map (λ p. p.1) g.edges) v e found), length-map g.edges (λ (p : ℕ × ℕ). p.1)) in
      (closed e (source_of g e) (target_of g e) (goes g e within)).0

  share_is : (v e : ℕ) → Contains (entering g v) e → slice_index shares (source_of g e) ≡ share_of g (slice_index ranks) (source_of g e)
  share_is v e found =
      let u = source_of g e in
      let lt = source_in v e found in
      let degree = each_degree u lt in
      let some : 0 < slice_index degrees u = omega (arith, degree, (leaves_source v e found).1) in
      each_share u lt some ∙ ap (λ d. 85 * slice_index ranks u / (100 * d)) degree

  pub next_at : (v : ℕ) → 15 * 4294967296 / (100 * g.vertices) + sum_by (λ a. slice_index shares a.vertex) (in_arcs g v) ≡ next_rank g (slice_index ranks) v
  next_at v =
      ap (λ k. 15 * 4294967296 / (100 * g.vertices) + k)
      (sum_mapped (λ (a : Arc). slice_index shares a.vertex) (λ e. arc e (source_of g e)) (entering g v)
      ∙ sum_same (λ e. slice_index shares (source_of g e)) (λ e. share_of g (slice_index ranks) (source_of g e)) (entering g v)
      (All-weaker (Contains (entering g v)) (λ e. slice_index shares (source_of g e) ≡ share_of g (slice_index ranks) (source_of g e)) (λ e found. share_is v e found) (entering g v)
      (All-contains_itself (entering g v))))

-- ---- before the first round, and without vertices

pub start_are : (g : Digraph) (n : ℕ) (ranks : List ℕ) → n ≡ g.vertices → ranks ≡ replicate n (4294967296 / n) → AreRanks g 0 ranks
start_are g n ranks long is = record {
  long = ap length is ∙ length-replicate n (4294967296 / n) ∙ long;
  each = λ v lt. ap (λ xs. slice_index xs v) is ∙ get_or-replicate n v (4294967296 / n) 0 (omega (arith, lt, long)) ∙ ap (λ k. 4294967296 / k) long;
}

pub none_are : (g : Digraph) (rounds : ℕ) (ranks : List ℕ) → g.vertices ≡ 0 → ranks ≡ [] → AreRanks g rounds ranks
none_are g rounds ranks none is = record { long = ap length is ∙ sym none; each = λ v lt. absurd (omega (arith, lt, none)) }
