-- counts of edge ends
use Rattle.std.proofs.Common.{◌≡◌, ◌≢◌, ℕ, ◌+◌, ◌<◌, ◌≤◌, All, Bool, true, false, cond, List, [], ◌∷◌, get_or, drop, length, map, refl, ap, sym, ◌∙◌, arith, if◌then◌else◌}
use Rattle.std.specs.Prelude.{count_by, filter, sum_by, ◌&&◌, ◌==◌}
use Rattle.std.proofs.lemmas.Bool.{and_parts, and_from, false≢true}
use Rattle.std.proofs.lemmas.Bool.Decides.{nat_tests}
use Rattle.std.proofs.lemmas.List.{get_or-drop, drop-drop}
use Rattle.std.proofs.lemmas.List.Sums.{sum_by-cons, count_by-le-length}
use Rattle.std.proofs.lemmas.List.Elements.{All-head, All-tail, All-weaker}
use Rattle.csr_rows.specs.Rows.{places_from, places_of}
use Rattle.algo_digraph.specs.declared.arcs.Arc.{Arc}
use Rattle.algo_digraph.specs.Digraph.{Digraph, IsClosed, leaving, entering, source_of, target_of}
use Rattle.algo_digraph.specs.Arcs.{arc, out_arcs, in_arcs}
use Rattle.algo_digraph.specs.Cores.{ends_inside, is_inside}
use Rattle.algo_digraph.proofs.ArcEdges.{out_ends, in_ends}

-- ---- tests that count the same, fewer, or in two parts

module _ {X : Type 0} (p q : X → Bool) where
  one_same : (x : X) → p x ≡ q x → cond {A = ℕ} (p x) 1 0 ≡ cond (q x) 1 0
  one_same x e = ap {B = ℕ} (λ b. cond b 1 0) e

  pub count_same : (xs : List X) → ((x : X) → p x ≡ q x) → count_by p xs ≡ count_by q xs
  count_same [] h = refl
  count_same (x ∷ xs) h =
      omega (arith, count_same xs h, one_same x (h x), sum_by-cons (λ y. cond (p y) 1 0) x xs, sum_by-cons (λ y. cond (q y) 1 0) x xs)

  one_le : (x : X) (b c : Bool) → p x ≡ b → q x ≡ c → (p x ≡ true → q x ≡ true) → cond (p x) 1 0 ≤ cond (q x) 1 0
  one_le x true true e f h = rw (e, f) (omega arith)
  one_le x true false e f h = absurd (false≢true (sym f ∙ h e))
  one_le x false c e f h = rw e (omega arith)

  pub count_fewer : (xs : List X) → ((x : X) → p x ≡ true → q x ≡ true) → count_by p xs ≤ count_by q xs
  count_fewer [] h = omega arith
  count_fewer (x ∷ xs) h =
      omega (arith, count_fewer xs h, one_le x (p x) (q x) refl refl (h x), sum_by-cons (λ y. cond (p y) 1 0) x xs, sum_by-cons (λ y. cond (q y) 1 0) x xs)

pub count_parts : {X : Type 0} (p q r : X → Bool) (xs : List X) → ((x : X) → cond {A = ℕ} (p x) 1 0 ≡ cond (q x) 1 0 + cond (r x) 1 0) → count_by p xs ≡ count_by q xs + count_by r xs
count_parts p q r [] h = refl
count_parts p q r (x ∷ xs) h =
    omega (arith, count_parts p q r xs h, h x, sum_by-cons (λ y. cond (p y) 1 0) x xs, sum_by-cons (λ y. cond (q y) 1 0) x xs, sum_by-cons (λ y. cond (r y) 1 0) x xs)

pub count_mapped : {X Y : Type 0} (p : Y → Bool) (f : X → Y) (xs : List X) → count_by p (map f xs) ≡ count_by (λ x. p (f x)) xs
count_mapped p f [] = refl
count_mapped p f (x ∷ xs) =
    sum_by-cons (λ y. cond (p y) 1 0) (f x) (map f xs) ∙ ap (λ k. cond (p (f x)) 1 0 + k) (count_mapped p f xs) ∙ sym (sum_by-cons (λ y. cond (p (f y)) 1 0) x xs)

-- ---- a count along a row is a count over all edges

module _ (full : List (ℕ × ℕ)) (f : ℕ × ℕ → ℕ) (t : ℕ × ℕ → Bool) (v : ℕ) where
  kept : (a : ℕ) (x : ℕ × ℕ) (xs : List (ℕ × ℕ)) (rest : List ℕ) (b c : Bool) → get_or full a (0, 0) ≡ x → (f x == v) ≡ b → t x ≡ c
      → count_by (λ e. t (get_or full e (0, 0))) rest ≡ count_by (λ p. (f p == v) && t p) xs
      → count_by (λ e. t (get_or full e (0, 0))) (if b then a ∷ rest else rest) ≡ count_by (λ p. (f p == v) && t p) (x ∷ xs)
  kept a x xs rest true c at sb tc ih =
      let one : cond {A = ℕ} (t (get_or full a (0, 0))) 1 0 ≡ cond c 1 0 = ap {B = ℕ} (λ y. cond (t y) 1 0) at ∙ ap {B = ℕ} (λ y. cond y 1 0) tc in
      let two : cond {A = ℕ} ((f x == v) && t x) 1 0 ≡ cond c 1 0 = ap {B = ℕ} (λ y. cond (y && t x) 1 0) sb ∙ ap {B = ℕ} (λ y. cond y 1 0) tc in
      sum_by-cons (λ e. cond (t (get_or full e (0, 0))) 1 0) a rest
      ∙ ap (λ k. k + sum_by (λ e. cond (t (get_or full e (0, 0))) 1 0) rest) (one ∙ sym two)
      ∙ ap (λ k. cond ((f x == v) && t x) 1 0 + k) ih
      ∙ sym (sum_by-cons (λ p. cond ((f p == v) && t p) 1 0) x xs)
  kept a x xs rest false c at sb tc ih =
      let none : cond {A = ℕ} ((f x == v) && t x) 1 0 ≡ 0 = ap {B = ℕ} (λ y. cond (y && t x) 1 0) sb in
      omega (arith, ih, none, sum_by-cons (λ p. cond ((f p == v) && t p) 1 0) x xs)

  counted_from : (xs : List (ℕ × ℕ)) (a : ℕ) → drop a full ≡ xs
      → count_by (λ e. t (get_or full e (0, 0))) (places_from a (map f xs) v) ≡ count_by (λ p. (f p == v) && t p) xs
  counted_from [] a h = refl
  counted_from (x ∷ xs) a h =
      let at : get_or full a (0, 0) ≡ x = ap (λ k. get_or full k (0, 0)) (omega arith) ∙ sym (get_or-drop a full 0 (0, 0)) ∙ ap (λ l. get_or l 0 (0, 0)) h in
      let next : drop (a + 1) full ≡ xs = sym (drop-drop 1 a full) ∙ ap (drop 1) h in
      kept a x xs (places_from (a + 1) (map f xs) v) (f x == v) (t x) at refl refl (counted_from xs (a + 1) next)

  pub row_count : count_by (λ e. t (get_or full e (0, 0))) (places_of (map f full) v) ≡ count_by (λ p. (f p == v) && t p) full
  row_count = counted_from full 0 refl

-- where a filter keeps all that a test passes, as many pass it
module _ {X : Type 0} (p q : X → Bool) (keeps : (x : X) → q x ≡ true → p x ≡ true) where
  kept_by : (x : X) (xs : List X) (b c : Bool) → p x ≡ b → q x ≡ c → count_by q (filter p xs) ≡ count_by q xs → count_by q (cond b (x ∷ filter p xs) (filter p xs)) ≡ count_by q (x ∷ xs)
  kept_by x xs true c e f ih = omega (arith, ih, sum_by-cons (λ y. cond (q y) 1 0) x (filter p xs), sum_by-cons (λ y. cond (q y) 1 0) x xs)
  kept_by x xs false true e f ih = absurd (false≢true (sym e ∙ keeps x f))
  kept_by x xs false false e f ih = omega (arith, ih, sum_by-cons (λ y. cond (q y) 1 0) x xs, ap {B = ℕ} (λ b. cond b 1 0) f)

  pub count_filtered : (xs : List X) → count_by q (filter p xs) ≡ count_by q xs
  count_filtered [] = refl
  count_filtered (x ∷ xs) = kept_by x xs (p x) (q x) refl refl (count_filtered xs)

first_in : (a b c : Bool) → (a ≡ true → b ≡ true) → (a && c) ≡ (a && (b && c))
first_in true true c h = refl
first_in true false c h = absurd (false≢true (h refl))
first_in false b c h = refl

last_in : (a b c : Bool) → (a ≡ true → c ≡ true) → (a && b) ≡ (a && (b && c))
last_in true true true h = refl
last_in true false true h = refl
last_in true b false h = absurd (false≢true (h refl))
last_in false b c h = refl

module _ (g : Digraph) (v : ℕ) where
  -- how often a vertex is a target of edges from v, or a source of edges to it
  pub target_count : (w : ℕ) → count_by (λ x. x == w) (map (λ (a : Arc). a.vertex) (out_arcs g v)) ≡ count_by (λ p. (p.0 == v) && (p.1 == w)) g.edges
  target_count w =
      count_mapped (λ x. x == w) (λ (a : Arc). a.vertex) (out_arcs g v)
      ∙ count_mapped (λ (a : Arc). a.vertex == w) (λ e. arc e (target_of g e)) (leaving g v)
      ∙ row_count g.edges (λ p. p.0) (λ p. p.1 == w) v

  pub source_count : (w : ℕ) → count_by (λ x. x == w) (map (λ (a : Arc). a.vertex) (in_arcs g v)) ≡ count_by (λ p. (p.1 == v) && (p.0 == w)) g.edges
  source_count w =
      count_mapped (λ x. x == w) (λ (a : Arc). a.vertex) (in_arcs g v)
      ∙ count_mapped (λ (a : Arc). a.vertex == w) (λ e. arc e (source_of g e)) (entering g v)
      ∙ row_count g.edges (λ p. p.1) (λ p. p.0 == w) v

  -- the edge ends of a member of a set, counted along its arcs
  module _ (set : ℕ → Bool) (in_set : set v ≡ true) where
    ahead : (p : ℕ × ℕ) → ((p.0 == v) && set p.1) ≡ ((p.0 == v) && is_inside set p)
    ahead p = first_in (p.0 == v) (set p.0) (set p.1) (λ e. let same : p.0 ≡ v = grind (arith, nat_tests) in ap set same ∙ in_set)

    behind : (p : ℕ × ℕ) → ((p.1 == v) && set p.0) ≡ ((p.1 == v) && is_inside set p)
    behind p = last_in (p.1 == v) (set p.0) (set p.1) (λ e. let same : p.1 ≡ v = grind (arith, nat_tests) in ap set same ∙ in_set)

    pub ends_by_arcs : count_by (λ a. set a.vertex) (out_arcs g v) + count_by (λ a. set a.vertex) (in_arcs g v) ≡ ends_inside g set v
    ends_by_arcs =
        omega (
          arith,
          count_mapped (λ (a : Arc). set a.vertex) (λ e. arc e (target_of g e)) (leaving g v),
          count_mapped (λ (a : Arc). set a.vertex) (λ e. arc e (source_of g e)) (entering g v),
          row_count g.edges (λ p. p.0) (λ p. set p.1) v,
          row_count g.edges (λ p. p.1) (λ p. set p.0) v,
          count_same (λ p. (p.0 == v) && set p.1) (λ p. (p.0 == v) && is_inside set p) g.edges ahead,
          count_same (λ p. (p.1 == v) && set p.0) (λ p. (p.1 == v) && is_inside set p) g.edges behind,
        )

-- ---- sets of vertices

-- a larger set has no fewer edge ends
module _ (g : Digraph) (small large : ℕ → Bool) (within : (u : ℕ) → small u ≡ true → large u ≡ true) where
  inside_larger : (p : ℕ × ℕ) → is_inside small p ≡ true → is_inside large p ≡ true
  inside_larger p h = let a = and_parts (small p.0) (small p.1) h in and_from (large p.0) (large p.1) (within p.0 a.0) (within p.1 a.1)

  pub more_ends : (v : ℕ) → ends_inside g small v ≤ ends_inside g large v
  more_ends v =
      omega (
        arith,
        count_fewer (λ p. (p.0 == v) && is_inside small p) (λ p. (p.0 == v) && is_inside large p) g.edges
            (λ p h. let a = and_parts (p.0 == v) (is_inside small p) h in and_from (p.0 == v) (is_inside large p) a.0 (inside_larger p a.1)),
        count_fewer (λ p. (p.1 == v) && is_inside small p) (λ p. (p.1 == v) && is_inside large p) g.edges
            (λ p h. let a = and_parts (p.1 == v) (is_inside small p) h in and_from (p.1 == v) (is_inside large p) a.0 (inside_larger p a.1)),
      )

with_true : (b : Bool) → cond {A = ℕ} b 1 0 ≡ cond (b && true) 1 0
with_true true = refl
with_true false = refl

with_false : (b : Bool) → 0 ≡ 0 + cond {A = ℕ} (b && false) 1 0
with_false true = refl
with_false false = refl

-- both members of an edge, the second of which is in both sets
second_in : (a b c : Bool) → cond {A = ℕ} a 1 0 ≡ cond b 1 0 + cond c 1 0 → cond {A = ℕ} (a && true) 1 0 ≡ cond (b && true) 1 0 + cond (c && true) 1 0
second_in true true true h = absurd (omega (arith, h))
second_in true true false h = refl
second_in true false true h = refl
second_in true false false h = absurd (omega (arith, h))
second_in false true c h = absurd (omega (arith, h))
second_in false false true h = absurd (omega (arith, h))
second_in false false false h = refl

-- a set without one of its vertices: another member's edge ends fall by the edges between the two
module _ (g : Digraph) (whole rest : ℕ → Bool) (v w : ℕ) (apart : w ≢ v) (in_v : whole v ≡ true) (out_v : rest v ≡ false) (in_w : rest w ≡ true)
    (others : (u : ℕ) → u ≢ v → rest u ≡ whole u) where
  lost : (x : ℕ) (b : Bool) → (x == v) ≡ b → cond {A = ℕ} (whole x) 1 0 ≡ cond (rest x) 1 0 + cond (x == v) 1 0
  lost x true e = (let same : x ≡ v = grind (arith, nat_tests) in rw (e, ap whole same ∙ in_v, ap rest same ∙ out_v) refl)
  lost x false e = (let other : x ≢ v = grind (arith, nat_tests) in rw (e, others x other) (omega arith))

  all_in : whole w ≡ true
  all_in = sym (others w apart) ∙ in_w

  ahead_lost : (p : ℕ × ℕ) (b : Bool) → (p.0 == w) ≡ b
      → cond {A = ℕ} ((p.0 == w) && is_inside whole p) 1 0 ≡ cond ((p.0 == w) && is_inside rest p) 1 0 + cond ((p.1 == v) && (p.0 == w)) 1 0
  ahead_lost p true e =
      let same : p.0 ≡ w = grind (arith, nat_tests) in
      rw (e, ap whole same ∙ all_in, ap rest same ∙ in_w) (lost p.1 (p.1 == v) refl ∙ ap {B = ℕ} (λ k. cond (rest p.1) 1 0 + k) (with_true (p.1 == v)))
  ahead_lost p false e = rw e (with_false (p.1 == v))

  behind_lost : (p : ℕ × ℕ) (b : Bool) → (p.1 == w) ≡ b
      → cond {A = ℕ} ((p.1 == w) && is_inside whole p) 1 0 ≡ cond ((p.1 == w) && is_inside rest p) 1 0 + cond ((p.0 == v) && (p.1 == w)) 1 0
  behind_lost p true e =
      let same : p.1 ≡ w = grind (arith, nat_tests) in
      rw (e, ap whole same ∙ all_in, ap rest same ∙ in_w) (second_in (whole p.0) (rest p.0) (p.0 == v) (lost p.0 (p.0 == v) refl))
  behind_lost p false e = rw e (with_false (p.0 == v))

  pub ends_lost : ends_inside g whole w ≡ ends_inside g rest w + (count_by (λ p. (p.1 == v) && (p.0 == w)) g.edges + count_by (λ p. (p.0 == v) && (p.1 == w)) g.edges)
  ends_lost =
      omega (
        arith,
        count_parts (λ p. (p.0 == w) && is_inside whole p) (λ p. (p.0 == w) && is_inside rest p) (λ p. (p.1 == v) && (p.0 == w)) g.edges (λ p. ahead_lost p (p.0 == w) refl),
        count_parts (λ p. (p.1 == w) && is_inside whole p) (λ p. (p.1 == w) && is_inside rest p) (λ p. (p.0 == v) && (p.1 == w)) g.edges (λ p. behind_lost p (p.1 == w) refl),
      )

-- a test that all pass
count_all : {X : Type 0} (p : X → Bool) (xs : List X) → All (λ x. p x ≡ true) xs → count_by p xs ≡ length xs
count_all p [] all = refl
count_all p (x ∷ xs) all =
    omega (
      arith,
      sum_by-cons (λ y. cond (p y) 1 0) x xs,
      ap {B = ℕ} (λ b. cond b 1 0) (All-head (λ y. p y ≡ true) x xs all),
      count_all p xs (All-tail (λ y. p y ≡ true) x xs all),
    )

-- in a set of all vertices the edge ends of each are all its arcs
pub all_inside : (g : Digraph) (set : ℕ → Bool) (v : ℕ) → IsClosed g → ((u : ℕ) → u < g.vertices → set u ≡ true) → v < g.vertices
    → length (out_arcs g v) + length (in_arcs g v) ≡ ends_inside g set v
all_inside g set v closed all lt =
    let outs : count_by (λ (a : Arc). set a.vertex) (out_arcs g v) ≡ length (out_arcs g v) =
    count_all (λ (a : Arc). set a.vertex) (out_arcs g v) (All-weaker (λ (a : Arc). a.vertex < g.vertices) (λ (a : Arc). set a.vertex ≡ true) (λ a h. all a.vertex h) (out_arcs g v) (out_ends g v closed)) in
    let ins : count_by (λ (a : Arc). set a.vertex) (in_arcs g v) ≡ length (in_arcs g v) =
    count_all (λ (a : Arc). set a.vertex) (in_arcs g v) (All-weaker (λ (a : Arc). a.vertex < g.vertices) (λ (a : Arc). set a.vertex ≡ true) (λ a h. all a.vertex h) (in_arcs g v) (in_ends g v closed)) in
    omega (arith, outs, ins, ends_by_arcs g v set (all v lt))

-- no vertex has more edge ends than all edges have
pub ends_few : (g : Digraph) (set : ℕ → Bool) (v : ℕ) → ends_inside g set v ≤ length g.edges + length g.edges
ends_few g set v = omega (arith, count_by-le-length (λ p. (p.0 == v) && is_inside set p) g.edges, count_by-le-length (λ p. (p.1 == v) && is_inside set p) g.edges)
