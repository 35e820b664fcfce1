-- what several threads found
use Rattle.std.proofs.Common.{◌≡◌, ℕ, zero, suc, ◌+◌, ◌*◌, ◌/◌, ◌%◌, ◌<◌, ◌≤◌, inl, inr, min, All, List, [], ◌∷◌, ◌++◌, length, map, take, drop, get_or, ap, sym, ◌∙◌, subst, arith}
use Rattle.std.specs.Prelude.{filter, flat_map, Result, Ok, Err, IsOk, IfOk}
use Rattle.std.specs.Fork.{slice_chunk}
use Rattle.std.proofs.lemmas.Bool.{cases_lt, false≢true}
use Rattle.std.proofs.lemmas.Nat.{div-add-mod', mod_below}
use Rattle.std.proofs.lemmas.List.{flat_map_more, take_all, take_more, take-append-drop, take-take, drop-take}
use Rattle.std.proofs.lemmas.List.Concat.{flat_map-append}
use Rattle.std.proofs.lemmas.List.Elements.{All-append, All-filter, All-map, filter-append}
use native.Mathlib.Nat.{add-mul, one-mul, suc-mul, zero-mul}
use native.Mathlib.Numerals.{add-one}
use Rattle.algo_digraph.specs.declared.arcs.Arc.{Arc}
use Rattle.algo_digraph.specs.Digraph.{Digraph, IsClosed}
use Rattle.algo_digraph.specs.Arcs.{out_arcs, in_arcs}
use Rattle.algo_digraph.proofs.ArcEdges.{out_ends, in_ends}
use Rattle.algo_core.specs.Peeling.{falling, found_in, is_above, neighbors}

-- ---- what the parts of a list give, one after another, is what the whole list gives

-- so many parts reach to the end
covered : (count len size : ℕ) → 0 < size → count ≡ len / size + min 1 (len % size) → len ≤ count * size
covered count len size some is =
    let whole : len / size * size + len % size ≡ len = div-add-mod' len size in
    let rest : len % size < size = mod_below len size some in
    elim (cases_lt 0 (len % size)) [
      | inl more ↦ (let e : count ≡ len / size + 1 = omega (arith, is, more) in omega (arith, whole, rest, ap (λ n. n * size) e ∙ add-mul (len / size) 1 size, one-mul size))
      | inr none ↦ (let e : count ≡ len / size = omega (arith, is, none) in omega (arith, whole, none, ap (λ n. n * size) e))
    ]

parts : {X : Type 0} (n m : ℕ) (xs : List X) → take n xs ++ take m (drop n xs) ≡ take (n + m) xs
parts n m xs =
    ap (λ ys. ys ++ take m (drop n xs)) (sym (take-take n (n + m) xs (omega arith)))
    ∙ ap (λ ys. take n (take (n + m) xs) ++ ys) (sym (drop-take n m xs))
    ∙ take-append-drop n (take (n + m) xs)

module _ {R : Type 0} (f : List ℕ → List ℕ) (none : f [] ≡ []) (splits : (xs ys : List ℕ) → f (xs ++ ys) ≡ f xs ++ f ys) (give : R → List ℕ) (d : R) (size : ℕ)
    (xs : List ℕ) (rs : List R) (each : (n : ℕ) → n < length rs → give (get_or rs n d) ≡ f (slice_chunk xs size n)) where
  so_far : (n : ℕ) → n ≤ length rs → flat_map give (take n rs) ≡ f (take (n * size) xs)
  so_far zero l = sym (ap (λ k. f (take k xs)) (zero-mul size) ∙ none)
  so_far (suc n) l =
      ap (λ k. flat_map give (take k rs)) (sym (add-one n))
      ∙ ap (flat_map give) (take_more rs n d (omega arith))
      ∙ sym (flat_map_more give [] (take n rs) (get_or rs n d))
      ∙ ap (λ ys. ys ++ give (get_or rs n d)) (so_far n (omega arith))
      ∙ ap (λ ys. f (take (n * size) xs) ++ ys) (each n (omega arith))
      ∙ sym (splits (take (n * size) xs) (slice_chunk xs size n))
      ∙ ap f (parts (n * size) size xs)
      ∙ ap (λ k. f (take k xs)) (sym (suc-mul n size))

  pub chunks_flat : 0 < size → length rs ≡ length xs / size + min 1 (length xs % size) → flat_map give rs ≡ f xs
  chunks_flat some count =
      sym (ap (flat_map give) (take_all (length rs) rs (omega arith)))
      ∙ so_far (length rs) (omega arith)
      ∙ ap f (take_all (length rs * size) xs (covered (length rs) (length xs) size some count))

-- ---- results

pub found_is : {E : Type 0} (r : Result (List ℕ) E) (ys : List ℕ) → IsOk r → IfOk r (λ xs. xs ≡ ys) → found_in r ≡ ys
found_is (Ok xs) ys ok h = h
found_is (Err e) ys ok h = absurd (false≢true ok)

pub found_all : {E : Type 0} (P : ℕ → Type 0) (r : Result (List ℕ) E) (ys : List ℕ) → IfOk r (λ xs. xs ≡ ys) → All P ys → All P (found_in r)
found_all P (Ok xs) ys h all = subst (All P) (sym h) all
found_all P (Err e) ys h all = λ i d lt. absurd (omega (arith, lt))

-- ---- the neighbors of a list of vertices

module _ (g : Digraph) (ends : List ℕ) (level : ℕ) where
  pub falling_splits : (xs ys : List ℕ) → falling g ends level (xs ++ ys) ≡ falling g ends level xs ++ falling g ends level ys
  falling_splits xs ys =
      ap (filter (is_above ends level)) (flat_map-append (neighbors g) xs ys) ∙ filter-append (is_above ends level) (flat_map (neighbors g) xs) (flat_map (neighbors g) ys)

module _ (g : Digraph) (closed : IsClosed g) where
  neighbors_in : (v : ℕ) → All (λ w. w < g.vertices) (neighbors g v)
  neighbors_in v =
      All-append (λ w. w < g.vertices) (map (λ (a : Arc). a.vertex) (out_arcs g v)) (map (λ (a : Arc). a.vertex) (in_arcs g v))
      (All-map (λ w. w < g.vertices) (λ (a : Arc). a.vertex) (out_arcs g v) (out_ends g v closed))
      (All-map (λ w. w < g.vertices) (λ (a : Arc). a.vertex) (in_arcs g v) (in_ends g v closed))

  all_in : (vs : List ℕ) → All (λ w. w < g.vertices) (flat_map (neighbors g) vs)
  all_in [] = λ i d lt. absurd (omega (arith, lt))
  all_in (v ∷ vs) = All-append (λ w. w < g.vertices) (neighbors g v) (flat_map (neighbors g) vs) (neighbors_in v) (all_in vs)

  pub falling_in : (ends : List ℕ) (level : ℕ) (vs : List ℕ) → All (λ w. w < g.vertices) (falling g ends level vs)
  falling_in ends level vs = All-filter (is_above ends level) (λ w. w < g.vertices) (flat_map (neighbors g) vs) (all_in vs)
