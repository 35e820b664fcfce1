-- what the definitions mean: values are unique, labels tell components, and each edge of a graph is in its digraph
use Rattle.std.proofs.Common.{◌≡◌, ℕ, zero, suc, ℤ, pos, negsuc, ◌+◌, ◌<◌, ◌≤◌, ◌↔◌, inl, inr, List, [], ◌∷◌, ◌++◌, Option, Some, None, length, map, take, get_or, slice_get, slice_index, le_antisymm, refl, ap, sym, ◌∙◌, subst, arith}
use Rattle.std.specs.Prelude.{sum, sum_by, flat_map}
use Rattle.std.specs.List.{range_with_len}
use Rattle.std.proofs.lemmas.Bool.{cases_lt}
use Rattle.std.proofs.lemmas.List.{length-map, get_or-map, take-map}
use Rattle.std.proofs.lemmas.List.Sums.{sum_by-cons, sum-map}
use Rattle.std.proofs.lemmas.Option.{slice_get_within, slice_get-get_or}
use Rattle.graph_model.specs.declared.row.EdgeRow.{EdgeRow}
use Rattle.graph_model.specs.Keys.{rows_at}
use Rattle.graph_model.specs.Graph.{GraphData, source_at}
use Rattle.graph_slots.specs.Meaning.{place_in, source_places}
use Rattle.graph_columns.specs.declared.position.VertexAt.{VertexAt}
use Rattle.graph_columns.specs.declared.position.EdgeAt.{EdgeAt}
use Rattle.graph_snap.specs.Reading.{HasVertex, StartsAt, EndsAt}
use Rattle.algo_digraph.specs.Digraph.{Digraph, Goes}
use Rattle.algo_digraph.specs.Walks.{AreConnected, IsHopDistance, IsLabel, IsLeastWeight}
use Rattle.algo_digraph.specs.Cores.{IsCoreNumber}
use Rattle.algo_digraph.specs.DigraphOf.{digraph_of, digraph_edges, table_edges, table_sizes, IsPosition, index_of, index_in, ends_of}
use Rattle.algo_digraph.proofs.Edges.{by_tables, tables_more, edges_from, starts, stops, blank_edge}
use Rattle.algo_digraph.proofs.Orders.{size_at, table_within}
use Rattle.algo_digraph.proofs.Paths.{connected_then, connected_back}

-- ---- one value

pub one_distance : (g : Digraph) (a b : ℕ) (x y : Option ℕ) → IsHopDistance g a b x → IsHopDistance g a b y → x ≡ y
one_distance g a b None None h k = refl
one_distance g a b None (Some k) h i = absurd (h i.0.0 i.0.1)
one_distance g a b (Some j) None h i = absurd (i h.0.0 h.0.1)
one_distance g a b (Some j) (Some k) h i =
    let below : j ≤ k = omega (arith, h.1 i.0.0 i.0.1, i.0.2) in
    let above : k ≤ j = omega (arith, i.1 h.0.0 h.0.1, h.0.2) in
    ap Some (le_antisymm below above)

pub one_label : (g : Digraph) (v l m : ℕ) → IsLabel g v l → IsLabel g v m → l ≡ m
one_label g v l m h i = le_antisymm (h.1 m i.0) (i.1 l h.0)

pub one_core_number : (g : Digraph) (v j k : ℕ) → IsCoreNumber g v j → IsCoreNumber g v k → j ≡ k
one_core_number g v j k h i = le_antisymm (i.1 j h.0) (h.1 k i.0)

pub one_weight : (g : Digraph) (weights : List ℕ) (a b : ℕ) (x y : Option ℤ) → IsLeastWeight g weights a b x → IsLeastWeight g weights a b y → x ≡ y
one_weight g weights a b None None h i = refl
one_weight g weights a b None (Some (pos k)) h i = absurd (omega (arith, h i.1.0 i.1.1, i.1.2, i.0))
one_weight g weights a b None (Some (negsuc k)) h i = absurd i
one_weight g weights a b (Some (negsuc j)) y h i = absurd h
one_weight g weights a b (Some (pos j)) None h i = absurd (omega (arith, i h.1.0 h.1.1, h.1.2, h.0))
one_weight g weights a b (Some (pos j)) (Some (negsuc k)) h i = absurd i
one_weight g weights a b (Some (pos j)) (Some (pos k)) h i =
    let below : j ≤ k = omega (arith, h.2 i.1.0 i.1.1, i.1.2) in
    let above : k ≤ j = omega (arith, i.2 h.1.0 h.1.1, h.1.2) in
    ap (λ n. Some (pos n)) (le_antisymm below above)

-- ---- labels

pub labels_tell : (g : Digraph) (a b l m : ℕ) → IsLabel g a l → IsLabel g b m → (l ≡ m) ↔ AreConnected g a b
labels_tell g a b l m h i = (
  λ same. connected_then g a m b (subst (AreConnected g a) same h.0) (connected_back g b m i.0),
  λ path. le_antisymm (h.1 m (connected_then g a b m path i.0)) (i.1 l (connected_then g b a l (connected_back g a b path) h.0)),
)

-- ---- indexes

sum_cons : (x : ℕ) (xs : List ℕ) → sum (x ∷ xs) ≡ x + sum xs
sum_cons x xs = sum_by-cons (λ (n : ℕ). n) x xs

before_table : (sizes : List ℕ) (t u place : ℕ) → place < slice_index sizes t → t < u → sum (take t sizes) + place < sum (take u sizes)
before_table [] t u place within lt = absurd (omega arith)
before_table (x ∷ xs) t zero place within lt = absurd (omega arith)
before_table (x ∷ xs) zero (suc u) place within lt =
    let first : place < x = within in
    let all : sum (take (suc u) (x ∷ xs)) ≡ x + sum (take u xs) = sum_cons x (take u xs) in
    omega (arith, first, all)
before_table (x ∷ xs) (suc t) (suc u) place within lt =
    let before : sum (take (suc t) (x ∷ xs)) ≡ x + sum (take t xs) = sum_cons x (take t xs) in
    let all : sum (take (suc u) (x ∷ xs)) ≡ x + sum (take u xs) = sum_cons x (take u xs) in
    omega (arith, before, all, before_table xs t u place within (omega arith))

pub tables_rise : (sizes : List ℕ) (a b : VertexAt) → IsPosition sizes a → a.table < b.table → index_of sizes a < index_of sizes b
tables_rise sizes a b within lt = omega (arith, before_table sizes a.table b.table a.place within lt)

pub places_rise : (sizes : List ℕ) (a b : VertexAt) → a.table ≡ b.table → a.place < b.place → index_of sizes a < index_of sizes b
places_rise sizes a b same lt = omega (arith, ap (λ t. sum (take t sizes)) same)

same_position : (a b : VertexAt) → a.table ≡ b.table → a.place ≡ b.place → a ≡ b
same_position a b table place =
    ap (λ n. let x : VertexAt = record { table = n; place = a.place } in x) table ∙ ap (λ n. let x : VertexAt = record { table = b.table; place = n } in x) place

in_table : (sizes : List ℕ) (a b : VertexAt) → index_of sizes a ≡ index_of sizes b → a.table ≡ b.table → a ≡ b
in_table sizes a b is table =
    let place : a.place ≡ b.place = omega (arith, is, ap (λ t. sum (take t sizes)) table) in same_position a b table place

pub one_position : (sizes : List ℕ) (a b : VertexAt) → IsPosition sizes a → IsPosition sizes b → index_of sizes a ≡ index_of sizes b → a ≡ b
one_position sizes a b p q is =
    elim (cases_lt a.table b.table) [
      | inl lt ↦ absurd (omega (arith, tables_rise sizes a b p lt, is))
      | inr ge ↦ elim (cases_lt b.table a.table) [
        | inl lt ↦ absurd (omega (arith, tables_rise sizes b a q lt, is))
        | inr le ↦ in_table sizes a b is (le_antisymm le ge)
      ]
    ]

-- ---- edges

pub has_position : (g : GraphData) (at : VertexAt) → HasVertex g at ↔ IsPosition (table_sizes g) at
has_position g at = (λ h. omega (arith, size_at g.vertices at.table), λ h. omega (arith, size_at g.vertices at.table))

get_left : {X : Type 0} (xs ys : List X) (k : ℕ) (x : X) → slice_get xs k ≡ Some x → slice_get (xs ++ ys) k ≡ Some x
get_left [] ys k x h = absurd (omega (arith, slice_get_within [] k x h))
get_left (y ∷ xs) ys zero x h = h
get_left (y ∷ xs) ys (suc k) x h = get_left xs ys k x h

get_right : {X : Type 0} (xs ys : List X) (k i : ℕ) → k ≡ length xs + i → slice_get (xs ++ ys) k ≡ slice_get ys i
get_right [] ys k i e = let same : k ≡ i = omega arith in ap (slice_get ys) same
get_right (x ∷ xs) ys zero i e = absurd (omega arith)
get_right (x ∷ xs) ys (suc k) i e = get_right xs ys k i (omega arith)

-- what stands in the list of a table stands in all of them behind those of the tables before it
module _ {X : Type 0} (f : ℕ → List X) (t i : ℕ) (x : X) (h : slice_get (f t) i ≡ Some x) where
  in_last : (n : ℕ) → t ≡ n → slice_get (flat_map f (range_with_len 0 n) ++ f n) (length (flat_map f (range_with_len 0 t)) + i) ≡ Some x
  in_last n e =
      get_right (flat_map f (range_with_len 0 n)) (f n) (length (flat_map f (range_with_len 0 t)) + i) i (ap (λ m. length (flat_map f (range_with_len 0 m)) + i) e)
      ∙ ap (λ m. slice_get (f m) i) (sym e) ∙ h

  at_table : (n : ℕ) → t < n → slice_get (flat_map f (range_with_len 0 n)) (length (flat_map f (range_with_len 0 t)) + i) ≡ Some x
  at_table zero lt = absurd (omega arith)
  at_table (suc n) lt =
      let more : suc n ≡ n + 1 = omega arith in
      ap (λ m. slice_get (flat_map f (range_with_len 0 m)) (length (flat_map f (range_with_len 0 t)) + i)) more
      ∙ ap (λ xs. slice_get xs (length (flat_map f (range_with_len 0 t)) + i)) (tables_more f n)
      ∙ elim (cases_lt t n) [
        | inl less ↦ get_left (flat_map f (range_with_len 0 n)) (f n) (length (flat_map f (range_with_len 0 t)) + i) x (at_table n less)
        | inr ge ↦ in_last n (omega arith)
      ]

sum_sizes : {R : Type 0} (tables : List (List R)) (n : ℕ) → sum (take n (map length tables)) ≡ sum_by length (take n tables)
sum_sizes tables n = ap sum (take-map length n tables) ∙ sum-map length (take n tables)

pair_is : (p : ℕ × ℕ) (a b : ℕ) → p.0 ≡ a → p.1 ≡ b → p ≡ (a, b)
pair_is p a b e f = ap (λ n. let x : ℕ × ℕ = (n, p.1) in x) e ∙ ap (λ n. let x : ℕ × ℕ = (a, n) in x) f

module _ (g : GraphData) (t i : ℕ) (lt : i < length (rows_at g.edges t)) where
  within : t < length g.edges
  within = omega (arith, table_within (map length g.edges) t i (omega (arith, size_at g.edges t)), length-map g.edges (length {A = EdgeRow}))

  there : slice_get (table_edges g t) i ≡ Some (ends_of g t (get_or (rows_at g.edges t) i blank_edge))
  there =
      slice_get-get_or (table_edges g t) i (ends_of g t (get_or (rows_at g.edges t) i blank_edge)) (omega (arith, length-map (rows_at g.edges t) (ends_of g t)))
      ∙ ap Some (get_or-map (ends_of g t) (rows_at g.edges t) i blank_edge (ends_of g t (get_or (rows_at g.edges t) i blank_edge)) lt)

  place : index_in (map length g.edges) t i ≡ length (flat_map (table_edges g) (range_with_len 0 t)) + i
  place = omega (arith, sum_sizes g.edges t, edges_from g t (omega (arith, within)))

  edge_there : slice_get (digraph_edges g) (index_in (map length g.edges) t i) ≡ Some (ends_of g t (get_or (rows_at g.edges t) i blank_edge))
  edge_there =
      ap (slice_get (digraph_edges g)) place
      ∙ ap (λ es. slice_get es (length (flat_map (table_edges g) (range_with_len 0 t)) + i)) (by_tables g)
      ∙ at_table (table_edges g) t i (ends_of g t (get_or (rows_at g.edges t) i blank_edge)) there (length g.edges) within

-- each edge goes between the indexes of its ends
pub goes_between : (g : GraphData) (e : EdgeAt) (a b : VertexAt) → StartsAt g e a → EndsAt g e b
    → Goes (digraph_of g) (index_in (map length g.edges) e.table e.place) (index_of (table_sizes g) a) (index_of (table_sizes g) b)
goes_between g e a b s d =
    let lt : e.place < length (rows_at g.edges e.table) = omega (arith, slice_get_within (source_places g e.table) e.place a.place s.place, length-map (rows_at g.edges e.table) (λ (r : EdgeRow). place_in (rows_at g.vertices (source_at g.schema e.table)) r.source)) in
    edge_there g e.table e.place lt
    ∙ ap Some (pair_is (ends_of g e.table (get_or (rows_at g.edges e.table) e.place blank_edge)) (index_of (table_sizes g) a) (index_of (table_sizes g) b)
    (starts g e.table e.place blank_edge lt a s) (stops g e.table e.place blank_edge lt b d))
