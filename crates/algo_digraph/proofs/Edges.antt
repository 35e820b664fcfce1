-- the edges of a digraph, table by table
use Rattle.std.proofs.Common.{◌≡◌, ℕ, zero, suc, ◌+◌, ◌<◌, ◌≤◌, pos, List, [], ◌∷◌, ◌++◌, length, get_or, slice_get, take, map, Some, length-append, refl, ap, sym, ◌∙◌, arith}
use Rattle.std.specs.Prelude.{flat_map, sum_by}
use Rattle.std.specs.List.{range_with_len, zip}
use Rattle.std.proofs.lemmas.List.{map-append, map-id, append-nil, get_or-map, length-map}
use Rattle.std.proofs.lemmas.List.FromFn.{map-range_with_len_more}
use Rattle.std.proofs.Math.Seq.{take-length}
use Rattle.std.proofs.lemmas.List.Sums.{sum_by_more}
use Rattle.std.proofs.lemmas.Grind.{flat_map-append}
use Rattle.std.proofs.lemmas.Option.{get_or_from_slice_get}
use Rattle.graph_model.specs.declared.row.EdgeRow.{EdgeRow}
use Rattle.graph_model.specs.Keys.{rows_at}
use Rattle.graph_model.specs.Graph.{GraphData, edge_total, source_at, destination_at}
use Rattle.graph_slots.specs.Meaning.{place_in}
use Rattle.graph_columns.specs.declared.position.VertexAt.{VertexAt}
use Rattle.graph_snap.specs.Reading.{StartsAt, EndsAt}
use Rattle.algo_digraph.proofs.Lists.{map_pairs}
use Rattle.algo_digraph.specs.DigraphOf.{table_sizes, index_of, index_in, ends_of, table_edges, all_edges, digraph_edges}

pub range_more : (n : ℕ) → range_with_len 0 (n + 1) ≡ range_with_len 0 n ++ n ∷ []
range_more n = sym (map-id (range_with_len 0 (n + 1))) ∙ map-range_with_len_more (λ (i : ℕ). i) 0 n n (omega arith) ∙ ap (λ (xs : List ℕ). xs ++ n ∷ []) (map-id (range_with_len 0 n))

-- one table more
pub tables_more : {X : Type 0} (f : ℕ → List X) (n : ℕ) → flat_map f (range_with_len 0 (n + 1)) ≡ flat_map f (range_with_len 0 n) ++ f n
tables_more f n = ap (flat_map f) (range_more n) ∙ flat_map-append f (range_with_len 0 n) (n ∷ []) ∙ ap (λ ys. flat_map f (range_with_len 0 n) ++ ys) (append-nil (f n))

-- a part of all edges, with the edges of one table more
pub parts_more : {X Y : Type 0} (f : ℕ → List X) (h : X → Y) (n : ℕ) (before after : List Y)
    → before ≡ map h (flat_map f (range_with_len 0 n)) → after ≡ before ++ map h (f n) → after ≡ map h (flat_map f (range_with_len 0 (n + 1)))
parts_more f h n before after is more =
    more ∙ ap (λ ys. ys ++ map h (f n)) is ∙ sym (map-append h (flat_map f (range_with_len 0 n)) (f n)) ∙ ap (map h) (sym (tables_more f n))

-- the place of an end
place_is : {R : Type 0} (f : R → ℕ) (rows : List R) (i n : ℕ) (d : R) → i < length rows → slice_get (map f rows) i ≡ Some n → f (get_or rows i d) ≡ n
place_is f rows i n d lt at = sym (get_or-map f rows i d 0 lt) ∙ get_or_from_slice_get (map f rows) i n 0 at

module _ (g : GraphData) (t i : ℕ) (d : EdgeRow) (lt : i < length (rows_at g.edges t)) where
  -- the index of the vertex where an edge starts, and of the one where it ends
  pub starts : (at : VertexAt) → StartsAt g (record { table = t; place = i }) at → (ends_of g t (get_or (rows_at g.edges t) i d)).0 ≡ index_of (table_sizes g) at
  starts at s =
      let place = place_is (λ (r : EdgeRow). place_in (rows_at g.vertices (source_at g.schema t)) r.source) (rows_at g.edges t) i at.place d lt s.place in
      ap (index_in (table_sizes g) (source_at g.schema t)) place ∙ ap (λ k. index_in (table_sizes g) k at.place) (sym s.table)

  pub stops : (at : VertexAt) → EndsAt g (record { table = t; place = i }) at → (ends_of g t (get_or (rows_at g.edges t) i d)).1 ≡ index_of (table_sizes g) at
  stops at s =
      let place = place_is (λ (r : EdgeRow). place_in (rows_at g.vertices (destination_at g.schema t)) r.destination) (rows_at g.edges t) i at.place d lt s.place in
      ap (index_in (table_sizes g) (destination_at g.schema t)) place ∙ ap (λ k. index_in (table_sizes g) k at.place) (sym s.table)

pub blank_edge : EdgeRow
blank_edge = record { key = pos 0; source = pos 0; destination = pos 0; values = [] }

-- how many edges the tables have
pub edges_from : (g : GraphData) (n : ℕ) → n ≤ length g.edges → length (flat_map (table_edges g) (range_with_len 0 n)) ≡ sum_by length (take n g.edges)
edges_from g zero h = refl
edges_from g (suc n) h =
    let more : suc n ≡ n + 1 = omega arith in
    let split : length (flat_map (table_edges g) (range_with_len 0 (n + 1))) ≡ length (flat_map (table_edges g) (range_with_len 0 n)) + length (table_edges g n)
    = ap length (tables_more (table_edges g) n) ∙ length-append (flat_map (table_edges g) (range_with_len 0 n)) (table_edges g n) in
    ap (λ k. length (flat_map (table_edges g) (range_with_len 0 k))) more
    ∙ omega (arith, split, edges_from g n (omega arith), length-map (rows_at g.edges n) (ends_of g n), sum_by_more length g.edges n [] (omega arith))
    ∙ ap (λ k. sum_by length (take k g.edges)) (sym more)

map_flat : {X Y Z : Type 0} (f : Y → Z) (h : X → List Y) (k : X → List Z) (xs : List X) → ((x : X) → map f (h x) ≡ k x) → map f (flat_map h xs) ≡ flat_map k xs
map_flat f h k [] same = refl
map_flat f h k (x ∷ xs) same = map-append f (h x) (flat_map h xs) ∙ ap (λ ys. ys ++ map f (flat_map h xs)) (same x) ∙ ap (λ ys. k x ++ ys) (map_flat f h k xs same)

-- the edges of a digraph, table by table
pub by_tables : (g : GraphData) → digraph_edges g ≡ flat_map (table_edges g) (range_with_len 0 (length g.edges))
unfolding all_edges
by_tables g =
    map_flat (λ (p : ℕ × EdgeRow). ends_of g p.0 p.1) (λ t. map (λ r. (t, r)) (rows_at g.edges t)) (table_edges g) (range_with_len 0 (length g.edges))
    (λ t. map_pairs (λ (p : ℕ × EdgeRow). ends_of g p.0 p.1) (λ r. (t, r)) (rows_at g.edges t))

pub edge_number : (g : GraphData) → length (digraph_edges g) ≡ edge_total g
edge_number g = ap length (by_tables g) ∙ edges_from g (length g.edges) (omega arith) ∙ ap (sum_by length) (take-length g.edges)

-- two parts make the whole
pub whole : (es : List (ℕ × ℕ)) → zip (map (λ p. p.0) es) (map (λ p. p.1) es) ≡ es
whole [] = refl
whole (e ∷ es) = ap (λ xs. e ∷ xs) (whole es)
