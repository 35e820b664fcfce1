-- items by falling number
use Rattle.std.proofs.Common.{◌≡◌, ℕ, zero, suc, ◌+◌, ℤ, Bool, true, false, ◌||◌, List, [], ◌∷◌, length, get_or, refl, ap, sym, ◌∙◌, subst, arith, All, sum_by, cond}
use Rattle.std.specs.Prelude.{nat_lt, IsTrue}
use Rattle.std.specs.List.{AllZip, list_any}
use Rattle.std.specs.Ordering.{int_eq}
use Rattle.std.proofs.lemmas.List.Elements.{All-cons}
use Rattle.std.proofs.lemmas.List.Sums.{sum_by-cons}
use Rattle.graph_schema.specs.declared.schema.EdgeTable.{EdgeTable}
use Rattle.graph_model.specs.declared.row.VertexRow.{VertexRow}
use Rattle.graph_model.specs.declared.row.EdgeRow.{EdgeRow}
use Rattle.graph_schema.specs.declared.schema.VertexTable.{VertexTable}
use Rattle.graph_schema.specs.declared.schema.Keys.{Keys}
use Rattle.graph_schema.specs.declared.schema.Keys.TheVariants.{Whole, PerTable}
use Rattle.graph_model.specs.Keys.{rows_at, cells_in, count_in, AreDistinct}
use Rattle.graph_model.specs.Graph.{GraphData, IsGraph, IsEdge, AreEdges, AreVertices, AreValues, has_vertex_in, vertex_key, vertex_values}
use Rattle.graph_model.proofs.Zips.{AllZip-weaker}
use Rattle.graph_mutate.specs.Sorted.{put_falling, falling, row_degree, by_degree, sorted}

module _ {X : Type 0} (n : X → ℕ) where
  sum_case : (w : X → ℕ) (b : Bool) (x y : X) (ys zs : List X) → sum_by w zs ≡ w x + sum_by w ys → sum_by w (cond b (y ∷ zs) (x ∷ y ∷ ys)) ≡ w x + sum_by w (y ∷ ys)
  sum_case w true x y ys zs e = omega (arith, sum_by-cons w y zs, sum_by-cons w y ys, e)
  sum_case w false x y ys zs e = sum_by-cons w x (y ∷ ys)

  put_sum : (w : X → ℕ) (x : X) (ys : List X) → sum_by w (put_falling n x ys) ≡ w x + sum_by w ys
  put_sum w x [] = sum_by-cons w x []
  put_sum w x (y ∷ ys) = sum_case w (nat_lt (n x) (n y)) x y ys (put_falling n x ys) (put_sum w x ys)

  pub falling_sum : (w : X → ℕ) (xs : List X) → sum_by w (falling n xs) ≡ sum_by w xs
  falling_sum w [] = refl
  falling_sum w (x ∷ xs) = put_sum w x (falling n xs) ∙ ap (λ m. w x + m) (falling_sum w xs) ∙ sym (sum_by-cons w x xs)

  all_case : (P : X → Type 0) (b : Bool) (x y : X) (ys zs : List X) → P x → P y → All P ys → All P zs → All P (cond b (y ∷ zs) (x ∷ y ∷ ys))
  all_case P true x y ys zs p q a b = All-cons P y zs q b
  all_case P false x y ys zs p q a b = All-cons P x (y ∷ ys) p (All-cons P y ys q a)

  put_all : (P : X → Type 0) (x : X) (ys : List X) → P x → All P ys → All P (put_falling n x ys)
  put_all P x [] p all = All-cons P x [] p all
  put_all P x (y ∷ ys) p all =
      let rest : All P ys = λ i d l. all (suc i) d (omega arith) in
      all_case P (nat_lt (n x) (n y)) x y ys (put_falling n x ys) p (all 0 y (omega arith)) rest (put_all P x ys p rest)

  pub falling_all : (P : X → Type 0) (xs : List X) → All P xs → All P (falling n xs)
  falling_all P [] all = all
  falling_all P (x ∷ xs) all = put_all P x (falling n xs) (all 0 x (omega arith)) (falling_all P xs (λ i d l. all (suc i) d (omega arith)))

  or_swapped : (a b c : Bool) → (a || (b || c)) ≡ (b || (a || c))
  or_swapped true true c = refl
  or_swapped true false c = refl
  or_swapped false b c = refl

  any_case : (p : X → Bool) (b : Bool) (x y : X) (ys zs : List X) → list_any p zs ≡ (p x || list_any p ys) → list_any p (cond b (y ∷ zs) (x ∷ y ∷ ys)) ≡ (p x || list_any p (y ∷ ys))
  any_case p true x y ys zs e = ap (λ b. p y || b) e ∙ or_swapped (p y) (p x) (list_any p ys)
  any_case p false x y ys zs e = refl

  put_any : (p : X → Bool) (x : X) (ys : List X) → list_any p (put_falling n x ys) ≡ (p x || list_any p ys)
  put_any p x [] = refl
  put_any p x (y ∷ ys) = any_case p (nat_lt (n x) (n y)) x y ys (put_falling n x ys) (put_any p x ys)

  pub falling_any : (p : X → Bool) (xs : List X) → list_any p (falling n xs) ≡ list_any p xs
  falling_any p [] = refl
  falling_any p (x ∷ xs) = put_any p x (falling n xs) ∙ ap (λ b. p x || b) (falling_any p xs)

  length_case : (b : Bool) (x y : X) (ys zs : List X) → length zs ≡ suc (length ys) → length (cond b (y ∷ zs) (x ∷ y ∷ ys)) ≡ suc (suc (length ys))
  length_case true x y ys zs e = omega arith
  length_case false x y ys zs e = omega arith

  put_length : (x : X) (ys : List X) → length (put_falling n x ys) ≡ suc (length ys)
  put_length x [] = refl
  put_length x (y ∷ ys) = length_case (nat_lt (n x) (n y)) x y ys (put_falling n x ys) (put_length x ys)

  pub falling_length : (xs : List X) → length (falling n xs) ≡ length xs
  falling_length [] = refl
  falling_length (x ∷ xs) = omega (arith, put_length x (falling n xs), falling_length xs)

-- ---- the graph

-- the rows of a table
pub sorted_rows : (g : GraphData) (b : ℕ) (tables : List (List VertexRow)) (t : ℕ) → rows_at (by_degree g b tables) t ≡ falling (row_degree g (b + t)) (rows_at tables t)
sorted_rows g b [] t = refl
sorted_rows g b (rows ∷ tables) zero = ap (λ u. falling (row_degree g u) rows) (let e : b ≡ b + 0 = omega arith in e)
sorted_rows g b (rows ∷ tables) (suc t) = sorted_rows g (b + 1) tables t ∙ ap (λ u. falling (row_degree g u) (rows_at tables t)) (let e : b + 1 + t ≡ b + suc t = omega arith in e)

pub rows_sorted : (g : GraphData) (t : ℕ) → rows_at (sorted g).vertices t ≡ falling (row_degree g t) (rows_at g.vertices t)
rows_sorted g t = sorted_rows g 0 g.vertices t ∙ ap (λ u. falling (row_degree g u) (rows_at g.vertices t)) (let e : 0 + t ≡ t = omega arith in e)

sum_stays : (g : GraphData) (w : List VertexRow → ℕ) → ((n : VertexRow → ℕ) (rows : List VertexRow) → w (falling n rows) ≡ w rows) → (b : ℕ) (tables : List (List VertexRow)) → sum_by w (by_degree g b tables) ≡ sum_by w tables
sum_stays g w same b [] = refl
sum_stays g w same b (rows ∷ tables) =
    omega (arith, sum_by-cons w (falling (row_degree g b) rows) (by_degree g (b + 1) tables), sum_by-cons w rows tables, same (row_degree g b) rows, sum_stays g w same (b + 1) tables)

tables_stay : (g : GraphData) (b : ℕ) (shapes : List VertexTable) (tables : List (List VertexRow)) → AllZip AreVertices shapes tables → AllZip AreVertices shapes (by_degree g b tables)
tables_stay g b [] [] z = z
tables_stay g b [] (rows ∷ tables) z = absurd z
tables_stay g b (x ∷ shapes) [] z = absurd z
tables_stay g b (x ∷ shapes) (rows ∷ tables) z = (falling_all (row_degree g b) (λ r. AreValues x.props r.values) rows z.0, tables_stay g (b + 1) shapes tables z.1)

keys_stay : (k : ℤ) (n : VertexRow → ℕ) (rows : List VertexRow) → count_in vertex_key k (falling n rows) ≡ count_in vertex_key k rows
keys_stay k n rows = falling_sum n (λ r. cond {A = ℕ} (int_eq r.key k) 1 0) rows

distinct_stay : (g : GraphData) (keys : Keys) → AreDistinct keys vertex_key g.vertices → AreDistinct keys vertex_key (sorted g).vertices
distinct_stay g Whole differ = λ k. omega (arith, differ k, sum_stays g (count_in vertex_key k) (keys_stay k) 0 g.vertices)
distinct_stay g PerTable differ = λ k t.
    let here = ap (count_in vertex_key k) (rows_sorted g t) in
    omega (arith, here, differ k t, keys_stay k (row_degree g t) (rows_at g.vertices t))

pub vertex_stays : (g : GraphData) (k : ℤ) (t : ℕ) → has_vertex_in k (rows_at (sorted g).vertices t) ≡ has_vertex_in k (rows_at g.vertices t)
vertex_stays g k t = ap (has_vertex_in k) (rows_sorted g t) ∙ falling_any (row_degree g t) (λ q. int_eq q.key k) (rows_at g.vertices t)

ends_stay : (g : GraphData) (x : EdgeTable) (r : EdgeRow) → IsEdge g.vertices x r → IsEdge (sorted g).vertices x r
ends_stay g x r e = record {
  values = e.values;
  source = subst IsTrue (sym (vertex_stays g r.source x.source)) e.source;
  destination = subst IsTrue (sym (vertex_stays g r.destination x.destination)) e.destination;
}

pub sorted_is : (g : GraphData) → IsGraph g → IsGraph (sorted g)
sorted_is g is = record {
  schema = is.schema;
  vertices = tables_stay g 0 g.schema.vertices g.vertices is.vertices;
  edges = AllZip-weaker (AreEdges g.vertices) (AreEdges (sorted g).vertices) g.schema.edges g.edges (λ x rows old i d l. ends_stay g x (get_or rows i d) (old i d l)) is.edges;
  vertex_keys = distinct_stay g g.schema.keys is.vertex_keys;
  edge_keys = is.edge_keys;
  few_vertices = omega (arith, is.few_vertices, sum_stays g (λ (rows : List VertexRow). length rows) falling_length 0 g.vertices);
  few_edges = is.few_edges;
  few_cells = omega (arith, is.few_cells, sum_stays g (λ (rows : List VertexRow). cells_in vertex_values rows) (λ n rows. falling_sum n (λ r. length (vertex_values r)) rows) 0 g.vertices);
}
