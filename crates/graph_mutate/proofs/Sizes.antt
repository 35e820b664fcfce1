-- how large a graph with reverses is
use Rattle.std.proofs.Common.{◌≡◌, ℕ, zero, suc, ◌+◌, ◌*◌, ◌<◌, ◌≤◌, ℤ, pos, ◌+ℤ◌, Bool, true, false, not, List, [], ◌∷◌, ◌++◌, Some, All, length, slice_get, take, filter, cond, sum_by, refl, ap, sym, ◌∙◌, arith, length-append}
use Rattle.std.proofs.lemmas.List.Elements.{All-filter}
use Rattle.std.proofs.lemmas.List.Sums.{sum_by-cons, sum_by-append}
use native.Mathlib.Nat.{mul_comm, mul-add}
use Rattle.graph_schema.specs.declared.schema.VertexTable.{VertexTable}
use Rattle.graph_schema.specs.declared.schema.EdgeTable.{EdgeTable}
use Rattle.graph_model.specs.declared.row.VertexRow.{VertexRow}
use Rattle.graph_model.specs.declared.row.EdgeRow.{EdgeRow}
use Rattle.graph_model.specs.Keys.{rows_at, cells_in, row_total}
use Rattle.graph_model.specs.Graph.{GraphData, IsGraph, AreValues, AreVertices, AreEdges, vertex_values, edge_values}
use Rattle.graph_columns.proofs.PropParts.{cells_counted}
use Rattle.graph_columns.proofs.Tables.{zipped_at}
use Rattle.graph_mutate.specs.Undirected.{is_loop, straight, reverse_edge, reverses, with_reverses, greatest_key, undirected}
use Rattle.graph_mutate.specs.Undirected.{last_key}
use Rattle.graph_mutate.proofs.ReverseLists.{reverses_at}

-- a part of a sum
pub take_le : {X : Type 0} (f : X → ℕ) (n : ℕ) (xs : List X) → sum_by f (take n xs) ≤ sum_by f xs
take_le f zero xs = omega arith
take_le f (suc n) [] = omega arith
take_le f (suc n) (x ∷ xs) = omega (arith, sum_by-cons f x (take n xs), sum_by-cons f x xs, take_le f n xs)

-- the rows of a table have values of its properties
vertices_have_values : (g : GraphData) (t : ℕ) (shape : VertexTable) → IsGraph g → slice_get g.schema.vertices t ≡ Some shape → All (λ (r : VertexRow). AreValues shape.props r.values) (rows_at g.vertices t)
vertices_have_values g t shape is there = zipped_at AreVertices g.schema.vertices g.vertices t shape there is.vertices

edges_have_values : (g : GraphData) (t : ℕ) (shape : EdgeTable) → IsGraph g → slice_get g.schema.edges t ≡ Some shape → All (λ (r : EdgeRow). AreValues shape.props r.values) (rows_at g.edges t)
edges_have_values g t shape is there = λ i d h. (zipped_at (AreEdges g.vertices) g.schema.edges g.edges t shape there is.edges i d h).values

-- values of a table by its width
pub vertex_cells_are : (g : GraphData) (t : ℕ) (shape : VertexTable) → IsGraph g → slice_get g.schema.vertices t ≡ Some shape → length (rows_at g.vertices t) * length shape.props ≡ cells_in vertex_values (rows_at g.vertices t)
vertex_cells_are g t shape is there =
    mul_comm (length (rows_at g.vertices t)) (length shape.props) ∙ sym (cells_counted vertex_values shape.props (rows_at g.vertices t) (vertices_have_values g t shape is there))

by_case : {X : Type 0} (b : Bool) (x : X) (ys : List X) (n : ℕ) → length ys ≤ n → length (cond b (x ∷ ys) ys) ≤ suc n
by_case true x ys n h = omega arith
by_case false x ys n h = omega arith

filter_le : {X : Type 0} (p : X → Bool) (xs : List X) → length (filter p xs) ≤ length xs
filter_le p [] = omega arith
filter_le p (x ∷ xs) = by_case (p x) x (filter p xs) (length xs) (filter_le p xs)

pub straight_le : (rows : List EdgeRow) → length (straight rows) ≤ length rows
straight_le rows = filter_le (λ r. not (is_loop r)) rows

pub straight_total : (tables : List (List EdgeRow)) → sum_by (λ rows. length (straight rows)) tables ≤ row_total tables
straight_total [] = omega arith
straight_total (rows ∷ tables) = omega (arith, sum_by-cons (λ (rs : List EdgeRow). length (straight rs)) rows tables, sum_by-cons (λ (rs : List EdgeRow). length rs) rows tables, straight_le rows, straight_total tables)

reverses_length : (k : ℤ) (rows : List EdgeRow) → length (reverses k rows) ≡ length rows
reverses_length k [] = refl
reverses_length k (r ∷ rows) = ap (λ n. suc n) (reverses_length (k +ℤ pos 1) rows)

-- how many rows and values a table with reverses has
pub record ReverseSizes (g : GraphData) (t w : ℕ) : Type 0 where
  pub rows : length (rows_at (undirected g).edges t) ≡ length (rows_at g.edges t) + length (straight (rows_at g.edges t))
  pub cells : cells_in edge_values (rows_at (undirected g).edges t) ≡ (length (rows_at g.edges t) + length (straight (rows_at g.edges t))) * w
  pub few : cells_in edge_values (rows_at (undirected g).edges t) ≤ 2 * cells_in edge_values (rows_at g.edges t)

cells_case : (b : Bool) (r : EdgeRow) (xs : List EdgeRow) (n : ℕ) → cells_in edge_values xs ≤ n → cells_in edge_values (cond b (r ∷ xs) xs) ≤ length (edge_values r) + n
cells_case true r xs n h = omega (arith, sum_by-cons (λ (x : EdgeRow). length (edge_values x)) r xs)
cells_case false r xs n h = omega arith

reverse_cells_are : (k : ℤ) (rows : List EdgeRow) → cells_in edge_values (reverses k rows) ≡ cells_in edge_values rows
reverse_cells_are k [] = refl
reverse_cells_are k (r ∷ rows) = omega (arith, sum_by-cons (λ (x : EdgeRow). length (edge_values x)) (reverse_edge (k +ℤ pos 1) r) (reverses (k +ℤ pos 1) rows), sum_by-cons (λ (x : EdgeRow). length (edge_values x)) r rows, reverse_cells_are (k +ℤ pos 1) rows)

straight_cells_le : (rows : List EdgeRow) → cells_in edge_values (straight rows) ≤ cells_in edge_values rows
straight_cells_le [] = omega arith
straight_cells_le (r ∷ rows) = omega (arith, sum_by-cons (λ (x : EdgeRow). length (edge_values x)) r rows, cells_case (not (is_loop r)) r (straight rows) (cells_in edge_values rows) (straight_cells_le rows))

pub reverse_sizes : (g : GraphData) (t : ℕ) (shape : EdgeTable) → IsGraph g → t < length g.edges → slice_get g.schema.edges t ≡ Some shape → ReverseSizes g t (length shape.props)
reverse_sizes g t shape is within there =
    let rows = rows_at g.edges t in
    let k = last_key g t in
    let w = length shape.props in
    let new : rows_at (undirected g).edges t ≡ rows ++ reverses k (straight rows) = reverses_at (greatest_key g) g.edges t within in
    let values = edges_have_values g t shape is there in
    let own : cells_in edge_values rows ≡ w * length rows = cells_counted edge_values shape.props rows values in
    let reverse_cells : cells_in edge_values (reverses k (straight rows)) ≡ cells_in edge_values (straight rows) = reverse_cells_are k (straight rows) in
    let others : cells_in edge_values (straight rows) ≡ w * length (straight rows) = cells_counted edge_values shape.props (straight rows) (All-filter (λ r. not (is_loop r)) (λ r. AreValues shape.props r.values) rows values) in
    let all : cells_in edge_values (rows_at (undirected g).edges t) ≡ cells_in edge_values rows + cells_in edge_values (straight rows) =
    ap (cells_in edge_values) new ∙ sum_by-append (λ (r : EdgeRow). length (edge_values r)) rows (reverses k (straight rows)) ∙ ap (λ n. cells_in edge_values rows + n) reverse_cells in
    record {
      rows = ap length new ∙ length-append rows (reverses k (straight rows)) ∙ ap (λ n. length rows + n) (reverses_length k (straight rows));
      cells = all ∙ ap (λ n. n + cells_in edge_values (straight rows)) own ∙ ap (λ n. w * length rows + n) others ∙ sym (mul-add w (length rows) (length (straight rows))) ∙ mul_comm w (length rows + length (straight rows));
      few = omega (arith, all, straight_cells_le rows);
    }

pub with_reverses_length : (k : ℤ) (tables : List (List EdgeRow)) → length (with_reverses k tables) ≡ length tables
with_reverses_length k [] = refl
with_reverses_length k (rows ∷ tables) = ap (λ n. suc n) (with_reverses_length (k +ℤ pos (length (straight rows))) tables)
