-- a graph without loops and repeated pairs
use Rattle.std.proofs.Common.{◌≡◌, ℕ, suc, ◌+◌, ◌≤◌, Bool, true, false, List, [], ◌∷◌, ◌++◌, length, refl, ap, sym, ◌∙◌, arith, All, sum_by, cond, append_assoc, append-nil}
use Rattle.std.specs.Ordering.{int_eq}
use Rattle.std.proofs.lemmas.List.Elements.{All-cons}
use Rattle.std.proofs.lemmas.List.Sums.{sum_by-cons}
use Rattle.graph_model.specs.declared.row.EdgeRow.{EdgeRow}
use Rattle.graph_model.specs.Keys.{cells_in}
use Rattle.graph_model.specs.Graph.{GraphData, IsGraph, IsEdge, AreEdges, edge_key, edge_values}
use Rattle.graph_mutate.specs.Simplified.{has_loops, stays, simple_from, simple, simplified}
use Rattle.graph_mutate.proofs.Zipped.{AllZip-zipped, distinct_zipped, zipped_sum}

sum_by_case : (w : EdgeRow → ℕ) (b : Bool) (r : EdgeRow) (xs : List EdgeRow) (n : ℕ) → sum_by w xs ≤ n → sum_by w (cond b (r ∷ xs) xs) ≤ w r + n
sum_by_case w true r xs n e = omega (arith, sum_by-cons w r xs)
sum_by_case w false r xs n e = omega arith

pub simple_sum : (w : EdgeRow → ℕ) (loops : Bool) (before rows : List EdgeRow) → sum_by w (simple_from loops before rows) ≤ sum_by w rows
simple_sum w loops before [] = omega arith
simple_sum w loops before (r ∷ rows) = omega (arith, sum_by-cons w r rows, sum_by_case w (stays loops before r) r (simple_from loops (before ++ r ∷ []) rows) (sum_by w rows) (simple_sum w loops (before ++ r ∷ []) rows))

length_case : (b : Bool) (r : EdgeRow) (xs : List EdgeRow) (n : ℕ) → length xs ≤ n → length (cond b (r ∷ xs) xs) ≤ suc n
length_case true r xs n e = omega arith
length_case false r xs n e = omega arith

pub simple_length : (loops : Bool) (before rows : List EdgeRow) → length (simple_from loops before rows) ≤ length rows
simple_length loops before [] = omega arith
simple_length loops before (r ∷ rows) = length_case (stays loops before r) r _ _ (simple_length loops (before ++ r ∷ []) rows)

all_case : (P : EdgeRow → Type 0) (b : Bool) (r : EdgeRow) (xs : List EdgeRow) → P r → All P xs → All P (cond b (r ∷ xs) xs)
all_case P true r xs p all = All-cons P r xs p all
all_case P false r xs p all = all

pub simple_all : (P : EdgeRow → Type 0) (loops : Bool) (before rows : List EdgeRow) → All P rows → All P (simple_from loops before rows)
simple_all P loops before [] all = all
simple_all P loops before (r ∷ rows) all =
    all_case P (stays loops before r) r _ (all 0 r (omega arith)) (simple_all P loops (before ++ r ∷ []) rows (λ i d h. all (suc i) d (omega arith)))

pub simplified_is : (g : GraphData) → IsGraph g → IsGraph (simplified g)
simplified_is g is = record {
  schema = is.schema;
  vertices = is.vertices;
  edges = AllZip-zipped (AreEdges g.vertices) (AreEdges g.vertices) simple g.schema.edges g.edges (λ x rows old. simple_all (IsEdge g.vertices x) (has_loops x) [] rows old) is.edges;
  vertex_keys = is.vertex_keys;
  edge_keys = distinct_zipped g.schema.keys edge_key simple g.schema.edges g.edges (λ k x rows. simple_sum (λ r. cond {A = ℕ} (int_eq r.key k) 1 0) (has_loops x) [] rows) is.edge_keys;
  few_vertices = is.few_vertices;
  few_edges = omega (arith, is.few_edges, zipped_sum (λ (rows : List EdgeRow). length rows) simple g.schema.edges g.edges (λ x rows. simple_length (has_loops x) [] rows));
  few_cells = omega (arith, is.few_cells, zipped_sum (λ (rows : List EdgeRow). cells_in edge_values rows) simple g.schema.edges g.edges (λ x rows. simple_sum (λ r. length (edge_values r)) (has_loops x) [] rows));
}

-- the edges that stay of one edge more
abbrev pub if_stays : Bool → EdgeRow → List EdgeRow
if_stays b r = cond b (r ∷ []) []

push_case : (b : Bool) (r : EdgeRow) (xs ys : List EdgeRow) → (cond b (r ∷ xs) xs) ++ ys ≡ cond b (r ∷ (xs ++ ys)) (xs ++ ys)
push_case true r xs ys = refl
push_case false r xs ys = refl

last_case : (b : Bool) (r : EdgeRow) → cond b (r ∷ []) [] ≡ if_stays b r
last_case b r = refl

pub simple_more : (loops : Bool) (before rows : List EdgeRow) (r : EdgeRow) → simple_from loops before (rows ++ r ∷ []) ≡ simple_from loops before rows ++ if_stays (stays loops (before ++ rows) r) r
simple_more loops before [] r = ap (λ b. if_stays (stays loops b r) r) (sym (append-nil before))
simple_more loops before (q ∷ rows) r =
    ap (λ xs. cond (stays loops before q) (q ∷ xs) xs) (simple_more loops (before ++ q ∷ []) rows r ∙ ap (λ b. simple_from loops (before ++ q ∷ []) rows ++ if_stays (stays loops b r) r) (append_assoc before (q ∷ []) rows))
    ∙ sym (push_case (stays loops before q) q (simple_from loops (before ++ q ∷ []) rows) (if_stays (stays loops (before ++ q ∷ rows) r) r))
