-- What the numbers are of a change that fits.
use Rattle.std.proofs.Common.{◌≡◌, ap, ℕ, ℤ, ◌+◌, ◌*◌, ◌<◌, ◌≤◌, Bool, true, false, ◌||◌, ◌&&◌, ◌==◌, not, List, [], ◌∷◌, length, None, sum_by, arith}
use Rattle.std.specs.Prelude.{nat_lt, nat_eq}
use Rattle.std.specs.List.{zip}
use Rattle.std.specs.Ordering.{int_eq}
use Rattle.std.proofs.lemmas.Bool.Decides.{nat_tests}
use Rattle.std.proofs.lemmas.List.Sums.{sum_by-cons}
use Rattle.column_types.specs.declared.value.Value.{Value}
use Rattle.graph_schema.specs.declared.schema.EdgeTable.{EdgeTable}
use Rattle.graph_schema.specs.Schema.{SchemaData}
use Rattle.graph_model.specs.declared.row.EdgeRow.{EdgeRow}
use Rattle.graph_model.specs.declared.change.Change.TheVariants.{InsertVertex, InsertEdge}
use Rattle.graph_model.specs.Graph.{GraphData, IsGraph, vertex_props_at, edge_props_at, source_at, destination_at, kinds_fit, most_vertices, most_edges, most_cells}
use Rattle.graph_model.proofs.Zips.{no_cause}
use Rattle.changeset.specs.Facts.{Facts, facts, one_if, ends_there, more_ends, misfit_of, taken_by, is_there}
use Rattle.changeset.specs.Overlay.{AreFew}
use Rattle.changeset.proofs.Following.{more_at}

-- ---- a change that fits

pub record Room (n most held more : ℕ) : Type 0 where
  pub rows : n + 1 ≤ most
  pub cells : held + more ≤ most_cells

room : (n most held more : ℕ) → (nat_lt most (n + 1) || nat_lt most_cells (held + more)) ≡ false → Room n most held more
room n most held more e = record { rows = grind (arith, nat_tests, e); cells = grind (arith, nat_tests, e) }

pub record VertexFits (s : SchemaData) (f : Facts) (t : ℕ) (vs : List Value) : Type 0 where
  pub table : t < length s.vertices
  pub room : Room f.vertices most_vertices f.cells (length vs)

pub vertex_fits : (s : SchemaData) (f : Facts) (t : ℕ) (k : ℤ) (vs : List Value) → misfit_of s f (InsertVertex t k vs) ≡ None → VertexFits s f t vs
vertex_fits s f t k vs e =
    let a = no_cause (not (nat_lt t (length s.vertices))) _ _ e in
    let b = no_cause (not (length vs == length (vertex_props_at s t))) _ _ a.1 in
    let c = no_cause (not (kinds_fit (vertex_props_at s t) vs)) _ _ b.1 in
    let d = no_cause (taken_by s.keys (length s.vertices) (λ u. (f.vertex u k).there) t) _ _ c.1 in
    let l = no_cause (nat_lt most_vertices (f.vertices + 1) || nat_lt most_cells (f.cells + length vs)) _ _ d.1 in
    record { table = grind (arith, nat_tests, a.0); room = room f.vertices most_vertices f.cells (length vs) l.0 }

pub record EdgeFits (s : SchemaData) (f : Facts) (t : ℕ) (vs : List Value) : Type 0 where
  pub table : t < length s.edges
  pub room : Room f.edges most_edges f.cells (length vs)

pub edge_fits : (s : SchemaData) (f : Facts) (t : ℕ) (k a b : ℤ) (vs : List Value) → misfit_of s f (InsertEdge t k a b vs) ≡ None → EdgeFits s f t vs
edge_fits s f t k x y vs e =
    let a = no_cause (not (nat_lt t (length s.edges))) _ _ e in
    let b = no_cause (not (length vs == length (edge_props_at s t))) _ _ a.1 in
    let c = no_cause (not (kinds_fit (edge_props_at s t) vs)) _ _ b.1 in
    let d = no_cause (taken_by s.keys (length s.edges) (λ u. is_there (f.edge u k)) t) _ _ c.1 in
    let m = no_cause (not (f.vertex (source_at s t) x).there || not (f.vertex (destination_at s t) y).there) _ _ d.1 in
    let l = no_cause (nat_lt most_edges (f.edges + 1) || nat_lt most_cells (f.cells + length vs)) _ _ m.1 in
    record { table = grind (arith, nat_tests, a.0); room = room f.edges most_edges f.cells (length vs) l.0 }

one_few : (b : Bool) → one_if b ≤ 1
one_few true = omega arith
one_few false = omega arith

-- after one more end there are still few
pub few_more : (f h : Facts) (src dst : ℕ) (a b : ℤ) → AreFew f → h ≡ record f { vertex = more_ends f.vertex src a } → (h.vertex dst b).ends < 4294967295
few_more f h src dst a b few e = omega (arith, ap (λ z. (z.vertex dst b).ends) e, more_at f.vertex src a dst b, one_few (nat_eq src dst && int_eq a b), few.ends dst b)

-- ---- the numbers of a graph are within the limits

rows_few : (t : ℕ) (k : ℤ) (x : EdgeTable) (rows : List EdgeRow) → sum_by (ends_there t k x) rows ≤ 2 * length rows
rows_few t k x [] = omega arith
rows_few t k x (r ∷ rows) =
    omega (arith, sum_by-cons (ends_there t k x) r rows, one_few (x.source == t && int_eq r.source k), one_few (x.destination == t && int_eq r.destination k), rows_few t k x rows)

ends_few : (t : ℕ) (k : ℤ) (xs : List EdgeTable) (tables : List (List EdgeRow)) → sum_by (λ p. sum_by (ends_there t k p.0) p.1) (zip xs tables) ≤ 2 * sum_by length tables
ends_few t k [] tables = omega arith
ends_few t k (x ∷ xs) [] = omega arith
ends_few t k (x ∷ xs) (rows ∷ tables) =
    omega (
      arith,
      sum_by-cons (λ p. sum_by (ends_there t k p.0) p.1) (x, rows) (zip xs tables),
      sum_by-cons (λ (z : List EdgeRow). length z) rows tables,
      rows_few t k x rows,
      ends_few t k xs tables,
    )

pub few_facts : (g : GraphData) → IsGraph g → AreFew (facts g)
few_facts g is = record {
  ends = λ t k. omega (arith, ends_few t k g.schema.edges g.edges, is.few_edges);
  vertices = is.few_vertices;
  edges = is.few_edges;
  cells = is.few_cells;
}
