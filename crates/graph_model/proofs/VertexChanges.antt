-- A change of the vertices that fits keeps a graph a graph.
use Rattle.std.proofs.Common.{◌≡◌, ℕ, ℤ, zero, suc, ◌+◌, ◌<◌, ◌≤◌, Bool, true, false, ◌||◌, ◌&&◌, not, List, [], ◌∷◌, ◌++◌, None, length, get_or, set, refl, ap, ◌∙◌, subst, arith, nat_lt, ◌==◌, cond}
use Rattle.std.specs.Ordering.{int_eq}
use Rattle.std.proofs.lemmas.Bool.Decides.{nat_tests, Decides-int_eq}
use Rattle.std.proofs.lemmas.List.{length-set}
use Rattle.std.proofs.lemmas.List.Elements.{All-push, All-weaker, All-filter, All-map}
use Rattle.column_types.specs.declared.value.Value.{Value}
use Rattle.column_types.specs.Value.{fits_kind}
use Rattle.graph_schema.specs.declared.schema.Prop.{Prop}
use Rattle.graph_schema.specs.declared.schema.EdgeTable.{EdgeTable}
use Rattle.graph_model.specs.declared.row.VertexRow.{VertexRow}
use Rattle.graph_model.specs.declared.row.EdgeRow.{EdgeRow}
use Rattle.graph_model.specs.declared.change.Change.TheVariants.{InsertVertex, DeleteVertex, SetVertex}
use Rattle.graph_model.specs.Keys.{rows_at, is_taken, without_key, change_at_key}
use Rattle.graph_model.specs.Graph.{GraphData, IsGraph, AreValues, AreVertices, AreEdges, IsEdge, vertex_props_at, vertex_table_props, vertex_key, vertex_values, has_vertex_in, ends_at, is_end, is_end_in, kinds_fit, vertex_total, cell_total, most_vertices, most_cells}
use Rattle.graph_model.specs.Change.{misfit, changed, kind_fits_at, with_vertex_value}
use Rattle.graph_model.proofs.Rows.{or_false, and_false, not_false, any_push, any_filter, any_map, any_false_at, rows_change, rows_change_where, total_push, sum_push}
use Rattle.graph_model.proofs.Zips.{no_cause, AllZip-set, AllZip-weaker, AllZip-length, AllZip_where}
use Rattle.graph_model.proofs.Totals.{rows_without, values_without, counts_without, rows_changed, values_changed, counts_changed}
use Rattle.graph_model.proofs.Distinct.{distinct_push, distinct_less}

-- ---- insert

-- what it takes to insert a vertex
pub record FitsVertex (g : GraphData) (t : ℕ) (k : ℤ) (vs : List Value) : Type 0 where
  pub table : t < length g.schema.vertices
  pub count : length vs ≡ length (vertex_props_at g.schema t)
  pub kinds : kinds_fit (vertex_props_at g.schema t) vs ≡ true
  pub key : is_taken g.schema.keys vertex_key k g.vertices t ≡ false
  pub room : vertex_total g + 1 ≤ most_vertices
  pub cells : cell_total g + length vs ≤ most_cells

pub fits_vertex : (g : GraphData) (t : ℕ) (k : ℤ) (vs : List Value) → misfit g (InsertVertex t k vs) ≡ None → FitsVertex g t k vs
fits_vertex g t k vs e =
    let props = vertex_props_at g.schema t in
    let a = no_cause (not (nat_lt t (length g.schema.vertices))) _ _ e in
    let b = no_cause (not (length vs == length props)) _ _ a.1 in
    let c = no_cause (not (kinds_fit props vs)) _ _ b.1 in
    let d = no_cause (is_taken g.schema.keys vertex_key k g.vertices t) _ _ c.1 in
    let l = no_cause (nat_lt most_vertices (vertex_total g + 1) || nat_lt most_cells (cell_total g + length vs)) _ _ d.1 in
    record {
      table = grind (arith, nat_tests, a.0);
      count = grind (arith, nat_tests, b.0);
      kinds = not_false _ c.0;
      key = d.0;
      room = grind (arith, nat_tests, l.0);
      cells = grind (arith, nat_tests, l.0);
    }

edge_stays : (vertices : List (List VertexRow)) (t : ℕ) (row : VertexRow) (x : EdgeTable) (r : EdgeRow) → IsEdge vertices x r → IsEdge (set vertices t (rows_at vertices t ++ row ∷ [])) x r
edge_stays vertices t row x r edge = record {
  values = edge.values;
  source = rows_change (λ v. int_eq v.key r.source) vertices t x.source _ (any_push (λ v. int_eq v.key r.source) (rows_at vertices t) row) edge.source;
  destination = rows_change (λ v. int_eq v.key r.destination) vertices t x.destination _ (any_push (λ v. int_eq v.key r.destination) (rows_at vertices t) row) edge.destination;
}

pub insert_keeps : (g : GraphData) (t : ℕ) (k : ℤ) (vs : List Value) → IsGraph g → FitsVertex g t k vs → IsGraph (changed g (InsertVertex t k vs))
insert_keeps g t k vs is fits =
    let same : length g.schema.vertices ≡ length g.vertices = AllZip-length _ _ _ is.vertices in
    let within : t < length g.vertices = omega (arith, fits.table) in
    let row : VertexRow = record { key = k; values = vs } in
    record {
      schema = is.schema;
      vertices = AllZip-set AreVertices g.schema.vertices g.vertices t _ [] is.vertices
          (λ x at rows.
          let values : AreValues x.props vs = record {
            count = fits.count ∙ ap (λ o. length (vertex_table_props o)) at;
            kinds = subst (λ o. kinds_fit (vertex_table_props o) vs ≡ true) at fits.kinds;
          } in
          All-push (λ r. AreValues x.props r.values) _ row rows values);
      edges = AllZip-weaker _ _ g.schema.edges g.edges
          (λ x rows old. All-weaker (IsEdge g.vertices x) _ (λ r edge. edge_stays g.vertices t row x r edge) rows old)
          is.edges;
      vertex_keys = distinct_push g.schema.keys vertex_key g.vertices t row within is.vertex_keys fits.key;
      edge_keys = is.edge_keys;
      few_vertices = omega (arith, total_push g.vertices t row within, fits.room);
      few_edges = is.few_edges;
      few_cells = omega (arith, sum_push (λ r. length (vertex_values r)) g.vertices t row within, fits.cells);
    }

-- ---- delete

-- what it takes to delete a vertex
pub record FitsDelete (g : GraphData) (t : ℕ) (k : ℤ) : Type 0 where
  pub table : t < length g.schema.vertices
  pub key : has_vertex_in k (rows_at g.vertices t) ≡ true
  pub free : is_end g.schema t k g.edges ≡ false

pub fits_delete : (g : GraphData) (t : ℕ) (k : ℤ) → misfit g (DeleteVertex t k) ≡ None → FitsDelete g t k
fits_delete g t k e =
    let a = no_cause (not (nat_lt t (length g.schema.vertices))) _ _ e in
    let b = no_cause (not (has_vertex_in k (rows_at g.vertices t))) _ _ a.1 in
    let c = no_cause (is_end g.schema t k g.edges) _ _ b.1 in
    record { table = grind (arith, nat_tests, a.0); key = not_false _ b.0; free = c.0 }

kept_row : (k s : ℤ) (r : VertexRow) → int_eq s k ≡ false → int_eq r.key s ≡ true → not (int_eq r.key k) ≡ true
kept_row k s r apart same = ap (λ b. not b) (ap (λ x. int_eq x k) ((Decides-int_eq r.key s).0 same) ∙ apart)

-- the test of an end that fails, where the edge's end table is that of the vertex
end_apart : (s t : ℕ) (k e : ℤ) → (s == t && int_eq e k) ≡ false → s ≡ t → int_eq e k ≡ false
end_apart s t k e apart same = and_false (s == t) (int_eq e k) apart (grind (arith, nat_tests, same))

end_kept : (g : GraphData) (t : ℕ) (k : ℤ) (s : ℕ) (e : ℤ) → (s == t && int_eq e k) ≡ false → has_vertex_in e (rows_at g.vertices s) ≡ true → has_vertex_in e (rows_at (set g.vertices t (without_key vertex_key k (rows_at g.vertices t))) s) ≡ true
end_kept g t k s e apart there =
    rows_change_where (λ v. int_eq v.key e) g.vertices t s _
    (λ same. any_filter (λ v. int_eq v.key e) (λ v. not (int_eq v.key k)) (rows_at g.vertices t) (λ v h. kept_row k e v (end_apart s t k e apart same) h))
    there

edge_kept : (g : GraphData) (t : ℕ) (k : ℤ) (x : EdgeTable) (r : EdgeRow) → ends_at t k x r ≡ false → IsEdge g.vertices x r → IsEdge (set g.vertices t (without_key vertex_key k (rows_at g.vertices t))) x r
edge_kept g t k x r apart edge =
    let parts = or_false (x.source == t && int_eq r.source k) (x.destination == t && int_eq r.destination k) apart in
    record {
      values = edge.values;
      source = end_kept g t k x.source r.source parts.0 edge.source;
      destination = end_kept g t k x.destination r.destination parts.1 edge.destination;
    }

pub delete_keeps : (g : GraphData) (t : ℕ) (k : ℤ) → IsGraph g → FitsDelete g t k → IsGraph (changed g (DeleteVertex t k))
delete_keeps g t k is fits =
    let same : length g.schema.vertices ≡ length g.vertices = AllZip-length _ _ _ is.vertices in
    let within : t < length g.vertices = omega (arith, fits.table) in
    record {
      schema = is.schema;
      vertices = AllZip-set AreVertices g.schema.vertices g.vertices t _ [] is.vertices
          (λ x at rows. All-filter (λ r. not (int_eq r.key k)) (λ r. AreValues x.props r.values) _ rows);
      edges = AllZip_where (AreEdges g.vertices) _ (λ p. is_end_in t k p.0 p.1) g.schema.edges g.edges fits.free
          (λ x rows apart old i d h. edge_kept g t k x (get_or rows i d) (any_false_at _ rows i d apart h) (old i d h))
          is.edges;
      vertex_keys = distinct_less g.schema.keys vertex_key g.vertices t _ within is.vertex_keys (counts_without vertex_key k (rows_at g.vertices t));
      edge_keys = is.edge_keys;
      few_vertices = omega (arith, rows_without vertex_key vertex_values g.vertices t k within, is.few_vertices);
      few_edges = is.few_edges;
      few_cells = omega (arith, values_without vertex_key vertex_values g.vertices t k within, is.few_cells);
    }

-- ---- set

and_true : (a b : Bool) → (a && b) ≡ true → (a ≡ true) × (b ≡ true)
and_true true b e = (refl, e)
and_true false b e = cc

both_true : (a b : Bool) → a ≡ true → b ≡ true → (a && b) ≡ true
both_true true b e f = f
both_true false b e f = cc

pub kinds_fit-set : (props : List Prop) (values : List Value) (p : ℕ) (v : Value) → kinds_fit props values ≡ true → kind_fits_at props p v ≡ true → kinds_fit props (set values p v) ≡ true
kinds_fit-set [] [] p v e f = refl
kinds_fit-set [] (w ∷ values) zero v e f = refl
kinds_fit-set [] (w ∷ values) (suc p) v e f = refl
kinds_fit-set (q ∷ props) [] p v e f = e
kinds_fit-set (q ∷ props) (w ∷ values) zero v e f = both_true _ _ f (and_true (fits_kind q.kind w) (kinds_fit props values) e).1
kinds_fit-set (q ∷ props) (w ∷ values) (suc p) v e f =
    let parts = and_true (fits_kind q.kind w) (kinds_fit props values) e in
    both_true _ _ parts.0 (kinds_fit-set props values p v parts.1 f)

-- values stay values where one of them is set
pub values_set : (props : List Prop) (values : List Value) (p : ℕ) (v : Value) → kind_fits_at props p v ≡ true → AreValues props values → AreValues props (set values p v)
values_set props values p v f is = record { count = length-set values p v ∙ is.count; kinds = kinds_fit-set props values p v is.kinds f }

values_stay : (props : List Prop) (p : ℕ) (v : Value) (r : VertexRow) (b : Bool) → kind_fits_at props p v ≡ true → AreValues props r.values → AreValues props (cond b (with_vertex_value p v r) r).values
values_stay props p v r true f is = values_set props r.values p v f is
values_stay props p v r false f is = is

key_stays : (p : ℕ) (v : Value) (q : ℤ) (r : VertexRow) (b : Bool) → int_eq (vertex_key (cond b (with_vertex_value p v r) r)) q ≡ int_eq r.key q
key_stays p v q r true = refl
key_stays p v q r false = refl

width_stays : (p : ℕ) (v : Value) (r : VertexRow) (b : Bool) → length (vertex_values (cond b (with_vertex_value p v r) r)) ≡ length r.values
width_stays p v r true = length-set r.values p v
width_stays p v r false = refl

-- what it takes to set a value of a vertex
pub record FitsSet (g : GraphData) (t : ℕ) (k : ℤ) (p : ℕ) (v : Value) : Type 0 where
  pub table : t < length g.schema.vertices
  pub kind : kind_fits_at (vertex_props_at g.schema t) p v ≡ true
  pub key : has_vertex_in k (rows_at g.vertices t) ≡ true

pub fits_set : (g : GraphData) (t : ℕ) (k : ℤ) (p : ℕ) (v : Value) → misfit g (SetVertex t k p v) ≡ None → FitsSet g t k p v
fits_set g t k p v e =
    let a = no_cause (not (nat_lt t (length g.schema.vertices))) _ _ e in
    let b = no_cause (not (nat_lt p (length (vertex_props_at g.schema t)))) _ _ a.1 in
    let c = no_cause (not (kind_fits_at (vertex_props_at g.schema t) p v)) _ _ b.1 in
    let d = no_cause (not (has_vertex_in k (rows_at g.vertices t))) _ _ c.1 in
    record { table = grind (arith, nat_tests, a.0); kind = not_false _ c.0; key = not_false _ d.0 }

still_there : (g : GraphData) (t : ℕ) (k : ℤ) (p : ℕ) (v : Value) (q : ℤ) → has_vertex_in q (rows_at g.vertices t) ≡ true → has_vertex_in q (change_at_key vertex_key k (with_vertex_value p v) (rows_at g.vertices t)) ≡ true
still_there g t k p v q e =
    any_map (λ r. int_eq r.key q) (λ r. cond (int_eq r.key k) (with_vertex_value p v r) r) (rows_at g.vertices t) (λ r. key_stays p v q r (int_eq r.key k)) ∙ e

edge_holds : (g : GraphData) (t : ℕ) (k : ℤ) (p : ℕ) (v : Value) (x : EdgeTable) (r : EdgeRow) → IsEdge g.vertices x r → IsEdge (set g.vertices t (change_at_key vertex_key k (with_vertex_value p v) (rows_at g.vertices t))) x r
edge_holds g t k p v x r edge = record {
  values = edge.values;
  source = rows_change (λ y. int_eq y.key r.source) g.vertices t x.source _ (still_there g t k p v r.source) edge.source;
  destination = rows_change (λ y. int_eq y.key r.destination) g.vertices t x.destination _ (still_there g t k p v r.destination) edge.destination;
}

pub set_keeps : (g : GraphData) (t : ℕ) (k : ℤ) (p : ℕ) (v : Value) → IsGraph g → FitsSet g t k p v → IsGraph (changed g (SetVertex t k p v))
set_keeps g t k p v is fits =
    let same : length g.schema.vertices ≡ length g.vertices = AllZip-length _ _ _ is.vertices in
    let within : t < length g.vertices = omega (arith, fits.table) in
    let set_one = with_vertex_value p v in
    record {
      schema = is.schema;
      vertices = AllZip-set AreVertices g.schema.vertices g.vertices t _ [] is.vertices
          (λ x at rows.
          let kind = subst (λ o. kind_fits_at (vertex_table_props o) p v ≡ true) at fits.kind in
          All-map (λ r. AreValues x.props r.values) (λ r. cond (int_eq r.key k) (with_vertex_value p v r) r) (rows_at g.vertices t) (λ i d h. values_stay x.props p v (get_or (rows_at g.vertices t) i d) _ kind (rows i d h)));
      edges = AllZip-weaker (AreEdges g.vertices) _ g.schema.edges g.edges
          (λ x rows old i d h. edge_holds g t k p v x (get_or rows i d) (old i d h)) is.edges;
      vertex_keys = distinct_less g.schema.keys vertex_key g.vertices t _ within is.vertex_keys (counts_changed vertex_key k set_one (rows_at g.vertices t) (λ z r. key_stays p v z r (int_eq r.key k)));
      edge_keys = is.edge_keys;
      few_vertices = omega (arith, rows_changed vertex_key vertex_values g.vertices t k within set_one, is.few_vertices);
      few_edges = is.few_edges;
      few_cells = omega (arith, values_changed vertex_key vertex_values g.vertices t k within set_one (λ r. width_stays p v r (int_eq r.key k)), is.few_cells);
    }
