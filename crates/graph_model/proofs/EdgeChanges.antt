-- A change of the edges that fits keeps a graph a graph.
use Rattle.std.proofs.Common.{◌≡◌, ℕ, ℤ, ◌+◌, ◌<◌, ◌≤◌, Bool, true, false, ◌||◌, not, List, [], None, length, get_or, refl, ap, ◌∙◌, subst, arith, nat_lt, ◌==◌, cond}
use Rattle.std.specs.Ordering.{int_eq}
use Rattle.std.proofs.lemmas.Bool.Decides.{nat_tests, Decides-int_eq}
use Rattle.std.proofs.lemmas.List.{length-set}
use Rattle.std.proofs.lemmas.List.Elements.{All-push, All-filter, All-map}
use Rattle.column_types.specs.declared.value.Value.{Value}
use Rattle.graph_schema.specs.declared.schema.EdgeTable.{EdgeTable}
use Rattle.graph_model.specs.declared.row.VertexRow.{VertexRow}
use Rattle.graph_model.specs.declared.row.EdgeRow.{EdgeRow}
use Rattle.graph_model.specs.declared.change.Change.TheVariants.{InsertEdge, DeleteEdge, SetEdge}
use Rattle.graph_model.specs.Keys.{rows_at, is_taken}
use Rattle.graph_model.specs.Graph.{GraphData, IsGraph, AreValues, AreEdges, IsEdge, edge_props_at, edge_table_props, source_at, destination_at, source_table, destination_table, edge_key, edge_values, has_edge_in, has_vertex_in, kinds_fit, edge_total, cell_total, most_edges, most_cells}
use Rattle.graph_model.specs.Change.{misfit, changed, kind_fits_at, with_edge_value}
use Rattle.graph_model.proofs.Rows.{or_false, not_false, total_push, sum_push}
use Rattle.graph_model.proofs.Zips.{no_cause, AllZip-set, AllZip-length}
use Rattle.graph_model.proofs.VertexChanges.{values_set}
use Rattle.graph_model.proofs.Totals.{rows_without, values_without, counts_without, rows_changed, values_changed, counts_changed}
use Rattle.graph_model.proofs.Distinct.{distinct_push, distinct_less}

-- ---- insert

-- what it takes to insert an edge
pub record FitsEdge (g : GraphData) (t : ℕ) (k s d : ℤ) (vs : List Value) : Type 0 where
  pub table : t < length g.schema.edges
  pub count : length vs ≡ length (edge_props_at g.schema t)
  pub kinds : kinds_fit (edge_props_at g.schema t) vs ≡ true
  pub key : is_taken g.schema.keys edge_key k g.edges t ≡ false
  pub source : has_vertex_in s (rows_at g.vertices (source_at g.schema t)) ≡ true
  pub destination : has_vertex_in d (rows_at g.vertices (destination_at g.schema t)) ≡ true
  pub room : edge_total g + 1 ≤ most_edges
  pub cells : cell_total g + length vs ≤ most_cells

pub fits_edge : (g : GraphData) (t : ℕ) (k s d : ℤ) (vs : List Value) → misfit g (InsertEdge t k s d vs) ≡ None → FitsEdge g t k s d vs
fits_edge g t k s d vs e =
    let props = edge_props_at g.schema t in
    let a = no_cause (not (nat_lt t (length g.schema.edges))) _ _ e in
    let b = no_cause (not (length vs == length props)) _ _ a.1 in
    let c = no_cause (not (kinds_fit props vs)) _ _ b.1 in
    let f = no_cause (is_taken g.schema.keys edge_key k g.edges t) _ _ c.1 in
    let from = has_vertex_in s (rows_at g.vertices (source_at g.schema t)) in
    let to = has_vertex_in d (rows_at g.vertices (destination_at g.schema t)) in
    let h = no_cause (not from || not to) _ _ f.1 in
    let ends = or_false (not from) (not to) h.0 in
    let l = no_cause (nat_lt most_edges (edge_total g + 1) || nat_lt most_cells (cell_total g + length vs)) _ _ h.1 in
    record {
      table = grind (arith, nat_tests, a.0);
      count = grind (arith, nat_tests, b.0);
      kinds = not_false _ c.0;
      key = f.0;
      source = not_false _ ends.0;
      destination = not_false _ ends.1;
      room = grind (arith, nat_tests, l.0);
      cells = grind (arith, nat_tests, l.0);
    }

pub insert_keeps : (g : GraphData) (t : ℕ) (k s d : ℤ) (vs : List Value) → IsGraph g → FitsEdge g t k s d vs → IsGraph (changed g (InsertEdge t k s d vs))
insert_keeps g t k s d vs is fits =
    let same : length g.schema.edges ≡ length g.edges = AllZip-length _ _ _ is.edges in
    let within : t < length g.edges = omega (arith, fits.table) in
    let row : EdgeRow = record { key = k; source = s; destination = d; values = vs } in
    record {
      schema = is.schema;
      vertices = is.vertices;
      edges = AllZip-set (AreEdges g.vertices) g.schema.edges g.edges t _ [] is.edges
          (λ x at rows.
          let values : AreValues x.props vs = record {
            count = fits.count ∙ ap (λ o. length (edge_table_props o)) at;
            kinds = subst (λ o. kinds_fit (edge_table_props o) vs ≡ true) at fits.kinds;
          } in
          let edge : IsEdge g.vertices x row = record {
            values = values;
            source = subst (λ o. has_vertex_in s (rows_at g.vertices (source_table o)) ≡ true) at fits.source;
            destination = subst (λ o. has_vertex_in d (rows_at g.vertices (destination_table o)) ≡ true) at fits.destination;
          } in
          All-push (IsEdge g.vertices x) _ row rows edge);
      vertex_keys = is.vertex_keys;
      edge_keys = distinct_push g.schema.keys edge_key g.edges t row within is.edge_keys fits.key;
      few_vertices = is.few_vertices;
      few_edges = omega (arith, total_push g.edges t row within, fits.room);
      few_cells = omega (arith, sum_push (λ r. length (edge_values r)) g.edges t row within, fits.cells);
    }

-- ---- delete

-- what it takes to delete an edge
pub record FitsDelete (g : GraphData) (t : ℕ) (k : ℤ) : Type 0 where
  pub table : t < length g.schema.edges
  pub key : has_edge_in k (rows_at g.edges t) ≡ true

pub fits_delete : (g : GraphData) (t : ℕ) (k : ℤ) → misfit g (DeleteEdge t k) ≡ None → FitsDelete g t k
fits_delete g t k e =
    let a = no_cause (not (nat_lt t (length g.schema.edges))) _ _ e in
    let b = no_cause (not (has_edge_in k (rows_at g.edges t))) _ _ a.1 in
    record { table = grind (arith, nat_tests, a.0); key = not_false _ b.0 }

pub delete_keeps : (g : GraphData) (t : ℕ) (k : ℤ) → IsGraph g → FitsDelete g t k → IsGraph (changed g (DeleteEdge t k))
delete_keeps g t k is fits =
    let same : length g.schema.edges ≡ length g.edges = AllZip-length _ _ _ is.edges in
    let within : t < length g.edges = omega (arith, fits.table) in
    record {
      schema = is.schema;
      vertices = is.vertices;
      edges = AllZip-set (AreEdges g.vertices) g.schema.edges g.edges t _ [] is.edges
          (λ x at rows. All-filter (λ r. not (int_eq r.key k)) (IsEdge g.vertices x) _ rows);
      vertex_keys = is.vertex_keys;
      edge_keys = distinct_less g.schema.keys edge_key g.edges t _ within is.edge_keys (counts_without edge_key k (rows_at g.edges t));
      few_vertices = is.few_vertices;
      few_edges = omega (arith, rows_without edge_key edge_values g.edges t k within, is.few_edges);
      few_cells = omega (arith, values_without edge_key edge_values g.edges t k within, is.few_cells);
    }

-- ---- set

edge_stays : (vertices : List (List VertexRow)) (x : EdgeTable) (p : ℕ) (v : Value) (r : EdgeRow) (b : Bool) → kind_fits_at x.props p v ≡ true → IsEdge vertices x r → IsEdge vertices x (cond b (with_edge_value p v r) r)
edge_stays vertices x p v r true f edge = record { values = values_set x.props r.values p v f edge.values; source = edge.source; destination = edge.destination }
edge_stays vertices x p v r false f edge = edge

key_stays : (p : ℕ) (v : Value) (q : ℤ) (r : EdgeRow) (b : Bool) → int_eq (edge_key (cond b (with_edge_value p v r) r)) q ≡ int_eq r.key q
key_stays p v q r true = refl
key_stays p v q r false = refl

width_stays : (p : ℕ) (v : Value) (r : EdgeRow) (b : Bool) → length (edge_values (cond b (with_edge_value p v r) r)) ≡ length r.values
width_stays p v r true = length-set r.values p v
width_stays p v r false = refl

-- what it takes to set a value of an edge
pub record FitsSet (g : GraphData) (t : ℕ) (k : ℤ) (p : ℕ) (v : Value) : Type 0 where
  pub table : t < length g.schema.edges
  pub kind : kind_fits_at (edge_props_at g.schema t) p v ≡ true
  pub key : has_edge_in k (rows_at g.edges t) ≡ true

pub fits_set : (g : GraphData) (t : ℕ) (k : ℤ) (p : ℕ) (v : Value) → misfit g (SetEdge t k p v) ≡ None → FitsSet g t k p v
fits_set g t k p v e =
    let a = no_cause (not (nat_lt t (length g.schema.edges))) _ _ e in
    let b = no_cause (not (nat_lt p (length (edge_props_at g.schema t)))) _ _ a.1 in
    let c = no_cause (not (kind_fits_at (edge_props_at g.schema t) p v)) _ _ b.1 in
    let d = no_cause (not (has_edge_in k (rows_at g.edges t))) _ _ c.1 in
    record { table = grind (arith, nat_tests, a.0); kind = not_false _ c.0; key = not_false _ d.0 }

pub set_keeps : (g : GraphData) (t : ℕ) (k : ℤ) (p : ℕ) (v : Value) → IsGraph g → FitsSet g t k p v → IsGraph (changed g (SetEdge t k p v))
set_keeps g t k p v is fits =
    let same : length g.schema.edges ≡ length g.edges = AllZip-length _ _ _ is.edges in
    let within : t < length g.edges = omega (arith, fits.table) in
    let set_one = with_edge_value p v in
    record {
      schema = is.schema;
      vertices = is.vertices;
      edges = AllZip-set (AreEdges g.vertices) g.schema.edges g.edges t _ [] is.edges
          (λ x at rows.
          let kind = subst (λ o. kind_fits_at (edge_table_props o) p v ≡ true) at fits.kind in
          All-map (IsEdge g.vertices x) (λ r. cond (int_eq r.key k) (with_edge_value p v r) r) (rows_at g.edges t) (λ i d h. edge_stays g.vertices x p v (get_or (rows_at g.edges t) i d) _ kind (rows i d h)));
      vertex_keys = is.vertex_keys;
      edge_keys = distinct_less g.schema.keys edge_key g.edges t _ within is.edge_keys (counts_changed edge_key k set_one (rows_at g.edges t) (λ z r. key_stays p v z r (int_eq r.key k)));
      few_vertices = is.few_vertices;
      few_edges = omega (arith, rows_changed edge_key edge_values g.edges t k within set_one, is.few_edges);
      few_cells = omega (arith, values_changed edge_key edge_values g.edges t k within set_one (λ r. width_stays p v r (int_eq r.key k)), is.few_cells);
    }
