-- Graphs without rows are graphs, and graphs stay graphs.
use Rattle.std.proofs.Common.{◌≡◌, ℕ, zero, suc, ◌+◌, List, [], ◌∷◌, Option, Some, None, length, take, slice_get, refl, ap, ◌∙◌, arith, sum_by}
use Rattle.std.specs.List.{fold}
use Rattle.std.proofs.lemmas.List.Elements.{All-nil}
use Rattle.graph_schema.specs.Schema.{SchemaData, IsSchema}
use Rattle.graph_model.specs.declared.row.VertexRow.{VertexRow}
use Rattle.graph_model.specs.declared.row.EdgeRow.{EdgeRow}
use Rattle.graph_model.specs.declared.change.Change.{Change}
use Rattle.graph_model.specs.declared.change.Change.TheVariants.{InsertVertex, DeleteVertex, InsertEdge, DeleteEdge, SetVertex, SetEdge}
use Rattle.graph_model.specs.declared.change.Why.{Why}
use Rattle.graph_model.specs.Graph.{GraphData, IsGraph, AreValues, IsEdge, vertex_key, edge_key, vertex_values, edge_values, empty_graph}
use Rattle.graph_model.specs.Change.{misfit, changed, changed_unless, apply, after}
use Rattle.graph_model.proofs.Zips.{AllZip_empty}
use Rattle.graph_model.proofs.Totals.{nothing}
use Rattle.graph_model.proofs.Distinct.{distinct_nothing}
use Rattle.graph_model.proofs.VertexChanges as v
use Rattle.graph_model.proofs.EdgeChanges as e

pub empty_is_graph : (s : SchemaData) → IsSchema s → IsGraph (empty_graph s)
empty_is_graph s is = record {
  schema = is;
  vertices = AllZip_empty _ s.vertices (λ t. All-nil (λ r. AreValues t.props r.values));
  edges = AllZip_empty _ s.edges (λ t. All-nil (IsEdge (empty_graph s).vertices t));
  vertex_keys = distinct_nothing s.keys vertex_key (length s.vertices);
  edge_keys = distinct_nothing s.keys edge_key (length s.edges);
  few_vertices = omega (arith, nothing (λ (rows : List VertexRow). length rows) (length s.vertices) refl);
  few_edges = omega (arith, nothing (λ (rows : List EdgeRow). length rows) (length s.edges) refl);
  few_cells = omega (
    arith,
    nothing (λ (rows : List VertexRow). sum_by (λ r. length (vertex_values r)) rows) (length s.vertices) refl,
    nothing (λ (rows : List EdgeRow). sum_by (λ r. length (edge_values r)) rows) (length s.edges) refl,
  );
}

pub changed_keeps : (g : GraphData) (c : Change) → IsGraph g → misfit g c ≡ None → IsGraph (changed g c)
changed_keeps g (InsertVertex t k vs) is fits = v.insert_keeps g t k vs is (v.fits_vertex g t k vs fits)
changed_keeps g (DeleteVertex t k) is fits = v.delete_keeps g t k is (v.fits_delete g t k fits)
changed_keeps g (InsertEdge t k s d vs) is fits = e.insert_keeps g t k s d vs is (e.fits_edge g t k s d vs fits)
changed_keeps g (DeleteEdge t k) is fits = e.delete_keeps g t k is (e.fits_delete g t k fits)
changed_keeps g (SetVertex t k p w) is fits = v.set_keeps g t k p w is (v.fits_set g t k p w fits)
changed_keeps g (SetEdge t k p w) is fits = e.set_keeps g t k p w is (e.fits_set g t k p w fits)

keeps_by : (g : GraphData) (c : Change) (o : Option Why) → misfit g c ≡ o → IsGraph g → IsGraph (changed_unless o g c)
keeps_by g c (Some why) e is = is
keeps_by g c None e is = changed_keeps g c is e

pub apply_keeps : (g : GraphData) (c : Change) → IsGraph g → IsGraph (apply g c)
apply_keeps g c = keeps_by g c (misfit g c) refl

pub fold_keeps : (g : GraphData) (changes : List Change) → IsGraph g → IsGraph (fold apply g changes)
fold_keeps g [] is = is
fold_keeps g (c ∷ changes) is = fold_keeps (apply g c) changes (apply_keeps g c is)

pub after_keeps : (g : GraphData) (changes : List Change) (k : ℕ) → IsGraph g → IsGraph (after g changes k)
after_keeps g changes k = fold_keeps g (take k changes)

same_some : (a b : Change) → Some a ≡ Some b → a ≡ b
same_some a b f = cc

after_suc : (g : GraphData) (changes : List Change) (k : ℕ) (c : Change) → slice_get changes k ≡ Some c → after g changes (suc k) ≡ apply (after g changes k) c
after_suc g [] k c e = cc
after_suc g (x ∷ changes) zero c e = ap (apply g) (same_some x c e)
after_suc g (x ∷ changes) (suc k) c e = after_suc (apply g x) changes k c e

pub after_next : (g : GraphData) (changes : List Change) (k : ℕ) (c : Change) → slice_get changes k ≡ Some c → after g changes (k + 1) ≡ apply (after g changes k) c
after_next g changes k c e =
    let next : k + 1 ≡ suc k = omega arith in
    ap (after g changes) next ∙ after_suc g changes k c e
