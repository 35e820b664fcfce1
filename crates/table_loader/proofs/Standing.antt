-- Table files stand for a graph exactly where their rows are one.
use Rattle.std.proofs.Common.{◌≡◌, ◌∙◌, refl, sym, ap, subst, ℕ, ◌+◌, ◌-◌, true, false, nat_lt, List, [], ◌∷◌, ◌++◌, length, drop, replicate, slice_get, Some, Ok, arith, length-append, length-drop}
use Rattle.std.proofs.lemmas.Bool.Decides.{nat_tests}
use Rattle.std.proofs.lemmas.List.{drop_all}
use Rattle.graph_schema.specs.declared.schema.VertexTable.{VertexTable}
use Rattle.graph_schema.specs.declared.schema.EdgeTable.{EdgeTable}
use Rattle.graph_schema.specs.Schema.{SchemaData}
use Rattle.graph_model.specs.declared.row.EdgeRow.{EdgeRow}
use Rattle.graph_model.specs.Graph.{GraphData, IsGraph, empty_graph, vertex_props_at, edge_props_at, vertex_table_props, edge_table_props}
use Rattle.graph_model.specs.FromRows.{vertex_put, edge_put}
use Rattle.graph_model.proofs.Graphs.{empty_is_graph}
use Rattle.graph_model.proofs.Fitting.{graph_of, vertex_fits, edge_fits, vertex_push, edge_push}
use Rattle.table_loader.specs.Fault.{◌>>=◌}
use Rattle.table_loader.specs.Record.{vertex_of, edge_of}
use Rattle.table_loader.specs.Tables.{vertex_change, edge_change, file_change, put_files, tables_of}
use Rattle.table_loader.specs.Law.{HasRowsOf, TablesStandForAGraph}
use Rattle.table_loader.proofs.Growing.{again, same_ok, files_keep, files_read, files_put}

-- ---- the table of a file

got_here : {T : Type 0} (before after : List T) (t : T) → slice_get (before ++ t ∷ after) (length before) ≡ Some t
got_here [] after t = refl
got_here (x ∷ before) after t = got_here before after t

vertex_at : (s : SchemaData) (before after : List VertexTable) (t : VertexTable) (fields : List (List ℕ)) (n : ℕ) → s.vertices ≡ before ++ t ∷ after → n ≡ length before
    → file_change s n fields ≡ (vertex_of t.props fields >>= (λ r. Ok (vertex_put (length before) r)))
unfolding file_change vertex_change
vertex_at s before after t fields n is e =
    let within : nat_lt n (length s.vertices) ≡ true = grind (arith, nat_tests, ap length is, length-append before (t ∷ after)) in
    let props : vertex_props_at s n ≡ t.props = ap vertex_table_props (subst (λ m. slice_get s.vertices m ≡ Some t) (sym e) (subst (λ ts. slice_get ts (length before) ≡ Some t) (sym is) (got_here before after t))) in
    rw (within, props, e) refl

vertex_file : (s : SchemaData) (before after : List VertexTable) (t : VertexTable) (fields : List (List ℕ)) → s.vertices ≡ before ++ t ∷ after
    → file_change s (0 + length before) fields ≡ (vertex_of t.props fields >>= (λ r. Ok (vertex_put (length before) r)))
vertex_file s before after t fields is = vertex_at s before after t fields (0 + length before) is (omega arith)

edge_at : (s : SchemaData) (before after : List EdgeTable) (t : EdgeTable) (fields : List (List ℕ)) (n m : ℕ) → s.edges ≡ before ++ t ∷ after → n ≡ length s.vertices + length before → m ≡ length before → n - length s.vertices ≡ m
    → file_change s n fields ≡ (edge_of t.props fields >>= (λ r. Ok (edge_put (length before) r)))
unfolding file_change edge_change
edge_at s before after t fields n m is e f g =
    let past : nat_lt n (length s.vertices) ≡ false = grind (arith, nat_tests) in
    let props : edge_props_at s m ≡ t.props = ap edge_table_props (subst (λ k. slice_get s.edges k ≡ Some t) (sym f) (subst (λ ts. slice_get ts (length before) ≡ Some t) (sym is) (got_here before after t))) in
    rw (past, g, props, f) refl

edge_file : (s : SchemaData) (before after : List EdgeTable) (t : EdgeTable) (fields : List (List ℕ)) → s.edges ≡ before ++ t ∷ after
    → file_change s (length s.vertices + length before) fields ≡ (edge_of t.props fields >>= (λ r. Ok (edge_put (length before) r)))
edge_file s before after t fields is = edge_at s before after t fields (length s.vertices + length before) (length before) is refl refl (omega arith)

-- ---- the law

no_edges : SchemaData → List (List EdgeRow)
no_edges s = replicate (length s.edges) []

none_left : (nv ne : ℕ) (files : List (List ℕ)) → length files ≡ nv + ne → drop ne (drop nv files) ≡ []
none_left nv ne files all = drop_all ne (drop nv files) (omega (arith, all, length-drop nv files))

accepted : (s : SchemaData) (files : List (List ℕ)) (g : GraphData) → length files ≡ length s.vertices + length s.edges → tables_of s files ≡ Ok g → HasRowsOf s files g
unfolding put_files no_edges
accepted s files g all e =
    let nv = length s.vertices in
    let p = files_read s s.vertices 0 (λ t. vertex_of t.props) vertex_put (λ vs. graph_of s vs (no_edges s)) (vertex_push s (no_edges s)) (vertex_file s)
    [] s.vertices [] files g refl refl (omega arith) e in
    let q = files_read s s.edges nv (λ t. edge_of t.props) edge_put (λ es. graph_of s p.0 es) (edge_push s p.0) (edge_file s)
    [] s.edges [] (drop nv files) g refl refl (omega (arith, all, length-drop nv files)) (again s _ _ _ _ (drop nv files) (Ok g) (omega arith) refl p.2) in
    let end = subst (λ fs. put_files s (nv + (0 + length s.edges)) (graph_of s p.0 q.0) fs ≡ Ok g) (none_left nv (length s.edges) files all) q.2 in
    subst (HasRowsOf s files) (sym (same_ok (graph_of s p.0 q.0) g end)) (record { schema = refl; vertices = p.1; edges = q.1 })

accepts : (s : SchemaData) (files : List (List ℕ)) (g : GraphData) → length files ≡ length s.vertices + length s.edges → HasRowsOf s files g → IsGraph g → tables_of s files ≡ Ok g
unfolding put_files no_edges
accepts s files g all has is_graph =
    let nv = length s.vertices in
    let is : IsGraph (graph_of s g.vertices g.edges) = subst (λ x. IsGraph (graph_of x g.vertices g.edges)) has.schema is_graph in
    let first = files_put s s.vertices 0 (λ t. vertex_of t.props) vertex_put (λ vs. graph_of s vs (no_edges s)) (vertex_push s (no_edges s)) (vertex_file s)
    g.vertices (vertex_fits s g.vertices g.edges is) [] s.vertices [] g.vertices files refl refl refl (omega arith) has.vertices in
    let second = files_put s s.edges nv (λ t. edge_of t.props) edge_put (λ es. graph_of s g.vertices es) (edge_push s g.vertices) (edge_file s)
    g.edges (edge_fits s g.vertices g.edges is) [] s.edges [] g.edges (drop nv files) refl refl refl (omega (arith, all, length-drop nv files)) has.edges in
    first
    ∙ (again s _ _ _ _ (drop nv files) _ (omega arith) refl second
    ∙ (ap (put_files s (nv + (0 + length s.edges)) (graph_of s g.vertices g.edges)) (none_left nv (length s.edges) files all)
    ∙ ap (λ x. Ok (graph_of x g.vertices g.edges)) (sym has.schema)))

pub tables_stand : TablesStandForAGraph
tables_stand = λ s files g schema all. (
  λ e. (accepted s files g all e, files_keep s 0 (empty_graph s) g files (empty_is_graph s schema) e),
  λ h. accepts s files g all h.0 h.1,
)
