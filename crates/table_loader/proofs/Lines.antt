-- The lines of an inline source are accepted exactly where their rows are a graph.
use Rattle.std.proofs.Common.{◌≡◌, ◌∙◌, refl, sym, ap, subst, ℕ, ℤ, ◌+◌, ◌≤◌, Bool, true, false, ◌||◌, nat_lt, List, [], ◌∷◌, ◌++◌, length, map, Option, Some, None, Result, Ok, Err, append_assoc, arith, count_by, sum_by, codes}
use Rattle.std.specs.Prelude.{All, IsOk, is_ok}
use Rattle.std.specs.List.{list_any, AllByRecursion}
use Rattle.std.specs.Ordering.{int_eq}
use Rattle.std.proofs.lemmas.Bool.{false≢true}
use Rattle.std.proofs.lemmas.Bool.Decides.{nat_tests, Decides-int_eq}
use Rattle.std.proofs.lemmas.List.{append-nil, length-map, length-append}
use Rattle.std.proofs.lemmas.List.Sums.{sum_by-cons}
use Rattle.std.proofs.lemmas.List.Elements.{recursion_from_All}
use Rattle.graph_schema.specs.Schema.{IsSchema}
use Rattle.graph_model.specs.declared.row.VertexRow.{VertexRow}
use Rattle.graph_model.specs.declared.row.EdgeRow.{EdgeRow}
use Rattle.graph_model.specs.declared.change.Change.{Change}
use Rattle.graph_model.specs.declared.change.Change.TheVariants.{InsertVertex, InsertEdge}
use Rattle.graph_model.specs.declared.change.Why.{Why}
use Rattle.graph_model.specs.Keys.{count_in, cells_in}
use Rattle.graph_model.specs.Graph.{GraphData, IsGraph, IsEdge, empty_graph, vertex_key, edge_key, vertex_values, edge_values, has_vertex_in, vertex_total, edge_total, cell_total, most_vertices, most_edges, most_cells}
use Rattle.graph_model.specs.Change.{misfit, changed}
use Rattle.graph_model.proofs.Rows.{none_counted, count_cons, counts_one}
use Rattle.graph_model.proofs.Graphs.{empty_is_graph}
use Rattle.table_loader.specs.declared.fault.LoadFault.{LoadFault}
use Rattle.table_loader.specs.Fault.{◌>>=◌, at_record}
use Rattle.table_loader.specs.Put.{unless_misfit, put_all}
use Rattle.table_loader.proofs.Growing.{split, same_ok, parts, records_keep}
use Rattle.table_loader.specs.Inline.{inline_schema, inline_of, vertex_line, edge_line, put_vertices, put_edges, vertex_row, edge_row, rows_of_lines, LinesStandForAGraph}

map-push : {A B : Type 0} (f : A → B) (xs : List A) (x : A) → map f (xs ++ x ∷ []) ≡ map f xs ++ f x ∷ []
map-push f [] x = refl
map-push f (y ∷ ys) x = ap (λ zs. f y ∷ zs) (map-push f ys x)

abbrev vertex_change : ℤ → Change
vertex_change key = InsertVertex 0 key []

abbrev edge_change : ℤ × ℤ × ℤ → Change
edge_change edge = InsertEdge 0 edge.0 edge.1 edge.2 []

-- one more line is one more row
vertex_more : (vs : List ℤ) (es : List (ℤ × ℤ × ℤ)) (k : ℤ) → changed (rows_of_lines vs es) (vertex_change k) ≡ rows_of_lines (vs ++ k ∷ []) es
vertex_more vs es k =
    ap (λ (rows : List VertexRow). record { schema = inline_schema; vertices = rows ∷ []; edges = map edge_row es ∷ [] }) (sym (map-push vertex_row vs k))

edge_more : (vs : List ℤ) (es : List (ℤ × ℤ × ℤ)) (e : ℤ × ℤ × ℤ) → changed (rows_of_lines vs es) (edge_change e) ≡ rows_of_lines vs (es ++ e ∷ [])
edge_more vs es e =
    ap (λ (rows : List EdgeRow). record { schema = inline_schema; vertices = map vertex_row vs ∷ []; edges = rows ∷ [] }) (sym (map-push edge_row es e))

-- ---- accepted lines stand for their rows

vertices_are_rows : (row : ℕ) (vs ws : List ℤ) (h : GraphData) → put_vertices row (rows_of_lines vs []) ws ≡ Ok h → h ≡ rows_of_lines (vs ++ ws) []
unfolding put_all
vertices_are_rows row vs [] h e = same_ok _ h e ∙ ap (λ xs. rows_of_lines xs []) (sym (append-nil vs))
vertices_are_rows row vs (w ∷ ws) h e =
    let p = split 0 row (misfit (rows_of_lines vs []) (vertex_change w)) (changed (rows_of_lines vs []) (vertex_change w)) (λ g. put_vertices (row + 1) g ws) h e in
    let q = subst (λ g. put_vertices (row + 1) g ws ≡ Ok h) (vertex_more vs [] w) p.1 in
    vertices_are_rows (row + 1) (vs ++ w ∷ []) ws h q ∙ ap (λ xs. rows_of_lines xs []) (append_assoc vs (w ∷ []) ws)

edges_are_rows : (row : ℕ) (vs : List ℤ) (es fs : List (ℤ × ℤ × ℤ)) (h : GraphData) → put_edges row (rows_of_lines vs es) fs ≡ Ok h → h ≡ rows_of_lines vs (es ++ fs)
unfolding put_all
edges_are_rows row vs es [] h e = same_ok _ h e ∙ ap (λ xs. rows_of_lines vs xs) (sym (append-nil es))
edges_are_rows row vs es (f ∷ fs) h e =
    let p = split 1 row (misfit (rows_of_lines vs es) (edge_change f)) (changed (rows_of_lines vs es) (edge_change f)) (λ g. put_edges (row + 1) g fs) h e in
    let q = subst (λ g. put_edges (row + 1) g fs ≡ Ok h) (edge_more vs es f) p.1 in
    edges_are_rows (row + 1) vs (es ++ f ∷ []) fs h q ∙ ap (λ xs. rows_of_lines vs xs) (append_assoc es (f ∷ []) fs)

inline_is_schema : IsSchema inline_schema
inline_is_schema = record { named = refl; ends = refl; faultless = refl }

-- ---- rows that are a graph are accepted

middle : {X : Type 0} (P : X → Type 0) (xs ys : List X) (y : X) → AllByRecursion P (xs ++ y ∷ ys) → P y
middle P [] ys y h = h.0
middle P (x ∷ xs) ys y h = middle P xs ys y h.1

map-append : {A B : Type 0} (f : A → B) (xs ys : List A) → map f (xs ++ ys) ≡ map f xs ++ map f ys
map-append f [] ys = refl
map-append f (x ∷ xs) ys = ap (λ zs. f x ∷ zs) (map-append f xs ys)

counts-split : {R : Type 0} (p : R → Bool) (xs ys : List R) → count_by p (xs ++ ys) ≡ count_by p xs + count_by p ys
counts-split p [] ys = omega arith
counts-split p (x ∷ xs) ys = omega (arith, counts-split p xs ys, count_cons p x (xs ++ ys), count_cons p x xs)

-- an element that is counted at most once is not among those before it
apart : {R : Type 0} (p : R → Bool) (xs ys : List R) (y : R) → p y ≡ true → count_by p (xs ++ y ∷ ys) ≤ 1 → list_any p xs ≡ false
apart p xs ys y e once =
    let none : count_by p xs ≡ 0 = omega (arith, once, counts-split p xs (y ∷ ys), count_cons p y ys, counts_one (p y) e) in
    none_counted p xs none

sum_by-nil : {X : Type 0} (f : X → ℕ) → sum_by f [] ≡ 0
sum_by-nil f = refl

sum-one : {R : Type 0} (f : List R → ℕ) (rows : List R) → sum_by f (rows ∷ []) ≡ f rows
sum-one f rows = omega (arith, sum_by-cons f rows [], sum_by-nil f)

no_values : {A R : Type 0} (f : A → R) (values : R → ℕ) (xs : List A) → ((x : A) → values (f x) ≡ 0) → sum_by values (map f xs) ≡ 0
no_values f values [] none = sum_by-nil values
no_values f values (x ∷ xs) none = omega (arith, sum_by-cons values (f x) (map f xs), none x, no_values f values xs none)

no_cells : (vs : List ℤ) (es : List (ℤ × ℤ × ℤ)) → cell_total (rows_of_lines vs es) ≡ 0
no_cells vs es =
    omega (
      arith,
      sum-one (cells_in vertex_values) (map vertex_row vs),
      sum-one (cells_in edge_values) (map edge_row es),
      no_values vertex_row (λ r. length (vertex_values r)) vs (λ k. refl),
      no_values edge_row (λ r. length (edge_values r)) es (λ e. refl),
    )

vertices_of : (vs : List ℤ) (es : List (ℤ × ℤ × ℤ)) → vertex_total (rows_of_lines vs es) ≡ length vs
vertices_of vs es = sum-one length (map vertex_row vs) ∙ length-map vs vertex_row

edges_of : (vs : List ℤ) (es : List (ℤ × ℤ × ℤ)) → edge_total (rows_of_lines vs es) ≡ length es
edges_of vs es = sum-one length (map edge_row es) ∙ length-map es edge_row

within : (most a cells : ℕ) → a ≤ most → cells ≡ 0 → (nat_lt most a || nat_lt most_cells (cells + 0)) ≡ false
within most a cells h e = grind (arith, nat_tests)

same_key : (k : ℤ) → int_eq k k ≡ true
same_key k = (Decides-int_eq k k).1 refl

vertex_fits : (vs ws : List ℤ) (es : List (ℤ × ℤ × ℤ)) (k : ℤ) → IsGraph (rows_of_lines (vs ++ k ∷ ws) es) → misfit (rows_of_lines vs []) (vertex_change k) ≡ None
vertex_fits vs ws es k is =
    let once : count_by (λ r. int_eq (vertex_key r) k) (map vertex_row vs ++ vertex_row k ∷ map vertex_row ws) ≤ 1 =
    subst (λ rows. count_by (λ r. int_eq (vertex_key r) k) rows ≤ 1) (map-append vertex_row vs (k ∷ ws))
    (omega (arith, is.vertex_keys k, sum-one (count_in vertex_key k) (map vertex_row (vs ++ k ∷ ws)))) in
    let free : list_any (λ r. int_eq (vertex_key r) k) (map vertex_row vs) ≡ false =
    apart (λ r. int_eq (vertex_key r) k) (map vertex_row vs) (map vertex_row ws) (vertex_row k) (same_key k) once in
    let few : vertex_total (rows_of_lines vs []) + 1 ≤ most_vertices =
    omega (arith, is.few_vertices, vertices_of vs [], vertices_of (vs ++ k ∷ ws) es, length-append vs (k ∷ ws)) in
    let room = within most_vertices (vertex_total (rows_of_lines vs []) + 1) (cell_total (rows_of_lines vs [])) few (no_cells vs []) in
    rw (free, room) refl

ends_of : (vs : List ℤ) (es fs : List (ℤ × ℤ × ℤ)) (e : ℤ × ℤ × ℤ) → IsGraph (rows_of_lines vs (es ++ e ∷ fs))
    → IsEdge (rows_of_lines vs (es ++ e ∷ fs)).vertices (record { name = codes "E"; source = 0; destination = 0; props = [] }) (edge_row e)
ends_of vs es fs e is =
    let fits = IsEdge (rows_of_lines vs (es ++ e ∷ fs)).vertices (record { name = codes "E"; source = 0; destination = 0; props = [] }) in
    let all = subst (All fits) (map-append edge_row es (e ∷ fs)) is.edges.0 in
    middle fits (map edge_row es) (map edge_row fs) (edge_row e) (recursion_from_All _ _ all)

edge_fits : (vs : List ℤ) (es fs : List (ℤ × ℤ × ℤ)) (e : ℤ × ℤ × ℤ) → IsGraph (rows_of_lines vs (es ++ e ∷ fs)) → misfit (rows_of_lines vs es) (edge_change e) ≡ None
edge_fits vs es fs e is =
    let once : count_by (λ r. int_eq (edge_key r) e.0) (map edge_row es ++ edge_row e ∷ map edge_row fs) ≤ 1 =
    subst (λ rows. count_by (λ r. int_eq (edge_key r) e.0) rows ≤ 1) (map-append edge_row es (e ∷ fs))
    (omega (arith, is.edge_keys e.0, sum-one (count_in edge_key e.0) (map edge_row (es ++ e ∷ fs)))) in
    let free : list_any (λ r. int_eq (edge_key r) e.0) (map edge_row es) ≡ false =
    apart (λ r. int_eq (edge_key r) e.0) (map edge_row es) (map edge_row fs) (edge_row e) (same_key e.0) once in
    let ends = ends_of vs es fs e is in
    let starts : has_vertex_in e.1 (map vertex_row vs) ≡ true = ends.source in
    let stops : has_vertex_in e.2 (map vertex_row vs) ≡ true = ends.destination in
    let few : edge_total (rows_of_lines vs es) + 1 ≤ most_edges =
    omega (arith, is.few_edges, edges_of vs es, edges_of vs (es ++ e ∷ fs), length-append es (e ∷ fs)) in
    let room = within most_edges (edge_total (rows_of_lines vs es) + 1) (cell_total (rows_of_lines vs es)) few (no_cells vs es) in
    rw (free, starts, stops, room) refl

goes_on : (file row : ℕ) (o : Option Why) (g h : GraphData) (f : GraphData → Result GraphData LoadFault) (r : Result GraphData LoadFault)
    → o ≡ None → g ≡ h → f h ≡ r → (at_record file row (unless_misfit o g) >>= f) ≡ r
goes_on file row None g h f r e same rest = ap f same ∙ rest
goes_on file row (Some why) g h f r e same rest = cc

vertices_accepted : (row : ℕ) (vs ws : List ℤ) (es : List (ℤ × ℤ × ℤ)) → IsGraph (rows_of_lines (vs ++ ws) es) → put_vertices row (rows_of_lines vs []) ws ≡ Ok (rows_of_lines (vs ++ ws) [])
unfolding put_all
vertices_accepted row vs [] es is = ap (λ xs. Ok (rows_of_lines xs [])) (sym (append-nil vs))
vertices_accepted row vs (w ∷ ws) es is =
    goes_on 0 row (misfit (rows_of_lines vs []) (vertex_change w)) _ (rows_of_lines (vs ++ w ∷ []) []) (λ g. put_vertices (row + 1) g ws) _
    (vertex_fits vs ws es w is) (vertex_more vs [] w)
    (vertices_accepted (row + 1) (vs ++ w ∷ []) ws es (subst (λ xs. IsGraph (rows_of_lines xs es)) (sym (append_assoc vs (w ∷ []) ws)) is)
    ∙ ap (λ xs. Ok (rows_of_lines xs [])) (append_assoc vs (w ∷ []) ws))

edges_accepted : (row : ℕ) (vs : List ℤ) (es fs : List (ℤ × ℤ × ℤ)) → IsGraph (rows_of_lines vs (es ++ fs)) → put_edges row (rows_of_lines vs es) fs ≡ Ok (rows_of_lines vs (es ++ fs))
unfolding put_all
edges_accepted row vs es [] is = ap (λ xs. Ok (rows_of_lines vs xs)) (sym (append-nil es))
edges_accepted row vs es (f ∷ fs) is =
    goes_on 1 row (misfit (rows_of_lines vs es) (edge_change f)) _ (rows_of_lines vs (es ++ f ∷ [])) (λ g. put_edges (row + 1) g fs) _
    (edge_fits vs es fs f is) (edge_more vs es f)
    (edges_accepted (row + 1) vs (es ++ f ∷ []) fs (subst (λ xs. IsGraph (rows_of_lines vs xs)) (sym (append_assoc es (f ∷ []) fs)) is)
    ∙ ap (λ xs. Ok (rows_of_lines vs xs)) (append_assoc es (f ∷ []) fs))

-- ---- the law

ok_of : (o : Result GraphData LoadFault) → IsOk o → (h : GraphData) × (o ≡ Ok h)
ok_of (Err fault) e = absurd (false≢true e)
ok_of (Ok h) e = (h, refl)

accepted_rows : (vs : List ℤ) (es : List (ℤ × ℤ × ℤ)) (h : GraphData) → inline_of vs es ≡ Ok h → h ≡ rows_of_lines vs es
accepted_rows vs es h e =
    let p = parts (put_vertices 1 (empty_graph inline_schema) vs) (λ g. put_edges 1 g es) h e in
    let q = subst (λ g. put_edges 1 g es ≡ Ok h) (vertices_are_rows 1 [] vs p.0 p.1) p.2 in
    edges_are_rows 1 vs [] es h q

accepted_is_graph : (vs : List ℤ) (es : List (ℤ × ℤ × ℤ)) (h : GraphData) → inline_of vs es ≡ Ok h → IsGraph h
accepted_is_graph vs es h e =
    let p = parts (put_vertices 1 (empty_graph inline_schema) vs) (λ g. put_edges 1 g es) h e in
    records_keep 1 1 p.0 h (map edge_line es) (records_keep 0 1 (empty_graph inline_schema) p.0 (map vertex_line vs) (empty_is_graph inline_schema inline_is_schema) p.1) p.2

-- rows whose edges are left out are a graph where they are one
graph_accepted : (vs : List ℤ) (es : List (ℤ × ℤ × ℤ)) → IsGraph (rows_of_lines vs es) → inline_of vs es ≡ Ok (rows_of_lines vs es)
graph_accepted vs es is =
    ap (λ o. o >>= (λ g. put_edges 1 g es)) (vertices_accepted 1 [] vs es is) ∙ edges_accepted 1 vs [] es is

pub lines_stand : LinesStandForAGraph
lines_stand = (
  λ vs es. (
    λ ok. let h = ok_of (inline_of vs es) ok in subst IsGraph (accepted_rows vs es h.0 h.1) (accepted_is_graph vs es h.0 h.1),
    λ is. ap is_ok (graph_accepted vs es is),
  ),
  accepted_rows,
)
