-- A row of a graph fits the graph of the rows before it.
use Rattle.std.proofs.Common.{◌≡◌, ◌∙◌, refl, sym, ap, subst, ℕ, ℤ, ◌+◌, ◌<◌, ◌≤◌, Bool, true, false, ◌||◌, not, ◌==◌, nat_lt, List, [], ◌∷◌, ◌++◌, length, replicate, set, get_or, slice_get, Some, None, arith, count_by, sum_by, cond, length-append}
use Rattle.std.specs.List.{AllZip, AllByRecursion, list_any}
use Rattle.std.specs.Ordering.{int_eq}
use Rattle.std.proofs.lemmas.Bool.Decides.{nat_tests, Decides-int_eq}
use Rattle.std.proofs.lemmas.List.Elements.{recursion_from_All}
use Rattle.std.proofs.lemmas.List.{get_or_at}
use Rattle.std.proofs.lemmas.List.Sums.{sum_by-append, sum_by-cons}
use Rattle.column_types.specs.declared.value.Value.{Value}
use Rattle.graph_schema.specs.Schema.{SchemaData}
use Rattle.graph_model.specs.declared.row.VertexRow.{VertexRow}
use Rattle.graph_model.specs.declared.row.EdgeRow.{EdgeRow}
use Rattle.graph_model.specs.declared.change.Change.TheVariants.{InsertVertex, InsertEdge}
use Rattle.graph_model.specs.declared.change.Why.TheVariants.{Table, Count, Kind, KeyTaken, EndMissing, Limit}
use Rattle.graph_schema.specs.declared.schema.Keys.{Keys}
use Rattle.graph_schema.specs.declared.schema.Keys.TheVariants.{Whole, PerTable}
use Rattle.graph_model.specs.Keys.{rows_at, cells_in, is_taken, AreDistinct}
use Rattle.graph_model.specs.Graph.{GraphData, IsGraph, IsEdge, AreValues, AreVertices, AreEdges, vertex_key, edge_key, vertex_values, edge_values, vertex_props_at, edge_props_at, vertex_table_props, edge_table_props, source_table, destination_table, source_at, destination_at, has_vertex_in, kinds_fit, vertex_total, edge_total, cell_total, most_vertices, most_edges, most_cells}
use Rattle.graph_model.specs.Change.{misfit, changed}
use Rattle.graph_model.specs.FromRows.{vertex_put, edge_put}
use Rattle.graph_model.proofs.Rows.{counts_one, counted_nowhere, none_counted}
use Rattle.graph_model.proofs.Totals.{nothing}
use Rattle.graph_model.proofs.Zips.{passed_over}
use Rattle.graph_model.proofs.VertexChanges.{FitsVertex}
use Rattle.graph_model.proofs.EdgeChanges.{FitsEdge}

-- the graph of a schema with these rows
abbrev pub graph_of : SchemaData → List (List VertexRow) → List (List EdgeRow) → GraphData
graph_of s vs es = record { schema = s; vertices = vs; edges = es }

-- ---- what it takes, from none of the causes

vertex_has_none : (g : GraphData) (t : ℕ) (k : ℤ) (vs : List Value) → FitsVertex g t k vs → misfit g (InsertVertex t k vs) ≡ None
vertex_has_none g t k vs fits =
    let props = vertex_props_at g.schema t in
    let a : not (nat_lt t (length g.schema.vertices)) ≡ false = grind (arith, nat_tests, fits.table) in
    let b : not (length vs == length props) ≡ false = grind (arith, nat_tests, fits.count) in
    let c : not (kinds_fit props vs) ≡ false = ap (λ x. not x) fits.kinds in
    let l : (nat_lt most_vertices (vertex_total g + 1) || nat_lt most_cells (cell_total g + length vs)) ≡ false = grind (arith, nat_tests, fits.room, fits.cells) in
    sym (passed_over _ Table None _ a (passed_over _ Count None _ b (passed_over _ Kind None _ c (passed_over _ KeyTaken None _ fits.key (passed_over _ Limit None _ l refl)))))

edge_has_none : (g : GraphData) (t : ℕ) (k s d : ℤ) (vs : List Value) → FitsEdge g t k s d vs → misfit g (InsertEdge t k s d vs) ≡ None
edge_has_none g t k s d vs fits =
    let props = edge_props_at g.schema t in
    let from = has_vertex_in s (rows_at g.vertices (source_at g.schema t)) in
    let to = has_vertex_in d (rows_at g.vertices (destination_at g.schema t)) in
    let a : not (nat_lt t (length g.schema.edges)) ≡ false = grind (arith, nat_tests, fits.table) in
    let b : not (length vs == length props) ≡ false = grind (arith, nat_tests, fits.count) in
    let c : not (kinds_fit props vs) ≡ false = ap (λ x. not x) fits.kinds in
    let ends : (not from || not to) ≡ false = rw (fits.source, fits.destination) refl in
    let l : (nat_lt most_edges (edge_total g + 1) || nat_lt most_cells (cell_total g + length vs)) ≡ false = grind (arith, nat_tests, fits.room, fits.cells) in
    sym (passed_over _ Table None _ a (passed_over _ Count None _ b (passed_over _ Kind None _ c (passed_over _ KeyTaken None _ fits.key (passed_over _ EndMissing None _ ends (passed_over _ Limit None _ l refl))))))

-- ---- lists

middle : {X : Type 0} (P : X → Type 0) (xs ys : List X) (y : X) → AllByRecursion P (xs ++ y ∷ ys) → P y
middle P [] ys y h = h.0
middle P (x ∷ xs) ys y h = middle P xs ys y h.1

all_at : {A B : Type 0} (R : A → B → Type 0) (xs : List A) (ys zs : List B) (y : B) → AllZip R xs (ys ++ y ∷ zs) → (x : A) × (slice_get xs (length ys) ≡ Some x) × R x y × (length ys < length xs)
all_at R [] [] zs y h = absurd h
all_at R [] (w ∷ ys) zs y h = absurd h
all_at R (x ∷ xs) [] zs y h = (x, refl, h.0, omega arith)
all_at R (x ∷ xs) (w ∷ ys) zs y h = let q = all_at R xs ys zs y h.1 in (q.0, q.1, q.2, omega (arith, q.3))

-- a sum over all rows is at least that over the rows before one, and that one
bigger : {R : Type 0} (f : List R → ℕ) → f [] ≡ 0 → ((xs ys : List R) → f (xs ++ ys) ≡ f xs + f ys) → (done after : List (List R)) (front back : List R) (r : R) (n : ℕ)
    → sum_by f (done ++ front ∷ replicate n []) + f (r ∷ []) ≤ sum_by f (done ++ (front ++ r ∷ back) ∷ after)
bigger f nil both done after front back r n =
    let last : f (r ∷ back) ≡ f (r ∷ []) + f back = both (r ∷ []) back in
    omega (
      arith,
      sum_by-append f done (front ∷ replicate n []),
      sum_by-cons f front (replicate n []),
      nothing f n nil,
      sum_by-append f done ((front ++ r ∷ back) ∷ after),
      sum_by-cons f (front ++ r ∷ back) after,
      both front (r ∷ back),
      last,
    )

bigger_length : {R : Type 0} (done after : List (List R)) (front back : List R) (r : R) (n : ℕ) → sum_by length (done ++ front ∷ replicate n []) + 1 ≤ sum_by length (done ++ (front ++ r ∷ back) ∷ after)
bigger_length {R} done after front back r n = bigger (λ (rows : List R). length rows) refl (λ xs ys. length-append xs ys) done after front back r n

bigger_sum : {R : Type 0} (w : R → ℕ) (done after : List (List R)) (front back : List R) (r : R) (n : ℕ)
    → sum_by (λ rows. sum_by w rows) (done ++ front ∷ replicate n []) + w r ≤ sum_by (λ rows. sum_by w rows) (done ++ (front ++ r ∷ back) ∷ after)
bigger_sum {R} w done after front back r n =
    let nil : sum_by w [] ≡ 0 = refl in
    omega (arith, bigger (λ (rows : List R). sum_by w rows) refl (λ xs ys. sum_by-append w xs ys) done after front back r n, sum_by-cons w r [], nil)

-- a key that stands once in all stands nowhere before it
free_before : {R : Type 0} (p : R → Bool) (done after : List (List R)) (front back : List R) (r : R) (n : ℕ) → p r ≡ true
    → sum_by (λ rows. count_by p rows) (done ++ (front ++ r ∷ back) ∷ after) ≤ 1 → sum_by (λ rows. count_by p rows) (done ++ front ∷ replicate n []) ≡ 0
free_before p done after front back r n this once =
    let one = counts_one (p r) this in
    omega (arith, once, one, bigger_sum (λ x. cond {A = ℕ} (p x) 1 0) done after front back r n)

same_key : (k : ℤ) → int_eq k k ≡ true
same_key k = (Decides-int_eq k k).1 refl

none_in_front : {R : Type 0} (p : R → Bool) (front back : List R) (r : R) → p r ≡ true → count_by p (front ++ r ∷ back) ≤ 1 → count_by p front ≡ 0
none_in_front {R} p front back r this once =
    let w = λ (x : R). cond {A = ℕ} (p x) 1 0 in
    omega (arith, once, counts_one (p r) this, sum_by-append w front (r ∷ back), sum_by-cons w r back)

-- a key that differs is not taken by the rows before it
free_key : {R : Type 0} (keys : Keys) (key : R → ℤ) (done after : List (List R)) (front back : List R) (r : R) (n : ℕ)
    → AreDistinct keys key (done ++ (front ++ r ∷ back) ∷ after) → is_taken keys key (key r) (done ++ front ∷ replicate n []) (length done) ≡ false
free_key Whole key done after front back r n are =
    counted_nowhere (λ x. int_eq (key x) (key r)) (done ++ front ∷ replicate n []) (free_before (λ x. int_eq (key x) (key r)) done after front back r n (same_key (key r)) (are (key r)))
free_key {R} PerTable key done after front back r n are =
    let p = λ (x : R). int_eq (key x) (key r) in
    let all = get_or_at done (front ++ r ∷ back) after [] (length done) refl in
    let here = get_or_at done front (replicate n []) [] (length done) refl in
    let once = subst (λ rows. count_by p rows ≤ 1) all (are (key r) (length done)) in
    ap (λ rows. list_any p rows) here ∙ none_counted p front (none_in_front p front back r (same_key (key r)) once)

-- ---- a row at the end of a table

push_at : {R : Type 0} (done todo : List (List R)) (rows : List R) (r : R) → set (done ++ rows ∷ todo) (length done) (get_or (done ++ rows ∷ todo) (length done) [] ++ r ∷ []) ≡ done ++ (rows ++ r ∷ []) ∷ todo
push_at [] todo rows r = refl
push_at (d ∷ done) todo rows r = ap (λ ts. d ∷ ts) (push_at done todo rows r)

pub vertex_push : (s : SchemaData) (es : List (List EdgeRow)) (done todo : List (List VertexRow)) (rows : List VertexRow) (r : VertexRow)
    → changed (graph_of s (done ++ rows ∷ todo) es) (vertex_put (length done) r) ≡ graph_of s (done ++ (rows ++ r ∷ []) ∷ todo) es
vertex_push s es done todo rows r = ap (λ vs. graph_of s vs es) (push_at done todo rows r)

pub edge_push : (s : SchemaData) (vs : List (List VertexRow)) (done todo : List (List EdgeRow)) (rows : List EdgeRow) (r : EdgeRow)
    → changed (graph_of s vs (done ++ rows ∷ todo)) (edge_put (length done) r) ≡ graph_of s vs (done ++ (rows ++ r ∷ []) ∷ todo)
edge_push s vs done todo rows r = ap (λ es. graph_of s vs es) (push_at done todo rows r)

-- ---- rows of graphs

pub vertex_fits : (s : SchemaData) (vss : List (List VertexRow)) (ess : List (List EdgeRow)) → IsGraph (graph_of s vss ess)
    → (done after : List (List VertexRow)) (front back : List VertexRow) (r : VertexRow) → vss ≡ done ++ (front ++ r ∷ back) ∷ after
    → misfit (graph_of s (done ++ front ∷ replicate (length after) []) (replicate (length s.edges) [])) (InsertVertex (length done) r.key r.values) ≡ None
vertex_fits s vss ess is_all done after front back r split =
    let is = subst (λ vs. IsGraph (graph_of s vs ess)) split is_all in
    let at = all_at AreVertices s.vertices done after (front ++ r ∷ back) is.vertices in
    let values : AreValues at.0.props r.values = middle (λ (x : VertexRow). AreValues at.0.props x.values) front back r (recursion_from_All _ _ at.2) in
    let props : vertex_props_at s (length done) ≡ at.0.props = ap vertex_table_props at.1 in
    let few = bigger_length done after front back r (length after) in
    let cells = bigger_sum (λ x. length (vertex_values x)) done after front back r (length after) in
    let no_edges = nothing (λ (rows : List EdgeRow). cells_in edge_values rows) (length s.edges) refl in
    vertex_has_none (graph_of s (done ++ front ∷ replicate (length after) []) (replicate (length s.edges) [])) (length done) r.key r.values
    (record {
      table = at.3;
      count = values.count ∙ ap (λ ps. length ps) (sym props);
      kinds = subst (λ ps. kinds_fit ps r.values ≡ true) (sym props) values.kinds;
      key = free_key s.keys vertex_key done after front back r (length after) is.vertex_keys;
      room = omega (arith, is.few_vertices, few);
      cells = omega (arith, is.few_cells, cells, no_edges);
    })

pub edge_fits : (s : SchemaData) (vss : List (List VertexRow)) (ess : List (List EdgeRow)) → IsGraph (graph_of s vss ess)
    → (done after : List (List EdgeRow)) (front back : List EdgeRow) (r : EdgeRow) → ess ≡ done ++ (front ++ r ∷ back) ∷ after
    → misfit (graph_of s vss (done ++ front ∷ replicate (length after) [])) (InsertEdge (length done) r.key r.source r.destination r.values) ≡ None
edge_fits s vss ess is_all done after front back r split =
    let is = subst (λ es. IsGraph (graph_of s vss es)) split is_all in
    let at = all_at (AreEdges vss) s.edges done after (front ++ r ∷ back) is.edges in
    let edge : IsEdge vss at.0 r = middle (IsEdge vss at.0) front back r (recursion_from_All _ _ at.2) in
    let props : edge_props_at s (length done) ≡ at.0.props = ap edge_table_props at.1 in
    let few = bigger_length done after front back r (length after) in
    let cells = bigger_sum (λ x. length (edge_values x)) done after front back r (length after) in
    edge_has_none (graph_of s vss (done ++ front ∷ replicate (length after) [])) (length done) r.key r.source r.destination r.values
    (record {
      table = at.3;
      count = edge.values.count ∙ ap (λ ps. length ps) (sym props);
      kinds = subst (λ ps. kinds_fit ps r.values ≡ true) (sym props) edge.values.kinds;
      key = free_key s.keys edge_key done after front back r (length after) is.edge_keys;
      source = subst (λ o. has_vertex_in r.source (rows_at vss (source_table o)) ≡ true) (sym at.1) edge.source;
      destination = subst (λ o. has_vertex_in r.destination (rows_at vss (destination_table o)) ≡ true) (sym at.1) edge.destination;
      room = omega (arith, is.few_edges, few);
      cells = omega (arith, is.few_cells, cells);
    })
