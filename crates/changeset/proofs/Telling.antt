-- Keys, ends and numbers tell whether a change fits.
use Rattle.std.proofs.Common.{◌≡◌, ◌∙◌, refl, sym, ap, ℕ, ℤ, Bool, true, false, ◌||◌, ◌&&◌, ◌==◌, not, cond, nat_lt, ◌+◌, List, [], ◌∷◌, length, get_or, map, Option, Some, None, sum_by, arith}
use Rattle.std.specs.Prelude.{if◌then◌else◌, find}
use Rattle.std.specs.List.{list_any, range_with_len, zip}
use Rattle.std.specs.Ordering.{int_eq}
use Rattle.std.proofs.lemmas.Bool.Decides.{nat_tests}
use Rattle.graph_schema.specs.declared.schema.Keys.{Keys}
use Rattle.graph_schema.specs.declared.schema.Keys.TheVariants.{Whole, PerTable}
use Rattle.graph_schema.specs.declared.schema.EdgeTable.{EdgeTable}
use Rattle.graph_schema.specs.Schema.{SchemaData}
use Rattle.graph_model.specs.declared.row.EdgeRow.{EdgeRow}
use Rattle.graph_model.specs.declared.change.Change.{Change}
use Rattle.graph_model.specs.declared.change.Change.TheVariants.{InsertVertex, DeleteVertex, InsertEdge, DeleteEdge, SetVertex, SetEdge}
use Rattle.graph_model.specs.declared.change.Why.TheVariants.{Table, Count, Prop as NoProp, Kind, KeyTaken, KeyMissing, EndMissing, HasEdges, Limit}
use Rattle.graph_model.specs.Keys.{rows_at, has_key_in, has_key, is_taken}
use Rattle.graph_model.specs.Graph.{GraphData, IsGraph, vertex_key, edge_key, vertex_props_at, edge_props_at, source_at, destination_at, has_vertex_in, has_edge_in, ends_at, is_end, is_end_in, kinds_fit, vertex_total, edge_total, cell_total, most_vertices, most_edges, most_cells}
use Rattle.graph_model.specs.Change.{misfit, kind_fits_at}
use Rattle.graph_model.proofs.Zips.{AllZip-length}
use Rattle.graph_model.proofs.StoredRows.{by_places}
use Rattle.graph_model.proofs.EndCounts.{sum_positive}
use Rattle.changeset.specs.Facts.{one_if, ends_there, end_count, edge_state, is_there, taken_by, edge_fact, facts, misfit_of}

-- ---- ends

one_positive : (b : Bool) → nat_lt 0 (one_if b) ≡ b
one_positive true = refl
one_positive false = refl

positive : (a b : ℕ) (p q : Bool) → nat_lt 0 a ≡ p → nat_lt 0 b ≡ q → nat_lt 0 (a + b) ≡ (p || q)
positive a b true q e f = grind (arith, nat_tests)
positive a b false true e f = grind (arith, nat_tests)
positive a b false false e f = grind (arith, nat_tests)

ends_positive : (t : ℕ) (k : ℤ) (x : EdgeTable) (r : EdgeRow) → nat_lt 0 (ends_there t k x r) ≡ ends_at t k x r
ends_positive t k x r =
    positive (one_if (x.source == t && int_eq r.source k)) (one_if (x.destination == t && int_eq r.destination k)) (x.source == t && int_eq r.source k) (x.destination == t && int_eq r.destination k)
    (one_positive (x.source == t && int_eq r.source k)) (one_positive (x.destination == t && int_eq r.destination k))

-- an edge ends at a vertex where the number of ends is above 0
pub ends_tell : (s : SchemaData) (t : ℕ) (k : ℤ) (edges : List (List EdgeRow)) → nat_lt 0 (end_count s t k edges) ≡ is_end s t k edges
ends_tell s t k edges =
    sum_positive (λ p. sum_by (ends_there t k p.0) p.1) (λ p. is_end_in t k p.0 p.1) (zip s.edges edges)
    (λ p. sum_positive (ends_there t k p.0) (ends_at t k p.0) p.1 (ends_positive t k p.0))

-- ---- edges

there_by : (r : EdgeRow) (o : Option EdgeRow) (b c : Bool) → is_there (edge_state o) ≡ c → is_there (edge_state (cond b (Some r) o)) ≡ (b || c)
there_by r o true c e = refl
there_by r o false c e = e

pub edge_is_there : (rows : List EdgeRow) (k : ℤ) → is_there (edge_state (find (λ r. int_eq r.key k) rows)) ≡ has_edge_in k rows
edge_is_there [] k = refl
edge_is_there (r ∷ rows) k = there_by r (find (λ x. int_eq x.key k) rows) (int_eq r.key k) (has_edge_in k rows) (edge_is_there rows k)

-- ---- keys that are taken

any_of_map : {X Y : Type 0} (p : Y → Bool) (f : X → Y) (q : X → Bool) (xs : List X) → ((x : X) → q x ≡ p (f x)) → list_any p (map f xs) ≡ list_any q xs
any_of_map p f q [] same = refl
any_of_map p f q (x ∷ xs) same = ap (λ b. b || list_any p (map f xs)) (sym (same x)) ∙ ap (λ b. q x || b) (any_of_map p f q xs same)

pub taken_is : {R : Type 0} (keys : Keys) (key : R → ℤ) (k : ℤ) (tables : List (List R)) (t n : ℕ) (has : ℕ → Bool) → n ≡ length tables → ((u : ℕ) → has u ≡ has_key_in key k (rows_at tables u))
    → is_taken keys key k tables t ≡ taken_by keys n has t
taken_is Whole key k tables t n has long same =
    ap (has_key key k) (by_places tables [])
    ∙ any_of_map (has_key_in key k) (λ u. get_or tables u []) has (range_with_len 0 (length tables)) same
    ∙ ap (λ m. list_any has (range_with_len 0 m)) (sym long)
taken_is PerTable key k tables t n has long same = sym (same t)

-- ---- misfits

pub misfits_told : (g : GraphData) (c : Change) → IsGraph g → misfit g c ≡ misfit_of g.schema (facts g) c
misfits_told g (InsertVertex t k vs) is =
    ap (λ b. if not (nat_lt t (length g.schema.vertices)) then Some Table
    else if not (length vs == length (vertex_props_at g.schema t)) then Some Count
    else if not (kinds_fit (vertex_props_at g.schema t) vs) then Some Kind
    else if b then Some KeyTaken
    else if nat_lt most_vertices (vertex_total g + 1) || nat_lt most_cells (cell_total g + length vs) then Some Limit
    else None) (taken_is g.schema.keys vertex_key k g.vertices t (length g.schema.vertices) (λ u. has_vertex_in k (rows_at g.vertices u)) (AllZip-length _ _ _ is.vertices) (λ u. refl))
misfits_told g (DeleteVertex t k) is =
    ap (λ b. if not (nat_lt t (length g.schema.vertices)) then Some Table
    else if not (has_vertex_in k (rows_at g.vertices t)) then Some KeyMissing
    else if b then Some HasEdges
    else None) (sym (ends_tell g.schema t k g.edges))
misfits_told g (InsertEdge t k a b vs) is =
    ap (λ c. if not (nat_lt t (length g.schema.edges)) then Some Table
    else if not (length vs == length (edge_props_at g.schema t)) then Some Count
    else if not (kinds_fit (edge_props_at g.schema t) vs) then Some Kind
    else if c then Some KeyTaken
    else if not (has_vertex_in a (rows_at g.vertices (source_at g.schema t))) || not (has_vertex_in b (rows_at g.vertices (destination_at g.schema t))) then Some EndMissing
    else if nat_lt most_edges (edge_total g + 1) || nat_lt most_cells (cell_total g + length vs) then Some Limit
    else None) (taken_is g.schema.keys edge_key k g.edges t (length g.schema.edges) (λ u. is_there (edge_fact g u k)) (AllZip-length _ _ _ is.edges) (λ u. edge_is_there (rows_at g.edges u) k))
misfits_told g (DeleteEdge t k) is =
    ap (λ b. if not (nat_lt t (length g.schema.edges)) then Some Table
    else if not b then Some KeyMissing
    else None) (sym (edge_is_there (rows_at g.edges t) k))
misfits_told g (SetVertex t k p v) is = refl
misfits_told g (SetEdge t k p v) is =
    ap (λ b. if not (nat_lt t (length g.schema.edges)) then Some Table
    else if not (nat_lt p (length (edge_props_at g.schema t))) then Some NoProp
    else if not (kind_fits_at (edge_props_at g.schema t) p v) then Some Kind
    else if not b then Some KeyMissing
    else None) (sym (edge_is_there (rows_at g.edges t) k))
