-- What the rows of a stored graph have, told by its seats.
use Rattle.std.proofs.Common.{◌≡◌, ℕ, ℤ, pos, zero, suc, ◌+◌, ◌<◌, ◌≤◌, Bool, true, false, ◌||◌, ◌&&◌, ◌==◌, not, List, [], ◌∷◌, ◌++◌, Option, Some, None, length, get_or, set, slice_get, refl, ap, sym, ◌∙◌, subst, arith, cond, map, filter, count_by, All, replicate}
use Rattle.std.specs.Prelude.{IsTrue, nat_lt}
use Rattle.std.specs.List.{AllZip, list_any, list_all, sum_by, zip, range_with_len}
use Rattle.std.specs.Ordering.{int_eq}
use Rattle.std.proofs.lemmas.Bool.Decides.{nat_tests}
use Rattle.std.proofs.lemmas.List.{length-map, get_or_past, length-replicate}
use Rattle.std.proofs.lemmas.List.Sums.{sum_by-cons, length-filter}
use Rattle.std.proofs.lemmas.List.FromFn.{get_or-map-range_with_len, length-map-range_with_len, length-range_with_len, fill_by_all}
use Rattle.column_types.specs.declared.kind.Kind.{Kind}
use Rattle.column_types.specs.declared.kind.Kind.TheVariants as kind
use Rattle.column_types.specs.declared.value.Value.{Value}
use Rattle.column_types.specs.Value.{fits_kind}
use Rattle.graph_schema.specs.declared.schema.Keys.{Keys}
use Rattle.graph_schema.specs.declared.schema.Keys.TheVariants.{Whole, PerTable}
use Rattle.graph_schema.specs.declared.schema.Prop.{Prop}
use Rattle.graph_schema.specs.declared.schema.VertexTable.{VertexTable}
use Rattle.graph_schema.specs.declared.schema.EdgeTable.{EdgeTable}
use Rattle.graph_schema.specs.Schema.{SchemaData}
use Rattle.graph_model.specs.declared.row.VertexRow.{VertexRow}
use Rattle.graph_model.specs.declared.row.EdgeRow.{EdgeRow}
use Rattle.graph_model.specs.declared.ends.Ends.{Ends}
use Rattle.graph_model.specs.Keys.{rows_at, has_key, has_key_in, count_in, is_taken, AreDistinct}
use Rattle.graph_schema.specs.Schema.{IsSchema}
use Rattle.graph_model.specs.Change.{kind_fits_at}
use Rattle.graph_model.specs.Graph.{GraphData, IsGraph, empty_graph, vertex_key, edge_key, vertex_values, edge_values, has_vertex_in, has_edge_in, kinds_fit, vertex_table_props, edge_table_props, vertex_total, edge_total, cell_total, source_at, destination_at}
use Rattle.graph_model.specs.Seats.{Seat, TableData, Fit, is_live, sits, live_seats}
use Rattle.graph_model.specs.Stored.{no_table, table_at, seats_at, key_sits, live_total, live_cells, vertex_row, vertex_rows, ends_at, edge_is_live, edge_row, edge_rows, pairs_at, edge_rows_at, stored_graph, kinds_of_props, HasVertexKinds, HasEdgeKinds, EndsSit, IsStored}
use Rattle.graph_model.proofs.Rows.{or_false, or_right}
use Rattle.graph_model.proofs.Positions.{any_of_map, count_of_map}
use Rattle.graph_model.proofs.Distinct.{once_in}
use Rattle.graph_model.proofs.Graphs.{empty_is_graph}
use Rattle.graph_model.proofs.SeatRows.{any_rows, count_rows, filter_rows, zip_firsts}

-- ---- lists

pub at_map : {X Y : Type 0} (f : X → Y) (xs : List X) (i : ℕ) (d : X) → get_or (map f xs) i (f d) ≡ f (get_or xs i d)
at_map f [] i d = refl
at_map f (x ∷ xs) zero d = refl
at_map f (x ∷ xs) (suc i) d = at_map f xs i d

pub by_places : {X : Type 0} (xs : List X) (d : X) → xs ≡ map (λ i. get_or xs i d) (range_with_len 0 (length xs))
by_places xs d = fill_by_all (λ i. get_or xs i d) xs (length xs) d refl (λ k h. refl)

pub any_same : {X : Type 0} (p q : X → Bool) (xs : List X) → ((x : X) → p x ≡ q x) → list_any p xs ≡ list_any q xs
any_same p q [] same = refl
any_same p q (x ∷ xs) same = ap (λ b. b || list_any p xs) (same x) ∙ ap (λ b. q x || b) (any_same p q xs same)

pub sum_of_map : {X Y : Type 0} (w : Y → ℕ) (f : X → Y) (xs : List X) → sum_by w (map f xs) ≡ sum_by (λ x. w (f x)) xs
sum_of_map w f [] = refl
sum_of_map w f (x ∷ xs) = omega (arith, sum_by-cons w (f x) (map f xs), sum_by-cons (λ y. w (f y)) x xs, sum_of_map w f xs)

pub sum_same : {X : Type 0} (v w : X → ℕ) (xs : List X) → ((x : X) → v x ≡ w x) → sum_by v xs ≡ sum_by w xs
sum_same v w [] same = refl
sum_same v w (x ∷ xs) same = omega (arith, sum_by-cons v x xs, sum_by-cons w x xs, same x, sum_same v w xs same)

any_at_false : {X : Type 0} (p : X → Bool) (xs : List X) (i : ℕ) (d : X) → p d ≡ false → list_any p xs ≡ false → p (get_or xs i d) ≡ false
any_at_false p [] i d none e = none
any_at_false p (x ∷ xs) zero d none e = (or_false (p x) (list_any p xs) e).0
any_at_false p (x ∷ xs) (suc i) d none e = any_at_false p xs i d none (or_false (p x) (list_any p xs) e).1

-- what sits in no table that a key is looked for in sits not in its own
pub not_here : (keys : Keys) (k : ℤ) (tables : List TableData) (t : ℕ) → key_sits keys k tables t ≡ false → list_any (sits k) (seats_at tables t) ≡ false
not_here Whole k tables t e = any_at_false (λ x. list_any (sits k) x.seats) tables t no_table refl e
not_here PerTable k tables t e = e

-- ---- the rows of one table

pub live_firsts : (seats : List Seat) (ends : List Ends) → length seats ≤ length ends → map (λ p. p.0) (filter edge_is_live (zip seats ends)) ≡ live_seats seats
live_firsts seats ends long =
    filter_rows {S = Seat × Ends} (λ p. p.0) is_live (zip seats ends) ∙ ap (filter is_live) (zip_firsts seats ends long)

pub any_pair : (f : Seat → Bool) (seats : List Seat) (ends : List Ends) → length seats ≤ length ends → list_any (λ (p : Seat × Ends). f p.0) (zip seats ends) ≡ list_any f seats
any_pair f seats ends long =
    sym (any_of_map {X = Seat × Ends} f (λ p. p.0) (zip seats ends)) ∙ ap (list_any f) (zip_firsts seats ends long)

pub count_pair : (f : Seat → Bool) (seats : List Seat) (ends : List Ends) → length seats ≤ length ends → count_by (λ (p : Seat × Ends). f p.0) (zip seats ends) ≡ count_by f seats
count_pair f seats ends long =
    sym (count_of_map {X = Seat × Ends} f (λ p. p.0) (zip seats ends)) ∙ ap (count_by f) (zip_firsts seats ends long)

pub vertex_sits : (x : TableData) (k : ℤ) → has_vertex_in k (vertex_rows x) ≡ list_any (sits k) x.seats
vertex_sits x k = any_rows vertex_row is_live (λ r. int_eq r.key k) x.seats

vertex_counts : (x : TableData) (k : ℤ) → count_in vertex_key k (vertex_rows x) ≡ count_by (sits k) x.seats
vertex_counts x k = count_rows vertex_row is_live (λ r. int_eq r.key k) x.seats

pub edge_sits : (from to seats : List Seat) (ends : List Ends) (k : ℤ) → length seats ≤ length ends → has_edge_in k (edge_rows from to (zip seats ends)) ≡ list_any (sits k) seats
edge_sits from to seats ends k long =
    any_rows (edge_row from to) edge_is_live (λ r. int_eq r.key k) (zip seats ends) ∙ any_pair (sits k) seats ends long

edge_counts : (from to seats : List Seat) (ends : List Ends) (k : ℤ) → length seats ≤ length ends → count_in edge_key k (edge_rows from to (zip seats ends)) ≡ count_by (sits k) seats
edge_counts from to seats ends k long =
    count_rows (edge_row from to) edge_is_live (λ r. int_eq r.key k) (zip seats ends) ∙ count_pair (sits k) seats ends long

edge_length : (from to seats : List Seat) (ends : List Ends) → length seats ≤ length ends → length (edge_rows from to (zip seats ends)) ≡ length (live_seats seats)
edge_length from to seats ends long =
    length-map (filter edge_is_live (zip seats ends)) (edge_row from to)
    ∙ sym (length-map (filter edge_is_live (zip seats ends)) (λ p. p.0))
    ∙ ap length (live_firsts seats ends long)

edge_cells : (from to seats : List Seat) (ends : List Ends) → length seats ≤ length ends → sum_by (λ r. length (edge_values r)) (edge_rows from to (zip seats ends)) ≡ sum_by (λ s. length s.values) (live_seats seats)
edge_cells from to seats ends long =
    sum_of_map (λ r. length (edge_values r)) (edge_row from to) (filter edge_is_live (zip seats ends))
    ∙ sym (sum_of_map (λ (s : Seat). length s.values) (λ (p : Seat × Ends). p.0) (filter edge_is_live (zip seats ends)))
    ∙ ap (sum_by (λ s. length s.values)) (live_firsts seats ends long)

-- ---- the rows of all tables

module _ (s : SchemaData) (vertices edges : List TableData) (ends : List (List Ends)) where
  pub vertices_at : (t : ℕ) → rows_at (stored_graph s vertices edges ends).vertices t ≡ vertex_rows (table_at vertices t)
  vertices_at t = at_map vertex_rows vertices t no_table

  past_edges : (u : ℕ) → length edges ≤ u → [] ≡ edge_rows_at s vertices edges ends u
  past_edges u past =
      ap (λ (x : TableData). edge_rows (seats_at vertices (source_at s u)) (seats_at vertices (destination_at s u)) (zip x.seats (ends_at ends u))) (sym (get_or_past edges u no_table past))

  edges_by : (u : ℕ) (b : Bool) → nat_lt u (length edges) ≡ b → rows_at (stored_graph s vertices edges ends).edges u ≡ edge_rows_at s vertices edges ends u
  edges_by u true e = get_or-map-range_with_len (edge_rows_at s vertices edges ends) 0 (length edges) u u [] (grind (arith, nat_tests)) (omega arith)
  edges_by u false e =
      let past : length edges ≤ u = grind (arith, nat_tests) in
      get_or_past (stored_graph s vertices edges ends).edges u [] (omega (arith, past, length-map-range_with_len (edge_rows_at s vertices edges ends) 0 (length edges))) ∙ past_edges u past

  pub edges_at : (u : ℕ) → rows_at (stored_graph s vertices edges ends).edges u ≡ edge_rows_at s vertices edges ends u
  edges_at u = edges_by u (nat_lt u (length edges)) refl

  pub has_vertex_is : (t : ℕ) (k : ℤ) → has_vertex_in k (rows_at (stored_graph s vertices edges ends).vertices t) ≡ list_any (sits k) (seats_at vertices t)
  has_vertex_is t k = ap (has_vertex_in k) (vertices_at t) ∙ vertex_sits (table_at vertices t) k

  taken_by : (keys : Keys) (k : ℤ) (t : ℕ) → is_taken keys vertex_key k (stored_graph s vertices edges ends).vertices t ≡ key_sits keys k vertices t
  taken_by Whole k t =
      any_of_map (has_key_in vertex_key k) vertex_rows vertices
      ∙ any_same (λ x. has_key_in vertex_key k (vertex_rows x)) (λ x. list_any (sits k) x.seats) vertices (λ x. vertex_sits x k)
  taken_by PerTable k t = has_vertex_is t k

  pub vertex_taken_is : (k : ℤ) (t : ℕ) → is_taken s.keys vertex_key k (stored_graph s vertices edges ends).vertices t ≡ key_sits s.keys k vertices t
  vertex_taken_is k t = taken_by s.keys k t

  pub vertex_once : AreDistinct s.keys vertex_key (stored_graph s vertices edges ends).vertices → (k : ℤ) (t : ℕ) → count_by (sits k) (seats_at vertices t) ≤ 1
  vertex_once are k t =
      omega (arith, once_in s.keys vertex_key (stored_graph s vertices edges ends).vertices are k t, ap (count_in vertex_key k) (vertices_at t), vertex_counts (table_at vertices t) k)

  pub vertex_total_is : vertex_total (stored_graph s vertices edges ends) ≡ live_total vertices
  vertex_total_is =
      sum_of_map (λ (rows : List VertexRow). length rows) vertex_rows vertices
      ∙ sum_same (λ x. length (vertex_rows x)) (λ x. length (live_seats x.seats)) vertices (λ x. length-map (live_seats x.seats) vertex_row)

  vertex_cells : sum_by (λ rows. sum_by (λ r. length (vertex_values r)) rows) (stored_graph s vertices edges ends).vertices ≡ live_cells vertices
  vertex_cells =
      sum_of_map (λ (rows : List VertexRow). sum_by (λ r. length (vertex_values r)) rows) vertex_rows vertices
      ∙ sum_same (λ x. sum_by (λ r. length (vertex_values r)) (vertex_rows x)) (λ x. sum_by (λ z. length z.values) (live_seats x.seats)) vertices (λ x. sum_of_map (λ r. length (vertex_values r)) vertex_row (live_seats x.seats))

  module _ (long : (u : ℕ) → length (seats_at edges u) ≤ length (ends_at ends u)) where
    pub has_edge_is : (u : ℕ) (k : ℤ) → has_edge_in k (rows_at (stored_graph s vertices edges ends).edges u) ≡ list_any (sits k) (seats_at edges u)
    has_edge_is u k =
        ap (has_edge_in k) (edges_at u) ∙ edge_sits (seats_at vertices (source_at s u)) (seats_at vertices (destination_at s u)) (seats_at edges u) (ends_at ends u) k (long u)

    at_place : (u : ℕ) (k : ℤ) → has_key_in edge_key k (edge_rows_at s vertices edges ends u) ≡ list_any (sits k) (seats_at edges u)
    at_place u k = edge_sits (seats_at vertices (source_at s u)) (seats_at vertices (destination_at s u)) (seats_at edges u) (ends_at ends u) k (long u)

    edge_taken_by : (keys : Keys) (k : ℤ) (t : ℕ) → is_taken keys edge_key k (stored_graph s vertices edges ends).edges t ≡ key_sits keys k edges t
    edge_taken_by Whole k t =
        any_of_map (has_key_in edge_key k) (edge_rows_at s vertices edges ends) (range_with_len 0 (length edges))
        ∙ any_same (λ u. has_key_in edge_key k (edge_rows_at s vertices edges ends u)) (λ u. list_any (sits k) (seats_at edges u)) (range_with_len 0 (length edges)) (λ u. at_place u k)
        ∙ sym (ap (list_any (λ (x : TableData). list_any (sits k) x.seats)) (by_places edges no_table)
        ∙ any_of_map (λ (x : TableData). list_any (sits k) x.seats) (λ i. table_at edges i) (range_with_len 0 (length edges)))
    edge_taken_by PerTable k t = has_edge_is t k

    pub edge_taken_is : (k : ℤ) (t : ℕ) → is_taken s.keys edge_key k (stored_graph s vertices edges ends).edges t ≡ key_sits s.keys k edges t
    edge_taken_is k t = edge_taken_by s.keys k t

    pub edge_once : AreDistinct s.keys edge_key (stored_graph s vertices edges ends).edges → (k : ℤ) (u : ℕ) → count_by (sits k) (seats_at edges u) ≤ 1
    edge_once are k u =
        omega (
          arith,
          once_in s.keys edge_key (stored_graph s vertices edges ends).edges are k u,
          ap (count_in edge_key k) (edges_at u),
          edge_counts (seats_at vertices (source_at s u)) (seats_at vertices (destination_at s u)) (seats_at edges u) (ends_at ends u) k (long u),
        )

    pub edge_total_is : edge_total (stored_graph s vertices edges ends) ≡ live_total edges
    edge_total_is =
        sum_of_map (λ (rows : List EdgeRow). length rows) (edge_rows_at s vertices edges ends) (range_with_len 0 (length edges))
        ∙ sum_same (λ u. length (edge_rows_at s vertices edges ends u)) (λ u. length (live_seats (seats_at edges u))) (range_with_len 0 (length edges)) (λ u. edge_length (seats_at vertices (source_at s u)) (seats_at vertices (destination_at s u)) (seats_at edges u) (ends_at ends u) (long u))
        ∙ sym (ap live_total (by_places edges no_table) ∙ sum_of_map (λ (x : TableData). length (live_seats x.seats)) (λ i. table_at edges i) (range_with_len 0 (length edges)))

    edge_cells_all : sum_by (λ rows. sum_by (λ r. length (edge_values r)) rows) (stored_graph s vertices edges ends).edges ≡ live_cells edges
    edge_cells_all =
        sum_of_map (λ (rows : List EdgeRow). sum_by (λ r. length (edge_values r)) rows) (edge_rows_at s vertices edges ends) (range_with_len 0 (length edges))
        ∙ sum_same (λ u. sum_by (λ r. length (edge_values r)) (edge_rows_at s vertices edges ends u)) (λ u. sum_by (λ z. length z.values) (live_seats (seats_at edges u))) (range_with_len 0 (length edges)) (λ u. edge_cells (seats_at vertices (source_at s u)) (seats_at vertices (destination_at s u)) (seats_at edges u) (ends_at ends u) (long u))
        ∙ sym (ap live_cells (by_places edges no_table) ∙ sum_of_map (λ (x : TableData). sum_by (λ z. length z.values) (live_seats x.seats)) (λ i. table_at edges i) (range_with_len 0 (length edges)))

    pub cell_total_is : cell_total (stored_graph s vertices edges ends) ≡ live_cells vertices + live_cells edges
    cell_total_is = omega (arith, vertex_cells, edge_cells_all)

-- ---- values that fit

and_parts : (a b : Bool) → (a && b) ≡ true → (a ≡ true) × (b ≡ true)
and_parts true b e = (refl, e)
and_parts false b e = cc

pub fit_of : (props : List Prop) (vs : List Value) → length vs ≡ length props → kinds_fit props vs ≡ true → Fit (kinds_of_props props) vs
fit_of [] [] e f = tt
fit_of [] (v ∷ vs) e f = cc
fit_of (p ∷ props) [] e f = cc
fit_of (p ∷ props) (v ∷ vs) e f =
    let parts = and_parts (fits_kind p.kind v) (kinds_fit props vs) f in
    (parts.0, fit_of props vs (omega arith) parts.1)

pub vertex_kinds_at : (xs : List VertexTable) (ts : List TableData) (t : ℕ) → AllZip HasVertexKinds xs ts → t < length xs → (table_at ts t).kinds ≡ kinds_of_props (vertex_table_props (slice_get xs t))
vertex_kinds_at [] ts t h within = absurd (omega arith)
vertex_kinds_at (x ∷ xs) [] t h within = absurd h
vertex_kinds_at (x ∷ xs) (y ∷ ts) zero h within = h.0
vertex_kinds_at (x ∷ xs) (y ∷ ts) (suc t) h within = vertex_kinds_at xs ts t h.1 (omega arith)

pub edge_kinds_at : (xs : List EdgeTable) (ts : List TableData) (t : ℕ) → AllZip HasEdgeKinds xs ts → t < length xs → (table_at ts t).kinds ≡ kinds_of_props (edge_table_props (slice_get xs t))
edge_kinds_at [] ts t h within = absurd (omega arith)
edge_kinds_at (x ∷ xs) [] t h within = absurd h
edge_kinds_at (x ∷ xs) (y ∷ ts) zero h within = h.0
edge_kinds_at (x ∷ xs) (y ∷ ts) (suc t) h within = edge_kinds_at xs ts t h.1 (omega arith)

-- a property whose kind a value has
pub kind_at : (props : List Prop) (p : ℕ) (v : Value) → kind_fits_at props p v ≡ true → (p < length (kinds_of_props props)) × IsTrue (fits_kind (get_or (kinds_of_props props) p kind.Long) v)
kind_at [] p v e = absurd (let no_way : false ≡ true = e in cc)
kind_at (q ∷ props) zero v e = (omega arith, e)
kind_at (q ∷ props) (suc p) v e =
    let rest = kind_at props p v e in
    (omega (arith, rest.0), rest.1)

-- ---- tables without rows

pub empty_vertex_kinds : (xs : List VertexTable) → AllZip HasVertexKinds xs (map (λ x. record { kinds = kinds_of_props x.props; seats = [] }) xs)
empty_vertex_kinds [] = tt
empty_vertex_kinds (x ∷ xs) = (refl, empty_vertex_kinds xs)

pub empty_edge_kinds : (xs : List EdgeTable) → AllZip HasEdgeKinds xs (map (λ x. record { kinds = kinds_of_props x.props; seats = [] }) xs)
empty_edge_kinds [] = tt
empty_edge_kinds (x ∷ xs) = (refl, empty_edge_kinds xs)

no_vertex_rows : (xs : List VertexTable) → map vertex_rows (map (λ x. record { kinds = kinds_of_props x.props; seats = [] }) xs) ≡ replicate (length xs) []
no_vertex_rows [] = refl
no_vertex_rows (x ∷ xs) = ap (λ l. [] ∷ l) (no_vertex_rows xs)

pub no_seats_at : (xs : List EdgeTable) (u : ℕ) → seats_at (map (λ x. record { kinds = kinds_of_props x.props; seats = [] }) xs) u ≡ []
no_seats_at [] u = refl
no_seats_at (x ∷ xs) zero = refl
no_seats_at (x ∷ xs) (suc u) = no_seats_at xs u

same_all : {X Y : Type 0} (f : X → Y) (xs : List X) (y : Y) → ((x : X) → f x ≡ y) → map f xs ≡ replicate (length xs) y
same_all f [] y e = refl
same_all f (x ∷ xs) y e = ap (λ z. z ∷ map f xs) (e x) ∙ ap (λ l. y ∷ l) (same_all f xs y e)

module _ (s : SchemaData) (n : ℕ) where
  abbrev pub no_vertices : List TableData
  no_vertices = map (λ x. record { kinds = kinds_of_props x.props; seats = [] }) s.vertices

  abbrev pub no_edges : List TableData
  no_edges = map (λ x. record { kinds = kinds_of_props x.props; seats = [] }) s.edges

  empty_at : (u : ℕ) → edge_rows_at s no_vertices no_edges (replicate n []) u ≡ []
  empty_at u =
      ap (λ (l : List Seat). edge_rows (seats_at no_vertices (source_at s u)) (seats_at no_vertices (destination_at s u)) (zip l (ends_at (replicate n []) u))) (no_seats_at s.edges u)

  pub empty_view : stored_graph s no_vertices no_edges (replicate n []) ≡ empty_graph s
  empty_view =
      ap {B = GraphData} (λ es. record { schema = s; vertices = map vertex_rows no_vertices; edges = es })
      (same_all (edge_rows_at s no_vertices no_edges (replicate n [])) (range_with_len 0 (length no_edges)) [] empty_at
      ∙ ap (λ m. replicate m []) (length-range_with_len 0 (length no_edges) ∙ length-map s.edges (λ x. record { kinds = kinds_of_props x.props; seats = [] })))
      ∙ ap {B = GraphData} (λ vs. record { schema = s; vertices = vs; edges = replicate (length s.edges) [] }) (no_vertex_rows s.vertices)

  pub empty_stored : n ≡ length no_edges → IsSchema s → IsStored s no_vertices no_edges (replicate n [])
  empty_stored same is = record {
    graph = subst IsGraph (sym empty_view) (empty_is_graph s is);
    vertex_kinds = empty_vertex_kinds s.vertices;
    edge_kinds = empty_edge_kinds s.edges;
    lists = omega (arith, same, length-replicate {A = List Ends} n []);
    long = λ u. omega (arith, ap length (no_seats_at s.edges u));
    sit = λ u. subst (λ (l : List Seat). All (EndsSit (seats_at no_vertices (source_at s u)) (seats_at no_vertices (destination_at s u))) (zip l (ends_at (replicate n []) u))) (sym (no_seats_at s.edges u)) (λ i d h. absurd (omega arith));
  }
