-- The columns of stored tables are those of the graph.
use Rattle.std.proofs.Common.{◌≡◌, ℕ, ℤ, pos, zero, suc, ◌+◌, ◌<◌, ◌≤◌, Bool, true, false, List, [], ◌∷◌, ◌++◌, Option, Some, None, length, get_or, slice_get, drop, refl, ap, sym, ◌∙◌, subst, arith, map, filter, count_by, All}
use Rattle.std.specs.List.{AllZip, range_with_len, zip, position_or_len}
use Rattle.std.specs.Prelude.{nat_lt}
use Rattle.std.specs.Ordering.{int_eq}
use Rattle.std.proofs.lemmas.Bool.Decides.{nat_tests, Decides-int_eq}
use Rattle.std.proofs.lemmas.List.{length-map, length-append, get_or_past, get_or_default, get_or_at, get_or-drop, length_push, append_assoc, append-nil, nil_from_length}
use Rattle.std.proofs.lemmas.List.FromFn.{length-map-range_with_len}
use Rattle.column_types.specs.declared.kind.Kind.TheVariants as kind
use Rattle.column_types.specs.declared.value.Value.{Value}
use Rattle.column_types.specs.Column.{ColumnData}
use Rattle.graph_schema.specs.declared.schema.Prop.{Prop}
use Rattle.graph_schema.specs.declared.schema.VertexTable.{VertexTable}
use Rattle.graph_schema.specs.declared.schema.EdgeTable.{EdgeTable}
use Rattle.graph_schema.specs.Schema.{SchemaData}
use Rattle.graph_schema.proofs.Sound.{ends_in_range}
use Rattle.graph_model.specs.declared.row.VertexRow.{VertexRow}
use Rattle.graph_model.specs.declared.row.EdgeRow.{EdgeRow}
use Rattle.graph_model.specs.declared.ends.Ends.{Ends}
use Rattle.graph_model.specs.declared.columns.VertexColumns.{VertexColumns}
use Rattle.graph_model.specs.declared.columns.EdgeColumns.{EdgeColumns}
use Rattle.graph_model.specs.declared.columns.GraphColumns.{GraphColumns}
use Rattle.graph_model.specs.Keys.{rows_at}
use Rattle.graph_model.specs.Graph.{GraphData, vertex_key, edge_key, vertex_table_props, edge_table_props, vertex_props_at, edge_props_at, source_at, destination_at, source_table, destination_table}
use Rattle.graph_model.specs.Columns.{value_at, prop_kind, place_in, source_places, destination_places}
use Rattle.graph_model.specs.Seats.{Seat, TableData, is_live, live_seats, seat_key, sits, sits_at, key_at}
use Rattle.graph_model.specs.Stored.{no_table, table_at, seats_at, ends_at, pairs_at, kinds_of_props, HasVertexKinds, HasEdgeKinds, vertex_row, vertex_rows, edge_row, edge_rows, edge_is_live, stored_graph, IsStored, EndsSit, no_pair}
use Rattle.graph_model.specs.Parts.{AreEach, AreRanks, AreRanksOf, ranks_at, rank, place_by, part_column, HasVertexParts, HaveVertexParts, HasEdgeParts, HasEdgePartsAt, HasFewEnds, source_place, destination_place, TellsPlaces}
use Rattle.graph_model.specs.IntoColumns.{AreColumnsOf, AreVertexColumns, AreEdgeColumns, vertex_column, edge_column}
use Rattle.graph_model.proofs.Rows.{got}
use Rattle.graph_model.proofs.Told.{sits_within}
use Rattle.graph_model.proofs.Zips.{AllZip-length}
use Rattle.graph_model.proofs.SeatRows.{rows_same}
use Rattle.graph_model.proofs.SeatEnds.{at_get}
use Rattle.graph_model.proofs.StoredRows.{vertices_at, edges_at, live_firsts, vertex_once}
use Rattle.graph_model.proofs.SeatPlaces.{place_is_rank}
use Rattle.graph_model.proofs.TableParts.{map_map, map_same}

-- ---- lists of which each item stands to its place

pub each_none : {C : Type 0} (P : ℕ → C → Type 0) → AreEach P 0 []
each_none P = record { count = refl; each = λ i x e. let no_way : None ≡ Some x = e in cc }

each_last : {C : Type 0} (P : ℕ → C → Type 0) (xs : List C) (x : C) → ((i : ℕ) (y : C) → slice_get xs i ≡ Some y → P i y) → P (length xs) x → (i : ℕ) (y : C) → slice_get (xs ++ x ∷ []) i ≡ Some y → P i y
each_last P [] x each here zero y e = let same : x ≡ y = cc in subst (P 0) same here
each_last P [] x each here (suc i) y e = let no_way : None ≡ Some y = e in cc
each_last P (z ∷ xs) x each here zero y e = each 0 y e
each_last P (z ∷ xs) x each here (suc i) y e = each_last (λ j. P (suc j)) xs x (λ j w f. each (suc j) w f) here i y e

pub each_push : {C : Type 0} (P : ℕ → C → Type 0) (n : ℕ) (xs : List C) (x : C) → AreEach P n xs → P n x → AreEach P (n + 1) (xs ++ x ∷ [])
each_push P n xs x are here = record {
  count = omega (arith, length_push xs x, are.count);
  each = each_last P xs x are.each (subst (λ m. P m x) (sym are.count) here);
}

-- ---- items handed out one by one

pub next_item : {X : Type 0} (ys rest after xs : List X) (x : X) → ys ++ rest ≡ xs → rest ≡ x ∷ after → (length ys < length xs) × (get_or xs (length ys) x ≡ x) × ((ys ++ x ∷ []) ++ after ≡ xs)
next_item ys rest after xs x whole next =
    let all : ys ++ x ∷ after ≡ xs = ap (λ l. ys ++ l) (sym next) ∙ whole in
    (omega (arith, sym (length-append ys (x ∷ after)) ∙ ap length all), ap (λ l. get_or l (length ys) x) (sym all) ∙ get_or_at ys x after x (length ys) refl, append_assoc ys (x ∷ []) after ∙ all)

pub all_handed : {X : Type 0} (ys rest xs : List X) → ys ++ rest ≡ xs → length rest ≡ 0 → ys ≡ xs
all_handed ys rest xs whole none =
    sym (append-nil ys) ∙ ap (λ l. ys ++ l) (sym (nil_from_length rest none)) ∙ whole

-- the first of those that are left
pub first_left : {X : Type 0} (xs : List X) (n : ℕ) (x d : X) → slice_get (drop n xs) 0 ≡ Some x → x ≡ get_or xs n d
first_left xs n x d e =
    let at = got (drop n xs) 0 x d e in
    sym at.1 ∙ get_or-drop n xs 0 d ∙ ap (λ m. get_or xs m d) (omega arith)

rest_next : {X : Type 0} (xs : List X) (n : ℕ) → drop 1 (drop n xs) ≡ drop (suc n) xs
rest_next [] zero = refl
rest_next [] (suc n) = refl
rest_next (x ∷ xs) zero = refl
rest_next (x ∷ xs) (suc n) = rest_next xs n

pub rest_left : {X : Type 0} (xs : List X) (n : ℕ) → drop 1 (drop n xs) ≡ drop (n + 1) xs
rest_left xs n =
    let one : suc n ≡ n + 1 = omega arith in
    rest_next xs n ∙ ap (λ m. drop m xs) one

-- ---- kinds

kind_at : (props : List Prop) (p : ℕ) → get_or (kinds_of_props props) p kind.Long ≡ prop_kind (slice_get props p)
kind_at [] p = refl
kind_at (x ∷ props) zero = refl
kind_at (x ∷ props) (suc p) = kind_at props p

vertex_kinds_at : (shapes : List VertexTable) (tables : List TableData) (t : ℕ) → AllZip HasVertexKinds shapes tables → (table_at tables t).kinds ≡ kinds_of_props (vertex_table_props (slice_get shapes t))
vertex_kinds_at [] [] t h = refl
vertex_kinds_at [] (y ∷ tables) t h = absurd h
vertex_kinds_at (x ∷ shapes) [] t h = absurd h
vertex_kinds_at (x ∷ shapes) (y ∷ tables) zero h = h.0
vertex_kinds_at (x ∷ shapes) (y ∷ tables) (suc t) h = vertex_kinds_at shapes tables t h.1

edge_kinds_at : (shapes : List EdgeTable) (tables : List TableData) (t : ℕ) → AllZip HasEdgeKinds shapes tables → (table_at tables t).kinds ≡ kinds_of_props (edge_table_props (slice_get shapes t))
edge_kinds_at [] [] t h = refl
edge_kinds_at [] (y ∷ tables) t h = absurd h
edge_kinds_at (x ∷ shapes) [] t h = absurd h
edge_kinds_at (x ∷ shapes) (y ∷ tables) zero h = h.0
edge_kinds_at (x ∷ shapes) (y ∷ tables) (suc t) h = edge_kinds_at shapes tables t h.1

-- the columns of a table of these properties
columns_same : (x : TableData) (props : List Prop) (column : ℕ → ColumnData) → x.kinds ≡ kinds_of_props props → ((p : ℕ) → column p ≡ record { kind = prop_kind (slice_get props p); values = map (λ s. value_at p s.values) (live_seats x.seats) }) → map (part_column x) (range_with_len 0 (length x.kinds)) ≡ map column (range_with_len 0 (length props))
columns_same x props column kinds same =
    map_same (part_column x) column (range_with_len 0 (length x.kinds))
    (λ p. ap {B = ColumnData} (λ k. record { kind = k; values = map (λ s. value_at p s.values) (live_seats x.seats) }) (ap (λ ks. get_or ks p kind.Long) kinds ∙ kind_at props p) ∙ sym (same p))
    ∙ ap (λ n. map column (range_with_len 0 n)) (ap length kinds ∙ length-map props (λ (p : Prop). p.kind))

pub range_at : (xs : List EdgeTable) (v n : ℕ) → All (λ x. (x.source < n) × (x.destination < n)) xs → v < length xs → (source_table (slice_get xs v) < n) × (destination_table (slice_get xs v) < n)
range_at [] v n all h = absurd (omega arith)
range_at (x ∷ xs) zero n all h = all 0 x (omega arith)
range_at (x ∷ xs) (suc v) n all h = range_at xs v n (λ i d k. all (suc i) d (omega arith)) (omega arith)

-- ---- a graph

module _ (s : SchemaData) (vertices edges : List TableData) (ends : List (List Ends)) (stored : IsStored s vertices edges ends) where
  abbrev graph : GraphData
  graph = stored_graph s vertices edges ends

  -- ---- vertices

  vertex_values_same : (t p : ℕ) → map (λ r. value_at p r.values) (rows_at graph.vertices t) ≡ map (λ s. value_at p s.values) (live_seats (seats_at vertices t))
  vertex_values_same t p =
      ap (map (λ (r : VertexRow). value_at p r.values)) (vertices_at s vertices edges ends t)
      ∙ map_map (λ (r : VertexRow). value_at p r.values) vertex_row (live_seats (seats_at vertices t))

  vertex_columns_are : (t : ℕ) (c : VertexColumns) → HasVertexParts (table_at vertices t) c → AreVertexColumns graph t c
  vertex_columns_are t c has = record {
    keys = has.keys ∙ sym (ap (map vertex_key) (vertices_at s vertices edges ends t) ∙ map_map vertex_key vertex_row (live_seats (seats_at vertices t)));
    values = has.values ∙ columns_same (table_at vertices t) (vertex_props_at s t) (vertex_column graph t) (vertex_kinds_at s.vertices vertices t stored.vertex_kinds)
        (λ p. ap {B = ColumnData} (λ vs. record { kind = prop_kind (slice_get (vertex_props_at s t) p); values = vs }) (vertex_values_same t p));
    places = has.places;
  }

  -- ---- edges

  firsts : {X : Type 0} (f : Seat → X) (u : ℕ) → map (λ q. f q.0) (filter edge_is_live (pairs_at edges ends u)) ≡ map f (live_seats (seats_at edges u))
  firsts f u =
      sym (map_map f (λ (q : Seat × Ends). q.0) (filter edge_is_live (pairs_at edges ends u)))
      ∙ ap (map f) (live_firsts (seats_at edges u) (ends_at ends u) (stored.long u))

  -- what is told of edges, told of their seats
  edges_same : {X : Type 0} (f : EdgeRow → X) (u : ℕ) → map f (rows_at graph.edges u) ≡ map (λ q. f (edge_row (seats_at vertices (source_at s u)) (seats_at vertices (destination_at s u)) q)) (filter edge_is_live (pairs_at edges ends u))
  edges_same f u =
      ap (map f) (edges_at s vertices edges ends u)
      ∙ map_map f (edge_row (seats_at vertices (source_at s u)) (seats_at vertices (destination_at s u))) (filter edge_is_live (pairs_at edges ends u))

  place_same : (t : ℕ) (ranks : List ℤ) (i : ℕ) → AreRanks (seats_at vertices t) ranks → sits_at (seats_at vertices t) i ≡ true → place_by ranks i ≡ pos (place_in (rows_at graph.vertices t) (key_at (seats_at vertices t) i))
  place_same t ranks i are there =
      let seats = seats_at vertices t in
      are.told i (sits_within seats i there)
      ∙ ap pos (sym (place_is_rank seats i (key_at seats i) there ((Decides-int_eq (key_at seats i) (key_at seats i)).1 refl) (vertex_once s vertices edges ends stored.graph.vertex_keys (key_at seats i) t))
      ∙ ap (λ rows. place_in rows (key_at seats i)) (sym (vertices_at s vertices edges ends t)))

  module _ (ranks : List (List ℤ)) (are : AreRanksOf vertices ranks) where
    ranks_are : (t : ℕ) → t < length vertices → AreRanks (seats_at vertices t) (ranks_at ranks t)
    ranks_are t within = are.each t (ranks_at ranks t) (at_get ranks t (ranks_at ranks t) (omega (arith, are.count)) (get_or_default ranks t [] (ranks_at ranks t) (omega (arith, are.count))))

    few_by : (t : ℕ) (b : Bool) → nat_lt t (length vertices) ≡ b → length (seats_at vertices t) < 2147483648
    few_by t true e = (ranks_are t (grind (arith, nat_tests))).few
    few_by t false e =
        let past : length vertices ≤ t = grind (arith, nat_tests) in
        omega (arith, ap (λ (x : TableData). length x.seats) (get_or_past vertices t no_table past))

    few_seats : (t : ℕ) → length (seats_at vertices t) < 2147483648
    few_seats t = few_by t (nat_lt t (length vertices)) refl

    pub few_ends : (u : ℕ) → All HasFewEnds (pairs_at edges ends u)
    few_ends u i d within live =
        let sit = stored.sit u i d within live in
        let from = seats_at vertices (source_at s u) in
        let to = seats_at vertices (destination_at s u) in
        (omega (arith, sits_within from _ sit.0, few_seats (source_at s u)), omega (arith, sits_within to _ sit.1, few_seats (destination_at s u)))

    edge_columns_are : (u : ℕ) (c : EdgeColumns) → u < length s.edges → HasEdgePartsAt s.edges edges ends ranks u c → AreEdgeColumns graph u c
    edge_columns_are u c within has =
        let pairs = pairs_at edges ends u in
        let from = source_at s u in
        let to = destination_at s u in
        let in_range = each_in_range u within in
        let source_ranks = ranks_are from (omega (arith, in_range.0, AllZip-length _ s.vertices vertices stored.vertex_kinds)) in
        let destination_ranks = ranks_are to (omega (arith, in_range.1, AllZip-length _ s.vertices vertices stored.vertex_kinds)) in
        record {
          keys = has.keys ∙ sym (edges_same edge_key u ∙ firsts seat_key u);
          sources = has.sources
              ∙ rows_same (source_place (ranks_at ranks from)) (λ q. pos (place_in (rows_at graph.vertices from) (key_at (seats_at vertices from) q.1.source))) edge_is_live pairs
              (λ i d h live. place_same from (ranks_at ranks from) (get_or pairs i d).1.source source_ranks (stored.sit u i d h live).0)
              ∙ sym (ap (map pos) (edges_same (λ r. place_in (rows_at graph.vertices from) r.source) u) ∙ map_map pos _ (filter edge_is_live pairs));
          destinations = has.destinations
              ∙ rows_same (destination_place (ranks_at ranks to)) (λ q. pos (place_in (rows_at graph.vertices to) (key_at (seats_at vertices to) q.1.destination))) edge_is_live pairs
              (λ i d h live. place_same to (ranks_at ranks to) (get_or pairs i d).1.destination destination_ranks (stored.sit u i d h live).1)
              ∙ sym (ap (map pos) (edges_same (λ r. place_in (rows_at graph.vertices to) r.destination) u) ∙ map_map pos _ (filter edge_is_live pairs));
          values = has.values ∙ columns_same (table_at edges u) (edge_props_at s u) (edge_column graph u) (edge_kinds_at s.edges edges u stored.edge_kinds)
              (λ p. ap {B = ColumnData} (λ vs. record { kind = prop_kind (slice_get (edge_props_at s u) p); values = vs })
              (edges_same (λ r. value_at p r.values) u ∙ firsts (λ z. value_at p z.values) u));
          places = has.places;
        }
      where
        each_in_range : (v : ℕ) → v < length s.edges → (source_at s v < length s.vertices) × (destination_at s v < length s.vertices)
        each_in_range v h = range_at s.edges v (length s.vertices) (ends_in_range s stored.graph.schema) h

    pub columns_are : (vs : List VertexColumns) (es : List EdgeColumns) → HaveVertexParts vertices vs → AreEach (HasEdgePartsAt s.edges edges ends ranks) (length edges) es → AreColumnsOf graph (record { schema = s; vertices = vs; edges = es })
    columns_are vs es have have_edges = record {
      schema = refl;
      vertex_tables = have.count ∙ sym (length-map vertices vertex_rows);
      vertices = λ t c e. vertex_columns_are t c (have.each t c e);
      edge_tables = have_edges.count ∙ sym (length-map-range_with_len _ 0 (length edges));
      edges = λ u c e. edge_columns_are u c (omega (arith, (got es u c c e).0, have_edges.count, AllZip-length _ s.edges edges stored.edge_kinds)) (have_edges.each u c e);
    }
