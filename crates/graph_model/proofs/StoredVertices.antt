-- What a change of the vertices makes of a stored graph.
use Rattle.std.proofs.Common.{◌≡◌, ◌≢◌, ℕ, ℤ, zero, suc, ◌+◌, ◌<◌, ◌≤◌, Bool, true, false, ◌||◌, ◌&&◌, ◌==◌, not, List, [], ◌∷◌, ◌++◌, Option, Some, None, length, get_or, set, slice_get, refl, ap, sym, ◌∙◌, subst, arith, cond, map, filter, count_by, All}
use Rattle.std.specs.Prelude.{IsTrue}
use Rattle.std.specs.List.{AllZip, list_any, position, zip, range_with_len}
use Rattle.std.specs.Ordering.{int_eq}
use Rattle.std.proofs.lemmas.Bool.{true≢false}
use Rattle.std.proofs.lemmas.Bool.Decides.{nat_tests, Decides-int_eq}
use Rattle.std.proofs.lemmas.List.{map-set, length-set, get_or-set_other, get_or_append_left}
use Rattle.std.proofs.lemmas.List.Quantifiers.{position-Some}
use Rattle.column_types.specs.declared.value.Value.{Value}
use Rattle.graph_schema.specs.declared.schema.EdgeTable.{EdgeTable}
use Rattle.graph_schema.specs.Schema.{SchemaData}
use Rattle.graph_model.specs.declared.row.VertexRow.{VertexRow}
use Rattle.graph_model.specs.declared.row.EdgeRow.{EdgeRow}
use Rattle.graph_model.specs.declared.ends.Ends.{Ends}
use Rattle.graph_model.specs.declared.change.Change.TheVariants.{InsertVertex, DeleteVertex, SetVertex}
use Rattle.graph_model.specs.Keys.{rows_at, without_key, change_at_key}
use Rattle.graph_model.specs.Graph.{GraphData, IsGraph, vertex_key, source_at, destination_at, source_table, destination_table, is_end, is_end_in}
use Rattle.graph_model.specs.Change.{changed, with_vertex_value}
use Rattle.graph_model.specs.Seats.{Seat, TableData, is_live, seat_key, sits, sits_at, key_at, no_seat, seated, vacated, left, reset, with_value}
use Rattle.graph_model.specs.Stored.{no_table, table_at, seats_at, vertex_row, vertex_rows, ends_at, edge_is_live, edge_row, edge_rows, pairs_at, edge_rows_at, stored_graph, HasVertexKinds, EndsSit, IsStored}
use Rattle.graph_model.proofs.Rows.{or_false, and_false, any_false_at}
use Rattle.graph_model.proofs.Zips.{AllZip-set, AllZip-length}
use Rattle.graph_model.proofs.Told.{sits_within}
use Rattle.graph_model.proofs.Memory.{range_same}
use Rattle.graph_model.proofs.SeatRows.{any_rows, rows_same, rows_push, rows_left, rows_changed}
use Rattle.graph_model.proofs.StoredRows.{vertices_at, edges_at, vertex_once}
use Rattle.graph_model.proofs.VertexChanges as v

-- ---- seats that stay

-- a row that sits at a place still does, with its key
pub record Stays (before after : List Seat) (i : ℕ) : Type 0 where
  pub sits : sits_at after i ≡ true
  pub key : key_at after i ≡ key_at before i

stays_itself : (seats : List Seat) (i : ℕ) → sits_at seats i ≡ true → Stays seats seats i
stays_itself seats i e = record { sits = e; key = refl }

-- the same of a table, where the seats of one table changed
pub table_stays : (xs : List TableData) (t w i : ℕ) (x : TableData) → (w ≡ t → sits_at (seats_at xs t) i ≡ true → Stays (seats_at xs t) x.seats i) → sits_at (seats_at xs w) i ≡ true → Stays (seats_at xs w) (seats_at (set xs t x) w) i
table_stays [] t w i x f e = stays_itself [] i e
table_stays (y ∷ xs) zero zero i x f e = f refl e
table_stays (y ∷ xs) zero (suc w) i x f e = stays_itself (seats_at xs w) i e
table_stays (y ∷ xs) (suc t) zero i x f e = stays_itself y.seats i e
table_stays (y ∷ xs) (suc t) (suc w) i x f e = table_stays xs t w i x (λ same. f (ap (λ n. suc n) same)) e

pub seated_stays : (seats : List Seat) (k : ℤ) (vs : List Value) (i : ℕ) → sits_at seats i ≡ true → Stays seats (seated seats k vs) i
seated_stays seats k vs i e =
    let here = get_or_append_left seats (record { key = k; values = vs; live = true } ∷ []) no_seat i (sits_within seats i e) in
    record { sits = ap is_live here ∙ e; key = ap seat_key here }

-- what an item in whose place another one stands has in common with it, all places have
pub same_at : {X Y : Type 0} (f : X → Y) (xs : List X) (j i : ℕ) (y d : X) → f y ≡ f (get_or xs j d) → f (get_or (set xs j y) i d) ≡ f (get_or xs i d)
same_at f [] j i y d e = refl
same_at f (x ∷ xs) zero zero y d e = e
same_at f (x ∷ xs) zero (suc i) y d e = refl
same_at f (x ∷ xs) (suc j) zero y d e = refl
same_at f (x ∷ xs) (suc j) (suc i) y d e = same_at f xs j i y d e

pub reset_stays : (seats : List Seat) (j p : ℕ) (v : Value) (i : ℕ) → sits_at seats i ≡ true → Stays seats (reset seats j p v) i
reset_stays seats j p v i e = record {
  sits = same_at is_live seats j i (with_value p v (get_or seats j no_seat)) no_seat refl ∙ e;
  key = same_at seat_key seats j i (with_value p v (get_or seats j no_seat)) no_seat refl;
}

pub vacated_stays : (seats : List Seat) (j i : ℕ) → i ≢ j → sits_at seats i ≡ true → Stays seats (vacated seats j) i
vacated_stays seats j i apart e =
    let here = get_or-set_other seats j i (left (get_or seats j no_seat)) no_seat apart in
    record { sits = ap is_live here ∙ e; key = ap seat_key here }

-- ---- where the ends of all edges stay

abbrev pub EndsStay : List Seat → List Seat → List Seat → List Seat → Seat × Ends → Type 0
EndsStay from from₂ to to₂ p = p.0.live ≡ true → Stays from from₂ p.1.source × Stays to to₂ p.1.destination

-- what was found at the place of a key
pub record FoundAt (seats : List Seat) (k : ℤ) (i : ℕ) : Type 0 where
  pub within : i < length seats
  pub live : sits_at seats i ≡ true
  pub key : int_eq (key_at seats i) k ≡ true

both : (a b : Bool) → (a && b) ≡ true → (a ≡ true) × (b ≡ true)
both true b e = (refl, e)
both false b e = cc

pub found_at : (seats : List Seat) (k : ℤ) (i : ℕ) → position (sits k) seats ≡ Some i → FoundAt seats k i
found_at seats k i e =
    let place = position-Some (sits k) seats i no_seat e in
    let parts = both (is_live (get_or seats i no_seat)) (int_eq (seat_key (get_or seats i no_seat)) k) place.1 in
    record { within = place.0; live = parts.0; key = parts.1 }

end_false_at : (t : ℕ) (k : ℤ) (xs : List EdgeTable) (ys : List (List EdgeRow)) (u : ℕ) → length xs ≡ length ys → list_any (λ p. is_end_in t k p.0 p.1) (zip xs ys) ≡ false → list_any (λ r. (source_table (slice_get xs u) == t && int_eq r.source k) || (destination_table (slice_get xs u) == t && int_eq r.destination k)) (get_or ys u []) ≡ false
end_false_at t k [] [] u same e = refl
end_false_at t k [] (y ∷ ys) u same e = cc
end_false_at t k (x ∷ xs) [] u same e = cc
end_false_at t k (x ∷ xs) (y ∷ ys) zero same e = (or_false (is_end_in t k x y) (list_any (λ p. is_end_in t k p.0 p.1) (zip xs ys)) e).0
end_false_at t k (x ∷ xs) (y ∷ ys) (suc u) same e =
    end_false_at t k xs ys u (omega arith) (or_false (is_end_in t k x y) (list_any (λ p. is_end_in t k p.0 p.1) (zip xs ys)) e).1

-- the ends of all edges stay
abbrev pub EdgesStay : SchemaData → List TableData → List TableData → List TableData → List (List Ends) → Type 0
EdgesStay s vertices after edges ends =
    (u : ℕ) → All (EndsStay (seats_at vertices (source_at s u)) (seats_at after (source_at s u)) (seats_at vertices (destination_at s u)) (seats_at after (destination_at s u))) (pairs_at edges ends u)

module _ (s : SchemaData) (vertices edges : List TableData) (ends : List (List Ends)) (after : List TableData) where
  row_stays : (from from₂ to to₂ : List Seat) (p : Seat × Ends) → Stays from from₂ p.1.source → Stays to to₂ p.1.destination → edge_row from₂ to₂ p ≡ edge_row from to p
  row_stays from from₂ to to₂ p a b =
      ap (λ z. record { key = p.0.key; source = z; destination = key_at to₂ p.1.destination; values = p.0.values }) a.key
      ∙ ap (λ z. record { key = p.0.key; source = key_at from p.1.source; destination = z; values = p.0.values }) b.key

  rows_stay : EdgesStay s vertices after edges ends → (u : ℕ) → edge_rows_at s after edges ends u ≡ edge_rows_at s vertices edges ends u
  rows_stay stay u =
      rows_same (edge_row (seats_at after (source_at s u)) (seats_at after (destination_at s u))) (edge_row (seats_at vertices (source_at s u)) (seats_at vertices (destination_at s u))) edge_is_live (pairs_at edges ends u)
      (λ i d h live.
      let st = stay u i d h live in
      row_stays (seats_at vertices (source_at s u)) (seats_at after (source_at s u)) (seats_at vertices (destination_at s u)) (seats_at after (destination_at s u)) (get_or (pairs_at edges ends u) i d) st.0 st.1)

  -- the edges do not see a change of the vertices
  pub vertices_view : EdgesStay s vertices after edges ends → stored_graph s after edges ends ≡ record (stored_graph s vertices edges ends) { vertices = map vertex_rows after }
  vertices_view stay =
      ap (λ es. record { schema = s; vertices = map vertex_rows after; edges = es })
      (range_same (length edges) (edge_rows_at s after edges ends) (edge_rows_at s vertices edges ends) (λ u h. rows_stay stay u))

  pub vertices_stored : IsStored s vertices edges ends → EdgesStay s vertices after edges ends → AllZip HasVertexKinds s.vertices after → IsGraph (stored_graph s after edges ends) → IsStored s after edges ends
  vertices_stored is stay kinds graph = record {
    graph = graph;
    vertex_kinds = kinds;
    edge_kinds = is.edge_kinds;
    lists = is.lists;
    long = is.long;
    sit = λ u i d h live. let st = stay u i d h live in (st.0.sits, st.1.sits);
  }

module _ (s : SchemaData) (vertices edges : List TableData) (ends : List (List Ends)) (is : IsStored s vertices edges ends) (t : ℕ) (within : t < length vertices) where
  -- the tables with other seats in one
  abbrev pub with_seats : List Seat → List TableData
  with_seats seats = set vertices t (record { kinds = (table_at vertices t).kinds; seats = seats })

  pub kinds_stay : (seats : List Seat) → AllZip HasVertexKinds s.vertices (with_seats seats)
  kinds_stay seats = AllZip-set HasVertexKinds s.vertices vertices t (record { kinds = (table_at vertices t).kinds; seats = seats }) no_table is.vertex_kinds (λ x at old. old)

  all_stay : (seats : List Seat) → ((i : ℕ) → sits_at (seats_at vertices t) i ≡ true → Stays (seats_at vertices t) seats i) → EdgesStay s vertices (with_seats seats) edges ends
  all_stay seats f u i d h live =
      let p = get_or (pairs_at edges ends u) i d in
      let sit = is.sit u i d h live in
      let x : TableData = record { kinds = (table_at vertices t).kinds; seats = seats } in
      (table_stays vertices t (source_at s u) p.1.source x (λ same. f p.1.source) sit.0, table_stays vertices t (destination_at s u) p.1.destination x (λ same. f p.1.destination) sit.1)

  rows_of : (seats : List Seat) (rows : List VertexRow) → map vertex_row (filter is_live seats) ≡ rows → map vertex_rows (with_seats seats) ≡ set (map vertex_rows vertices) t rows
  rows_of seats rows e =
      map-set vertex_rows vertices t (record { kinds = (table_at vertices t).kinds; seats = seats }) ∙ ap (set (map vertex_rows vertices) t) e

  here : vertex_rows (table_at vertices t) ≡ rows_at (stored_graph s vertices edges ends).vertices t
  here = sym (vertices_at s vertices edges ends t)

  -- ---- insert

  pub insert_stays : (k : ℤ) (vs : List Value) → EdgesStay s vertices (with_seats (seated (seats_at vertices t) k vs)) edges ends
  insert_stays k vs = all_stay (seated (seats_at vertices t) k vs) (seated_stays (seats_at vertices t) k vs)

  pub insert_view : (k : ℤ) (vs : List Value) → stored_graph s (with_seats (seated (seats_at vertices t) k vs)) edges ends ≡ changed (stored_graph s vertices edges ends) (InsertVertex t k vs)
  insert_view k vs =
      let row : VertexRow = record { key = k; values = vs } in
      vertices_view s vertices edges ends (with_seats (seated (seats_at vertices t) k vs)) (insert_stays k vs)
      ∙ ap {B = GraphData} (λ rows. record (stored_graph s vertices edges ends) { vertices = rows })
      (rows_of (seated (seats_at vertices t) k vs) (rows_at (stored_graph s vertices edges ends).vertices t ++ row ∷ [])
      (rows_push vertex_row is_live (seats_at vertices t) (record { key = k; values = vs; live = true }) refl ∙ ap (λ rows. rows ++ row ∷ []) here))

  pub insert_stored : (k : ℤ) (vs : List Value) → v.FitsVertex (stored_graph s vertices edges ends) t k vs → IsStored s (with_seats (seated (seats_at vertices t) k vs)) edges ends
  insert_stored k vs fits =
      vertices_stored s vertices edges ends (with_seats (seated (seats_at vertices t) k vs)) is (insert_stays k vs) (kinds_stay (seated (seats_at vertices t) k vs))
      (subst IsGraph (sym (insert_view k vs)) (v.insert_keeps (stored_graph s vertices edges ends) t k vs is.graph fits))

  -- ---- set and delete, where the key was found

  module _ (k : ℤ) (i : ℕ) (found : FoundAt (seats_at vertices t) k i) where
    once : count_by (sits k) (seats_at vertices t) ≤ 1
    once = vertex_once s vertices edges ends is.graph.vertex_keys k t

    pub set_stays : (p : ℕ) (w : Value) → EdgesStay s vertices (with_seats (reset (seats_at vertices t) i p w)) edges ends
    set_stays p w = all_stay (reset (seats_at vertices t) i p w) (reset_stays (seats_at vertices t) i p w)

    pub set_view : (p : ℕ) (w : Value) → stored_graph s (with_seats (reset (seats_at vertices t) i p w)) edges ends ≡ changed (stored_graph s vertices edges ends) (SetVertex t k p w)
    set_view p w =
        vertices_view s vertices edges ends (with_seats (reset (seats_at vertices t) i p w)) (set_stays p w)
        ∙ ap {B = GraphData} (λ rows. record (stored_graph s vertices edges ends) { vertices = rows })
        (rows_of (reset (seats_at vertices t) i p w) (change_at_key vertex_key k (with_vertex_value p w) (rows_at (stored_graph s vertices edges ends).vertices t))
        (rows_changed vertex_row is_live vertex_key k (with_value p w) (with_vertex_value p w) (seats_at vertices t) i no_seat found.within found.live found.key found.live once (λ x. refl)
        ∙ ap (change_at_key vertex_key k (with_vertex_value p w)) here))

    pub set_stored : (p : ℕ) (w : Value) → v.FitsSet (stored_graph s vertices edges ends) t k p w → IsStored s (with_seats (reset (seats_at vertices t) i p w)) edges ends
    set_stored p w fits =
        vertices_stored s vertices edges ends (with_seats (reset (seats_at vertices t) i p w)) is (set_stays p w) (kinds_stay (reset (seats_at vertices t) i p w))
        (subst IsGraph (sym (set_view p w)) (v.set_keeps (stored_graph s vertices edges ends) t k p w is.graph fits))

    module _ (free : is_end s t k (stored_graph s vertices edges ends).edges ≡ false) where
      -- no edge that is there has an end in the seat
      no_end : (u j : ℕ) (d : Seat × Ends) → j < length (pairs_at edges ends u) → (get_or (pairs_at edges ends u) j d).0.live ≡ true → ((source_at s u == t && int_eq (key_at (seats_at vertices (source_at s u)) (get_or (pairs_at edges ends u) j d).1.source) k) ≡ false) × ((destination_at s u == t && int_eq (key_at (seats_at vertices (destination_at s u)) (get_or (pairs_at edges ends u) j d).1.destination) k) ≡ false)
      no_end u j d h live =
          let test = λ (r : EdgeRow). (source_at s u == t && int_eq r.source k) || (destination_at s u == t && int_eq r.destination k) in
          let none = end_false_at t k s.edges (stored_graph s vertices edges ends).edges u (AllZip-length _ s.edges (stored_graph s vertices edges ends).edges is.graph.edges) free in
          let rows = ap (list_any test) (sym (edges_at s vertices edges ends u)) ∙ none in
          let pairs = sym (any_rows (edge_row (seats_at vertices (source_at s u)) (seats_at vertices (destination_at s u))) edge_is_live test (pairs_at edges ends u)) ∙ rows in
          let apart = and_false (edge_is_live (get_or (pairs_at edges ends u) j d)) (test (edge_row (seats_at vertices (source_at s u)) (seats_at vertices (destination_at s u)) (get_or (pairs_at edges ends u) j d))) (any_false_at (λ p. edge_is_live p && test (edge_row (seats_at vertices (source_at s u)) (seats_at vertices (destination_at s u)) p)) (pairs_at edges ends u) j d pairs h) live in
          or_false (source_at s u == t && int_eq (key_at (seats_at vertices (source_at s u)) (get_or (pairs_at edges ends u) j d).1.source) k) (destination_at s u == t && int_eq (key_at (seats_at vertices (destination_at s u)) (get_or (pairs_at edges ends u) j d).1.destination) k) apart

      -- an end in the same table is in another seat
      other_seat : (w j : ℕ) → (w == t && int_eq (key_at (seats_at vertices w) j) k) ≡ false → w ≡ t → j ≢ i
      other_seat w j e same at =
          let differs = and_false (w == t) (int_eq (key_at (seats_at vertices w) j) k) e (grind (arith, nat_tests, same)) in
          let key : int_eq (key_at (seats_at vertices w) j) k ≡ true = ap (λ n. int_eq (key_at (seats_at vertices n) j) k) same ∙ ap (λ n. int_eq (key_at (seats_at vertices t) n) k) at ∙ found.key in
          true≢false (sym key ∙ differs)

      pub delete_stays : EdgesStay s vertices (with_seats (vacated (seats_at vertices t) i)) edges ends
      delete_stays u j d h live =
          let p = get_or (pairs_at edges ends u) j d in
          let sit = is.sit u j d h live in
          let apart = no_end u j d h live in
          let x : TableData = record { kinds = (table_at vertices t).kinds; seats = vacated (seats_at vertices t) i } in (
            table_stays vertices t (source_at s u) p.1.source x (λ same. vacated_stays (seats_at vertices t) i p.1.source (other_seat (source_at s u) p.1.source apart.0 same)) sit.0,
            table_stays vertices t (destination_at s u) p.1.destination x (λ same. vacated_stays (seats_at vertices t) i p.1.destination (other_seat (destination_at s u) p.1.destination apart.1 same)) sit.1,
          )

      pub delete_view : stored_graph s (with_seats (vacated (seats_at vertices t) i)) edges ends ≡ changed (stored_graph s vertices edges ends) (DeleteVertex t k)
      delete_view =
          vertices_view s vertices edges ends (with_seats (vacated (seats_at vertices t) i)) delete_stays
          ∙ ap {B = GraphData} (λ rows. record (stored_graph s vertices edges ends) { vertices = rows })
          (rows_of (vacated (seats_at vertices t) i) (without_key vertex_key k (rows_at (stored_graph s vertices edges ends).vertices t))
          (rows_left vertex_row is_live vertex_key k (seats_at vertices t) i (left (get_or (seats_at vertices t) i no_seat)) no_seat found.within found.live found.key refl once
          ∙ ap (without_key vertex_key k) here))

      pub delete_stored : v.FitsDelete (stored_graph s vertices edges ends) t k → IsStored s (with_seats (vacated (seats_at vertices t) i)) edges ends
      delete_stored fits =
          vertices_stored s vertices edges ends (with_seats (vacated (seats_at vertices t) i)) is delete_stays (kinds_stay (vacated (seats_at vertices t) i))
          (subst IsGraph (sym delete_view) (v.delete_keeps (stored_graph s vertices edges ends) t k is.graph fits))
