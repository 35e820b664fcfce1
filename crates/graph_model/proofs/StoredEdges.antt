-- What a change of the edges makes of a stored graph.
use Rattle.std.proofs.Common.{◌≡◌, ◌≢◌, ℕ, ℤ, zero, suc, ◌+◌, ◌<◌, ◌≤◌, Bool, true, false, ◌||◌, ◌&&◌, ◌==◌, not, List, [], ◌∷◌, ◌++◌, length, get_or, set, take, refl, ap, sym, ◌∙◌, subst, arith, cond, map, filter, count_by, All, min}
use Rattle.std.specs.Prelude.{IsTrue}
use Rattle.std.specs.List.{AllZip, list_any, zip, range_with_len}
use Rattle.std.specs.Ordering.{int_eq}
use Rattle.std.proofs.lemmas.Bool.Decides.{nat_tests}
use Rattle.std.proofs.lemmas.List.{map-set, length-set, length-take, length-append, length_push, get_or-set_other, get_or-set_same, take-take, take_at, length-take-le}
use Rattle.std.proofs.lemmas.List.Elements.{All-set, All-push}
use Rattle.column_types.specs.declared.value.Value.{Value}
use Rattle.graph_schema.specs.Schema.{SchemaData}
use Rattle.graph_model.specs.declared.row.EdgeRow.{EdgeRow}
use Rattle.graph_model.specs.declared.ends.Ends.{Ends}
use Rattle.graph_model.specs.declared.change.Change.TheVariants.{InsertEdge, DeleteEdge, SetEdge}
use Rattle.graph_model.specs.Keys.{rows_at, without_key, change_at_key}
use Rattle.graph_model.specs.Graph.{GraphData, IsGraph, edge_key, source_at, destination_at}
use Rattle.graph_model.specs.Change.{changed, with_edge_value}
use Rattle.graph_model.specs.Seats.{Seat, TableData, is_live, seat_key, sits, sits_at, key_at, no_seat, seated, vacated, left, reset, with_value}
use Rattle.graph_model.specs.Stored.{no_table, table_at, seats_at, ends_at, edge_is_live, edge_row, edge_rows, pairs_at, edge_rows_at, stored_graph, HasEdgeKinds, EndsSit, IsStored, PutsEnds, no_ends, no_pair}
use Rattle.graph_model.proofs.Zips.{AllZip-set}
use Rattle.graph_model.proofs.Memory.{range_set, range_same}
use Rattle.graph_model.proofs.SeatRows.{rows_push, rows_left, rows_changed, zip_at, zip_set, zip_push, zip_same, length_zip}
use Rattle.graph_model.proofs.StoredRows.{edges_at, edge_once, count_pair}
use Rattle.graph_model.proofs.StoredVertices.{FoundAt}
use Rattle.graph_model.proofs.EdgeChanges as e

-- what a fact about one place and a fact about all others tell
each_place : (P : ℕ → Type 0) (t w : ℕ) (b : Bool) → (w == t) ≡ b → P t → (w ≢ t → P w) → P w
each_place P t w true test here others =
    let same : t ≡ w = grind (arith, nat_tests) in
    subst P same here
each_place P t w false test here others = others (grind (arith, nat_tests))

-- the front of a list that grew
front : {A : Type 0} (n : ℕ) (ys zs : List A) (x : A) → n ≤ length ys → take (n + 1) zs ≡ take n ys ++ x ∷ [] → take n zs ≡ take n ys
front n ys zs x long h =
    sym (take-take n (n + 1) zs (omega arith)) ∙ ap (take n) h
    ∙ take_at (take n ys) (x ∷ []) n (length-take-le n ys long)

-- ---- edges of which one table changed

module _ (s : SchemaData) (vertices edges : List TableData) (ends : List (List Ends)) (edges₂ : List TableData) (ends₂ : List (List Ends)) (t : ℕ) (within : t < length edges) where
  pub edges_view : (rows : List EdgeRow) → length edges₂ ≡ length edges → ((w : ℕ) → w ≢ t → pairs_at edges₂ ends₂ w ≡ pairs_at edges ends w) → edge_rows_at s vertices edges₂ ends₂ t ≡ rows → stored_graph s vertices edges₂ ends₂ ≡ record (stored_graph s vertices edges ends) { edges = set (stored_graph s vertices edges ends).edges t rows }
  edges_view rows len others here =
      ap {B = GraphData} (λ es. record (stored_graph s vertices edges ends) { edges = es })
      (ap (λ n. map (edge_rows_at s vertices edges₂ ends₂) (range_with_len 0 n)) len
      ∙ range_set (length edges) t (edge_rows_at s vertices edges ends) (edge_rows_at s vertices edges₂ ends₂) within (λ j h apart. ap (edge_rows (seats_at vertices (source_at s j)) (seats_at vertices (destination_at s j))) (others j apart))
      ∙ ap (set (stored_graph s vertices edges ends).edges t) here)

  pub edges_sit : IsStored s vertices edges ends → ((w : ℕ) → w ≢ t → pairs_at edges₂ ends₂ w ≡ pairs_at edges ends w) → All (EndsSit (seats_at vertices (source_at s t)) (seats_at vertices (destination_at s t))) (pairs_at edges₂ ends₂ t) → (u : ℕ) → All (EndsSit (seats_at vertices (source_at s u)) (seats_at vertices (destination_at s u))) (pairs_at edges₂ ends₂ u)
  edges_sit is others here u =
      each_place (λ w. All (EndsSit (seats_at vertices (source_at s w)) (seats_at vertices (destination_at s w))) (pairs_at edges₂ ends₂ w)) t u (u == t) refl here
      (λ apart. subst (All (EndsSit (seats_at vertices (source_at s u)) (seats_at vertices (destination_at s u)))) (sym (others u apart)) (is.sit u))

module _ (s : SchemaData) (vertices edges : List TableData) (ends : List (List Ends)) (is : IsStored s vertices edges ends) (t : ℕ) (within : t < length edges) where
  abbrev pub with_edge_seats : List Seat → List TableData
  with_edge_seats seats = set edges t (record { kinds = (table_at edges t).kinds; seats = seats })

  seats_here : (seats : List Seat) → seats_at (with_edge_seats seats) t ≡ seats
  seats_here seats = ap (λ (x : TableData). x.seats) (get_or-set_same edges t (record { kinds = (table_at edges t).kinds; seats = seats }) no_table within)

  seats_other : (seats : List Seat) (w : ℕ) → w ≢ t → seats_at (with_edge_seats seats) w ≡ seats_at edges w
  seats_other seats w apart = ap (λ (x : TableData). x.seats) (get_or-set_other edges t w (record { kinds = (table_at edges t).kinds; seats = seats }) no_table apart)

  edge_kinds_stay : (seats : List Seat) → AllZip HasEdgeKinds s.edges (with_edge_seats seats)
  edge_kinds_stay seats = AllZip-set HasEdgeKinds s.edges edges t (record { kinds = (table_at edges t).kinds; seats = seats }) no_table is.edge_kinds (λ x at old. old)

  from : List Seat
  from = seats_at vertices (source_at s t)

  to : List Seat
  to = seats_at vertices (destination_at s t)

  -- ---- insert

  module _ (k a b : ℤ) (vs : List Value) (put : Ends) (ends₂ : List (List Ends)) (puts : PutsEnds t (length (seats_at edges t)) put ends ends₂) where
    ends_other : (w : ℕ) → w ≢ t → ends_at ends₂ w ≡ ends_at ends w
    ends_other w apart = ap (λ l. ends_at l w) puts.others ∙ get_or-set_other ends t w (ends_at ends₂ t) [] apart

    pub pairs_other : (w : ℕ) → w ≢ t → pairs_at (with_edge_seats (seated (seats_at edges t) k vs)) ends₂ w ≡ pairs_at edges ends w
    pairs_other w apart =
        ap (λ (l : List Seat). zip l (ends_at ends₂ w)) (seats_other (seated (seats_at edges t) k vs) w apart) ∙ ap (zip (seats_at edges w)) (ends_other w apart)

    pub pairs_here : pairs_at (with_edge_seats (seated (seats_at edges t) k vs)) ends₂ t ≡ pairs_at edges ends t ++ (record { key = k; values = vs; live = true }, put) ∷ []
    pairs_here =
        let next : suc (length (seats_at edges t)) ≡ length (seats_at edges t) + 1 = omega arith in
        ap (λ (l : List Seat). zip l (ends_at ends₂ t)) (seats_here (seated (seats_at edges t) k vs))
        ∙ zip_push (seats_at edges t) (ends_at ends t) (ends_at ends₂ t) (record { key = k; values = vs; live = true }) put (is.long t) (ap (λ n. take n (ends_at ends₂ t)) next ∙ puts.here)

    pub insert_edge_view : key_at (seats_at vertices (source_at s t)) put.source ≡ a → key_at (seats_at vertices (destination_at s t)) put.destination ≡ b → stored_graph s vertices (with_edge_seats (seated (seats_at edges t) k vs)) ends₂ ≡ changed (stored_graph s vertices edges ends) (InsertEdge t k a b vs)
    insert_edge_view source destination =
        let old = edge_rows (seats_at vertices (source_at s t)) (seats_at vertices (destination_at s t)) in
        edges_view s vertices edges ends (with_edge_seats (seated (seats_at edges t) k vs)) ends₂ t within _ (length-set edges t (record { kinds = (table_at edges t).kinds; seats = seated (seats_at edges t) k vs })) pairs_other
        (ap old pairs_here
        ∙ rows_push (edge_row (seats_at vertices (source_at s t)) (seats_at vertices (destination_at s t))) edge_is_live (pairs_at edges ends t) (record { key = k; values = vs; live = true }, put) refl
        ∙ ap (λ (x : ℤ). old (pairs_at edges ends t) ++ (record { key = k; source = x; destination = key_at (seats_at vertices (destination_at s t)) put.destination; values = vs }) ∷ []) source
        ∙ ap (λ (x : ℤ). old (pairs_at edges ends t) ++ (record { key = k; source = a; destination = x; values = vs }) ∷ []) destination
        ∙ ap (λ rows. rows ++ (record { key = k; source = a; destination = b; values = vs }) ∷ []) (sym (edges_at s vertices edges ends t)))

    longer : length (seated (seats_at edges t) k vs) ≤ length (ends_at ends₂ t)
    longer =
        omega (
          arith,
          is.long t,
          length_push (seats_at edges t) (record { key = k; values = vs; live = true }),
          ap length puts.here,
          length-take (length (seats_at edges t) + 1) (ends_at ends₂ t),
          length_push (take (length (seats_at edges t)) (ends_at ends t)) put,
          length-take (length (seats_at edges t)) (ends_at ends t),
        )

    long_each : (w : ℕ) → length (seats_at (with_edge_seats (seated (seats_at edges t) k vs)) w) ≤ length (ends_at ends₂ w)
    long_each w =
        each_place (λ u. length (seats_at (with_edge_seats (seated (seats_at edges t) k vs)) u) ≤ length (ends_at ends₂ u)) t w (w == t) refl
        (omega (arith, longer, ap length (seats_here (seated (seats_at edges t) k vs))))
        (λ apart. omega (arith, is.long w, ap length (seats_other (seated (seats_at edges t) k vs) w apart), ap length (ends_other w apart)))

    pub insert_edge_stored : key_at (seats_at vertices (source_at s t)) put.source ≡ a → key_at (seats_at vertices (destination_at s t)) put.destination ≡ b → sits_at (seats_at vertices (source_at s t)) put.source ≡ true → sits_at (seats_at vertices (destination_at s t)) put.destination ≡ true → e.FitsEdge (stored_graph s vertices edges ends) t k a b vs → IsStored s vertices (with_edge_seats (seated (seats_at edges t) k vs)) ends₂
    insert_edge_stored source destination sits_source sits_destination fits = record {
      graph = subst IsGraph (sym (insert_edge_view source destination)) (e.insert_keeps (stored_graph s vertices edges ends) t k a b vs is.graph fits);
      vertex_kinds = is.vertex_kinds;
      edge_kinds = edge_kinds_stay (seated (seats_at edges t) k vs);
      lists =
          omega (arith, is.lists, ap length puts.others, length-set ends t (ends_at ends₂ t), length-set edges t (record { kinds = (table_at edges t).kinds; seats = seated (seats_at edges t) k vs }));
      long = long_each;
      sit = edges_sit s vertices edges ends (with_edge_seats (seated (seats_at edges t) k vs)) ends₂ t within is pairs_other
          (subst (All (EndsSit (seats_at vertices (source_at s t)) (seats_at vertices (destination_at s t)))) (sym pairs_here)
          (All-push (EndsSit (seats_at vertices (source_at s t)) (seats_at vertices (destination_at s t))) (pairs_at edges ends t) (record { key = k; values = vs; live = true }, put) (is.sit t) (λ live. (sits_source, sits_destination))));
    }

  -- ---- set and delete, where the key was found

  module _ (k : ℤ) (i : ℕ) (found : FoundAt (seats_at edges t) k i) where
    abbrev change_of : (Seat → Seat) → Seat × Ends → Seat × Ends
    change_of f p = (f p.0, p.1)

    pub pair_at : get_or (pairs_at edges ends t) i no_pair ≡ (get_or (seats_at edges t) i no_seat, get_or (ends_at ends t) i no_ends)
    pair_at = zip_at (seats_at edges t) (ends_at ends t) i no_seat no_ends found.within (is.long t)

    pub place : i < length (pairs_at edges ends t)
    place = omega (arith, length_zip (seats_at edges t) (ends_at ends t) (is.long t), found.within)

    pub live_pair : edge_is_live (get_or (pairs_at edges ends t) i no_pair) ≡ true
    live_pair = ap edge_is_live pair_at ∙ found.live

    key_pair : int_eq (get_or (pairs_at edges ends t) i no_pair).0.key k ≡ true
    key_pair = ap (λ (p : Seat × Ends). int_eq p.0.key k) pair_at ∙ found.key

    once_pair : count_by (λ (p : Seat × Ends). edge_is_live p && int_eq p.0.key k) (pairs_at edges ends t) ≤ 1
    once_pair = omega (arith, count_pair (sits k) (seats_at edges t) (ends_at ends t) (is.long t), edge_once s vertices edges ends is.long is.graph.edge_keys k t)

    pub changed_pairs : (f : Seat → Seat) → pairs_at (with_edge_seats (set (seats_at edges t) i (f (get_or (seats_at edges t) i no_seat)))) ends t ≡ set (pairs_at edges ends t) i (change_of f (get_or (pairs_at edges ends t) i no_pair))
    changed_pairs f =
        ap (λ (l : List Seat). zip l (ends_at ends t)) (seats_here (set (seats_at edges t) i (f (get_or (seats_at edges t) i no_seat))))
        ∙ zip_set (seats_at edges t) (ends_at ends t) i (f (get_or (seats_at edges t) i no_seat)) no_ends found.within (is.long t)
        ∙ ap (set (pairs_at edges ends t) i) (ap (change_of f) (sym pair_at))

    pub other_pairs : (seats : List Seat) (w : ℕ) → w ≢ t → pairs_at (with_edge_seats seats) ends w ≡ pairs_at edges ends w
    other_pairs seats w apart = ap (λ (l : List Seat). zip l (ends_at ends w)) (seats_other seats w apart)

    view_of : (seats : List Seat) (rows : List EdgeRow) → edge_rows_at s vertices (with_edge_seats seats) ends t ≡ rows → stored_graph s vertices (with_edge_seats seats) ends ≡ record (stored_graph s vertices edges ends) { edges = set (stored_graph s vertices edges ends).edges t rows }
    view_of seats rows here =
        edges_view s vertices edges ends (with_edge_seats seats) ends t within rows (length-set edges t (record { kinds = (table_at edges t).kinds; seats = seats })) (other_pairs seats) here

    changed_stored : (f : Seat → Seat) → ((f (get_or (seats_at edges t) i no_seat)).live ≡ true → (get_or (seats_at edges t) i no_seat).live ≡ true) → IsGraph (stored_graph s vertices (with_edge_seats (set (seats_at edges t) i (f (get_or (seats_at edges t) i no_seat)))) ends) → IsStored s vertices (with_edge_seats (set (seats_at edges t) i (f (get_or (seats_at edges t) i no_seat)))) ends
    changed_stored f lives graph =
        let seats = set (seats_at edges t) i (f (get_or (seats_at edges t) i no_seat)) in
        let from = seats_at vertices (source_at s t) in
        let to = seats_at vertices (destination_at s t) in
        record {
          graph = graph;
          vertex_kinds = is.vertex_kinds;
          edge_kinds = edge_kinds_stay seats;
          lists = omega (arith, is.lists, length-set edges t (record { kinds = (table_at edges t).kinds; seats = seats }));
          long = λ w. each_place (λ u. length (seats_at (with_edge_seats seats) u) ≤ length (ends_at ends u)) t w (w == t) refl
              (omega (arith, is.long t, ap length (seats_here seats), length-set (seats_at edges t) i (f (get_or (seats_at edges t) i no_seat))))
              (λ apart. omega (arith, is.long w, ap length (seats_other seats w apart)));
          sit = edges_sit s vertices edges ends (with_edge_seats seats) ends t within is (other_pairs seats)
              (subst (All (EndsSit from to)) (sym (changed_pairs f))
              (All-set (EndsSit from to) (pairs_at edges ends t) i (change_of f (get_or (pairs_at edges ends t) i no_pair)) (λ live. is.sit t i no_pair place live_pair) (is.sit t)));
        }

    pub set_edge_view : (p : ℕ) (w : Value) → stored_graph s vertices (with_edge_seats (reset (seats_at edges t) i p w)) ends ≡ changed (stored_graph s vertices edges ends) (SetEdge t k p w)
    set_edge_view p w =
        let row = edge_row (seats_at vertices (source_at s t)) (seats_at vertices (destination_at s t)) in
        view_of (reset (seats_at edges t) i p w) (change_at_key edge_key k (with_edge_value p w) (rows_at (stored_graph s vertices edges ends).edges t))
        (ap (edge_rows (seats_at vertices (source_at s t)) (seats_at vertices (destination_at s t))) (changed_pairs (with_value p w))
        ∙ rows_changed row edge_is_live edge_key k (change_of (with_value p w)) (with_edge_value p w) (pairs_at edges ends t) i no_pair place live_pair key_pair live_pair once_pair (λ x. refl)
        ∙ ap (change_at_key edge_key k (with_edge_value p w)) (sym (edges_at s vertices edges ends t)))

    pub set_edge_stored : (p : ℕ) (w : Value) → e.FitsSet (stored_graph s vertices edges ends) t k p w → IsStored s vertices (with_edge_seats (reset (seats_at edges t) i p w)) ends
    set_edge_stored p w fits =
        changed_stored (with_value p w) (λ live. live) (subst IsGraph (sym (set_edge_view p w)) (e.set_keeps (stored_graph s vertices edges ends) t k p w is.graph fits))

    pub delete_edge_view : stored_graph s vertices (with_edge_seats (vacated (seats_at edges t) i)) ends ≡ changed (stored_graph s vertices edges ends) (DeleteEdge t k)
    delete_edge_view =
        let row = edge_row (seats_at vertices (source_at s t)) (seats_at vertices (destination_at s t)) in
        view_of (vacated (seats_at edges t) i) (without_key edge_key k (rows_at (stored_graph s vertices edges ends).edges t))
        (ap (edge_rows (seats_at vertices (source_at s t)) (seats_at vertices (destination_at s t))) (changed_pairs left)
        ∙ rows_left row edge_is_live edge_key k (pairs_at edges ends t) i (change_of left (get_or (pairs_at edges ends t) i no_pair)) no_pair place live_pair key_pair refl once_pair
        ∙ ap (without_key edge_key k) (sym (edges_at s vertices edges ends t)))

    pub delete_edge_stored : e.FitsDelete (stored_graph s vertices edges ends) t k → IsStored s vertices (with_edge_seats (vacated (seats_at edges t) i)) ends
    delete_edge_stored fits =
        changed_stored left (λ live. found.live) (subst IsGraph (sym delete_edge_view) (e.delete_keeps (stored_graph s vertices edges ends) t k is.graph fits))

-- ---- where memory ran out after ends were put

module _ (s : SchemaData) (vertices edges : List TableData) (ends : List (List Ends)) (is : IsStored s vertices edges ends) (t : ℕ) (put : Ends) (ends₂ : List (List Ends)) (puts : PutsEnds t (length (seats_at edges t)) put ends ends₂) where
  pub same_pairs : (w : ℕ) → pairs_at edges ends₂ w ≡ pairs_at edges ends w
  same_pairs w =
      each_place (λ u. pairs_at edges ends₂ u ≡ pairs_at edges ends u) t w (w == t) refl
      (zip_same (seats_at edges t) (ends_at ends t) (ends_at ends₂ t) (is.long t) (front (length (seats_at edges t)) (ends_at ends t) (ends_at ends₂ t) put (is.long t) puts.here))
      (λ apart. ap (zip (seats_at edges w)) (ap (λ l. ends_at l w) puts.others ∙ get_or-set_other ends t w (ends_at ends₂ t) [] apart))

  pub spare_view : stored_graph s vertices edges ends₂ ≡ stored_graph s vertices edges ends
  spare_view =
      ap {B = GraphData} (λ es. record (stored_graph s vertices edges ends) { edges = es })
      (range_same (length edges) (edge_rows_at s vertices edges ends₂) (edge_rows_at s vertices edges ends) (λ u h. ap (edge_rows (seats_at vertices (source_at s u)) (seats_at vertices (destination_at s u))) (same_pairs u)))

  still_long : (w : ℕ) → length (seats_at edges w) ≤ length (ends_at ends₂ w)
  still_long w =
      each_place (λ u. length (seats_at edges u) ≤ length (ends_at ends₂ u)) t w (w == t) refl
      (omega (
        arith,
        is.long t,
        ap length puts.here,
        length-take (length (seats_at edges t) + 1) (ends_at ends₂ t),
        length_push (take (length (seats_at edges t)) (ends_at ends t)) put,
        length-take (length (seats_at edges t)) (ends_at ends t),
      ))
      (λ apart. omega (arith, is.long w, ap length (ap (λ l. ends_at l w) puts.others ∙ get_or-set_other ends t w (ends_at ends₂ t) [] apart)))

  pub spare_stored : IsStored s vertices edges ends₂
  spare_stored = record {
    graph = subst IsGraph (sym spare_view) is.graph;
    vertex_kinds = is.vertex_kinds;
    edge_kinds = is.edge_kinds;
    lists = omega (arith, is.lists, ap length puts.others, length-set ends t (ends_at ends₂ t));
    long = still_long;
    sit = λ u. subst (All (EndsSit (seats_at vertices (source_at s u)) (seats_at vertices (destination_at s u)))) (sym (same_pairs u)) (is.sit u);
  }
