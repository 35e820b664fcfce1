-- That an edge ends at a vertex is told by seats.
use Rattle.std.proofs.Common.{◌≡◌, ℕ, ℤ, zero, suc, ◌+◌, ◌<◌, ◌≤◌, Bool, true, false, ◌||◌, ◌&&◌, ◌==◌, List, [], ◌∷◌, Option, Some, None, length, get_or, slice_get, refl, ap, sym, ◌∙◌, subst, arith, count_by, All}
use Rattle.std.specs.List.{list_any, position, zip, range_with_len}
use Rattle.std.specs.Ordering.{int_eq}
use Rattle.std.proofs.lemmas.Bool.{true≢false}
use Rattle.std.proofs.lemmas.Bool.Decides.{nat_tests, Decides-int_eq}
use Rattle.std.proofs.lemmas.List.FromFn.{length-map-range_with_len}
use Rattle.graph_schema.specs.declared.schema.EdgeTable.{EdgeTable}
use Rattle.graph_schema.specs.Schema.{SchemaData}
use Rattle.graph_model.specs.declared.row.EdgeRow.{EdgeRow}
use Rattle.graph_model.specs.declared.ends.Ends.{Ends}
use Rattle.graph_model.specs.Graph.{source_at, destination_at, source_table, destination_table, is_end, is_end_in}
use Rattle.graph_model.specs.Seats.{Seat, TableData, is_live, seat_key, sits, sits_at, key_at, no_seat}
use Rattle.graph_model.specs.Stored.{seats_at, edge_is_live, edge_row, pairs_at, edge_rows_at, stored_graph, IsStored, is_seat_end, seat_ends_in, both_ends}
use Rattle.graph_model.proofs.Rows.{position_of_one}
use Rattle.graph_model.proofs.Zips.{AllZip-length}
use Rattle.graph_model.proofs.Told.{sits_within}
use Rattle.graph_model.proofs.SeatRows.{any_rows}
use Rattle.graph_model.proofs.StoredRows.{edges_at, vertex_once}
use Rattle.graph_model.proofs.StoredVertices.{FoundAt}

same_some : (i j : ℕ) → Some i ≡ Some j → i ≡ j
same_some i j e = cc

both : (a b : Bool) → a ≡ true → b ≡ true → (a && b) ≡ true
both true b e f = f
both false b e f = cc

-- two rows of one key sit in one seat
pub one_seat : (seats : List Seat) (k : ℤ) (i j : ℕ) → count_by (sits k) seats ≤ 1 → FoundAt seats k i → sits_at seats j ≡ true → int_eq (key_at seats j) k ≡ true → j ≡ i
one_seat seats k i j once found there same =
    let at_i = position_of_one (sits k) seats i no_seat found.within (both (is_live (get_or seats i no_seat)) (int_eq (seat_key (get_or seats i no_seat)) k) found.live found.key) once in
    let at_j = position_of_one (sits k) seats j no_seat (sits_within seats j there) (both (is_live (get_or seats j no_seat)) (int_eq (seat_key (get_or seats j no_seat)) k) there same) once in
    same_some j i (sym at_j ∙ at_i)

seat_by : (seats : List Seat) (k : ℤ) (i j : ℕ) (b c : Bool) → int_eq (key_at seats j) k ≡ b → (j == i) ≡ c → count_by (sits k) seats ≤ 1 → FoundAt seats k i → sits_at seats j ≡ true → b ≡ c
seat_by seats k i j true true e f once found there = refl
seat_by seats k i j true false e f once found there =
    let same : j ≡ i = one_seat seats k i j once found there e in
    let no_way : (j == i) ≡ true = grind (arith, nat_tests) in
    absurd (true≢false (sym no_way ∙ f))
seat_by seats k i j false true e f once found there =
    let same : j ≡ i = grind (arith, nat_tests) in
    absurd (true≢false (sym (ap (λ n. int_eq (key_at seats n) k) same ∙ found.key) ∙ e))
seat_by seats k i j false false e f once found there = refl

pub same_seat : (seats : List Seat) (k : ℤ) (i j : ℕ) → count_by (sits k) seats ≤ 1 → FoundAt seats k i → sits_at seats j ≡ true → int_eq (key_at seats j) k ≡ (j == i)
same_seat seats k i j = seat_by seats k i j (int_eq (key_at seats j) k) (j == i) refl refl

and_same : (a b c : Bool) → (a ≡ true → b ≡ c) → (a && b) ≡ (a && c)
and_same true b c f = f refl
and_same false b c f = refl

or_same : (a b c d : Bool) → a ≡ c → b ≡ d → (a || b) ≡ (c || d)
or_same a b c d e f = ap (λ x. x || b) e ∙ ap (λ x. c || x) f

-- tests that agree where an item is there find the same
any_there : {X : Type 0} (p f g : X → Bool) (xs : List X) → ((i : ℕ) (d : X) → i < length xs → p (get_or xs i d) ≡ true → f (get_or xs i d) ≡ g (get_or xs i d)) → list_any (λ x. p x && f x) xs ≡ list_any (λ x. p x && g x) xs
any_there p f g [] same = refl
any_there p f g (x ∷ xs) same =
    or_same (p x && f x) (list_any (λ y. p y && f y) xs) (p x && g x) (list_any (λ y. p y && g y) xs)
    (and_same (p x) (f x) (g x) (λ e. same 0 x (omega arith) e))
    (any_there p f g xs (λ i d h. same (suc i) d (omega arith)))

-- the test of an edge table at a place
abbrev ends_test : ℕ → ℤ → Option EdgeTable → EdgeRow → Bool
ends_test t k o r = (source_table o == t && int_eq r.source k) || (destination_table o == t && int_eq r.destination k)

zip_any : (t : ℕ) (k : ℤ) (xs : List EdgeTable) (ys : List (List EdgeRow)) (P : ℕ → Bool) (a : ℕ) → length xs ≡ length ys → ((u : ℕ) → u < length xs → list_any (ends_test t k (slice_get xs u)) (get_or ys u []) ≡ P (a + u)) → list_any (λ p. is_end_in t k p.0 p.1) (zip xs ys) ≡ list_any P (range_with_len a (length ys))
zip_any t k [] [] P a same f = refl
zip_any t k [] (y ∷ ys) P a same f = cc
zip_any t k (x ∷ xs) [] P a same f = cc
zip_any t k (x ∷ xs) (y ∷ ys) P a same f =
    let first : a + 0 ≡ a = omega arith in
    or_same (is_end_in t k x y) (list_any (λ p. is_end_in t k p.0 p.1) (zip xs ys)) (P a) (list_any P (range_with_len (a + 1) (length ys))) (f 0 (omega arith) ∙ ap P first)
    (zip_any t k xs ys P (a + 1) (omega arith) (λ u h. let next : a + suc u ≡ a + 1 + u = omega arith in f (suc u) (omega arith) ∙ ap P next))

module _ (s : SchemaData) (vertices edges : List TableData) (ends : List (List Ends)) (is : IsStored s vertices edges ends) (t : ℕ) (k : ℤ) (i : ℕ) (found : FoundAt (seats_at vertices t) k i) where
  once : count_by (sits k) (seats_at vertices t) ≤ 1
  once = vertex_once s vertices edges ends is.graph.vertex_keys k t

  end_same : (w j : ℕ) → sits_at (seats_at vertices w) j ≡ true → (w == t && int_eq (key_at (seats_at vertices w) j) k) ≡ (w == t && j == i)
  end_same w j there =
      and_same (w == t) (int_eq (key_at (seats_at vertices w) j) k) (j == i)
      (λ e. let same : w ≡ t = grind (arith, nat_tests) in
      ap (λ n. int_eq (key_at (seats_at vertices n) j) k) same ∙ same_seat (seats_at vertices t) k i j once found (subst (λ n. sits_at (seats_at vertices n) j ≡ true) same there))

  at_table : (u : ℕ) → list_any (ends_test t k (slice_get s.edges u)) (get_or (stored_graph s vertices edges ends).edges u []) ≡ seat_ends_in s.edges edges ends t i u
  at_table u =
      let from = seats_at vertices (source_at s u) in
      let to = seats_at vertices (destination_at s u) in
      ap (list_any (ends_test t k (slice_get s.edges u))) (edges_at s vertices edges ends u)
      ∙ any_rows (edge_row from to) edge_is_live (ends_test t k (slice_get s.edges u)) (pairs_at edges ends u)
      ∙ any_there edge_is_live (λ p. ends_test t k (slice_get s.edges u) (edge_row from to p)) (λ p. (source_at s u == t && p.1.source == i) || (destination_at s u == t && p.1.destination == i)) (pairs_at edges ends u)
      (λ j d h live.
      let p = get_or (pairs_at edges ends u) j d in
      let sit = is.sit u j d h live in
      or_same (source_at s u == t && int_eq (key_at from p.1.source) k) (destination_at s u == t && int_eq (key_at to p.1.destination) k) (source_at s u == t && p.1.source == i) (destination_at s u == t && p.1.destination == i)
      (end_same (source_at s u) p.1.source sit.0) (end_same (destination_at s u) p.1.destination sit.1))

  pub seat_end_is : list_any (seat_ends_in s.edges edges ends t i) (range_with_len 0 (length edges)) ≡ is_end s t k (stored_graph s vertices edges ends).edges
  seat_end_is =
      let len = length-map-range_with_len (edge_rows_at s vertices edges ends) 0 (length edges) in
      ap (λ n. list_any (seat_ends_in s.edges edges ends t i) (range_with_len 0 n)) (sym len)
      ∙ sym (zip_any t k s.edges (stored_graph s vertices edges ends).edges (seat_ends_in s.edges edges ends t i) 0 (AllZip-length _ s.edges (stored_graph s vertices edges ends).edges is.graph.edges)
      (λ u h. let shift : u ≡ 0 + u = omega arith in at_table u ∙ ap (seat_ends_in s.edges edges ends t i) shift))

-- ---- loops over places

pub all_false : {X : Type 0} (p : X → Bool) (xs : List X) (d : X) → ((k : ℕ) → k < length xs → p (get_or xs k d) ≡ false) → list_any p xs ≡ false
all_false p [] d f = refl
all_false p (x ∷ xs) d f = ap (λ b. b || list_any p xs) (f 0 (omega arith)) ∙ all_false p xs d (λ k h. f (suc k) (omega arith))

pub at_get : {X : Type 0} (xs : List X) (i : ℕ) (x : X) → i < length xs → x ≡ get_or xs i x → slice_get xs i ≡ Some x
at_get [] i x within e = absurd (omega arith)
at_get (y ∷ xs) zero x within e = ap Some (sym e)
at_get (y ∷ xs) (suc i) x within e = at_get xs i x (omega arith) e

-- ---- the seats of two ends

pub none_left : (o p : Option ℕ) → o ≡ None → None ≡ both_ends o p
none_left o p e = sym (ap (λ x. both_ends x p) e)

pub none_right : (o p : Option ℕ) → p ≡ None → None ≡ both_ends o p
none_right None p e = refl
none_right (Some i) p e = sym (ap (both_ends (Some i)) e)

pub some_both : (o p : Option ℕ) (i j : ℕ) → o ≡ Some i → p ≡ Some j → Some (record { source = i; destination = j }) ≡ both_ends o p
some_both o p i j e f = sym (ap (λ x. both_ends x p) e ∙ ap (both_ends (Some i)) f)

pub both_found : (o p : Option ℕ) (x : Ends) → both_ends o p ≡ Some x → (o ≡ Some x.source) × (p ≡ Some x.destination)
both_found None p x e = cc
both_found (Some i) None x e = cc
both_found (Some i) (Some j) x e =
    let same : record { source = i; destination = j } ≡ x = cc in
    (ap (λ (y : Ends). Some y.source) same, ap (λ (y : Ends). Some y.destination) same)

pub both_missing : (o p : Option ℕ) (i j : ℕ) → o ≡ Some i → p ≡ Some j → both_ends o p ≡ None → ⊥
both_missing None p i j e f h = cc
both_missing (Some a) None i j e f h = cc
both_missing (Some a) (Some b) i j e f h = cc
