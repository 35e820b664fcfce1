-- What is taken of a table of which rows were taken out.
use Rattle.std.proofs.Common.{◌≡◌, ℕ, ℤ, pos, zero, suc, ◌+◌, ◌<◌, ◌≤◌, Bool, true, false, ◌||◌, ◌&&◌, not, List, [], ◌∷◌, ◌++◌, Option, Some, None, length, get_or, take, refl, ap, sym, ◌∙◌, subst, arith, cond, map, filter, count_by, ◌==◌}
use Rattle.std.specs.List.{list_any, list_all, position, range_with_len}
use Rattle.std.specs.Ordering.{int_eq}
use Rattle.std.proofs.lemmas.Bool.Decides.{nat_tests, Decides-int_eq}
use Rattle.std.proofs.lemmas.List.{map-append, length-map, same_lists, get_or-map, take_more, length_push, length-take}
use Rattle.std.proofs.lemmas.List.FromFn.{length-range_with_len, map-range_with_len_more, length-map-range_with_len, get_or-map-range_with_len}
use Rattle.std.proofs.lemmas.List.Elements.{filter-append}
use Rattle.std.proofs.lemmas.List.Sums.{length-filter, count_by-le-length, count_by_more_yes}
use Rattle.column_types.specs.declared.kind.Kind.TheVariants as kind
use Rattle.column_types.specs.declared.value.Value.TheVariants.{Null}
use Rattle.column_types.specs.Column.{ColumnData}
use Rattle.key_places.specs.declared.index.KeyPlaces.{KeyPlaces}
use Rattle.key_places.specs.Places.{Puts, place_of}
use Rattle.graph_model.specs.Columns.{value_at}
use Rattle.graph_model.specs.Seats.{Seat, TableData, is_live, live_seats, sits, seat_key, row_of, flag_at, seat_from, seats_from, kinds_of, no_column, column_at, IsTable}
use Rattle.graph_model.specs.Parts.{is_kept, kept_places, keys_of, values_of, column_of, part_column, TellsPlaces, ArePartsOf}
use Rattle.graph_model.specs.declared.parts.TableParts.{TableParts}
use Rattle.graph_model.proofs.Rows.{count_cons, none_counted, count_none}
use Rattle.graph_model.proofs.Positions.{position_map, position_last, position_push}
use Rattle.graph_model.proofs.SeatRows.{filter_rows, count_rows}
use Rattle.graph_model.proofs.StoredRows.{by_places, at_map, sum_same}
use Rattle.graph_model.proofs.Memory.{range_same}

-- ---- lists

pub map_map : {X Y Z : Type 0} (g : Y → Z) (f : X → Y) (xs : List X) → map g (map f xs) ≡ map (λ x. g (f x)) xs
map_map g f [] = refl
map_map g f (x ∷ xs) = ap (λ l. g (f x) ∷ l) (map_map g f xs)

pub map_same : {X Y : Type 0} (f g : X → Y) (xs : List X) → ((x : X) → f x ≡ g x) → map f xs ≡ map g xs
map_same f g [] same = refl
map_same f g (x ∷ xs) same = ap (λ y. y ∷ map f xs) (same x) ∙ ap (λ l. g x ∷ l) (map_same f g xs same)

pub map_itself : {X : Type 0} (xs : List X) → map (λ x. x) xs ≡ xs
map_itself [] = refl
map_itself (x ∷ xs) = ap (λ l. x ∷ l) (map_itself xs)

pub range_more : (n : ℕ) → range_with_len 0 (n + 1) ≡ range_with_len 0 n ++ n ∷ []
range_more n =
    sym (map_itself (range_with_len 0 (n + 1)))
    ∙ map-range_with_len_more (λ i. i) 0 n n (omega arith)
    ∙ ap (λ l. l ++ n ∷ []) (map_itself (range_with_len 0 n))

-- ---- places of rows that are still there

-- a place more
pub places_more : {X : Type 0} (f : ℕ → X) (dead : List Bool) (n : ℕ) → map f (kept_places dead (n + 1)) ≡ map f (kept_places dead n) ++ map f (filter (is_kept dead) (n ∷ []))
places_more f dead n =
    ap (λ l. map f (filter (is_kept dead) l)) (range_more n)
    ∙ ap (map f) (filter-append (is_kept dead) (range_with_len 0 n) (n ∷ []))
    ∙ map-append f (kept_places dead n) (filter (is_kept dead) (n ∷ []))

pub few_places : {X : Type 0} (f : ℕ → X) (dead : List Bool) (n : ℕ) → length (map f (kept_places dead n)) ≤ n
few_places f dead n =
    omega (
      arith,
      length-map (kept_places dead n) f,
      length-filter (is_kept dead) (range_with_len 0 n),
      count_by-le-length (is_kept dead) (range_with_len 0 n),
      length-range_with_len 0 n,
    )

-- where no row was taken out
all_kept : (xs : List ℕ) → filter (is_kept []) xs ≡ xs
all_kept [] = refl
all_kept (x ∷ xs) = ap (λ l. x ∷ l) (all_kept xs)

-- ---- an index of keys

apart : (a b : ℤ) (c : Bool) → int_eq b a ≡ c → int_eq a b ≡ false → c ≡ false
apart a b true e f =
    let same : int_eq a b ≡ true = (Decides-int_eq a b).1 (sym ((Decides-int_eq b a).0 e)) in
    cc
apart a b false e f = refl

pub eq_turned : (a b : ℤ) (c : Bool) → int_eq a b ≡ c → int_eq b a ≡ c
eq_turned a b true e = (Decides-int_eq b a).1 (sym ((Decides-int_eq a b).0 e))
eq_turned a b false e = apart a b (int_eq b a) refl e

count_take : (p : ℤ → Bool) (xs : List ℤ) (n : ℕ) → count_by p (take n xs) ≤ count_by p xs
count_take p xs zero = omega arith
count_take p [] (suc n) = omega arith
count_take p (x ∷ xs) (suc n) = omega (arith, count_cons p x xs, count_cons p x (take n xs), count_take p xs n)

index_by : (keys : List ℤ) (k key : ℤ) (o : Option ℕ) (b : Bool) → int_eq key k ≡ b → (b ≡ true → list_any (int_eq k) keys ≡ false) → o ≡ position (int_eq k) keys → cond b (Some (length keys)) o ≡ position (int_eq k) (keys ++ key ∷ [])
index_by keys k key o true e new is = sym (position_last (int_eq k) keys key (new refl) (eq_turned key k true e))
index_by keys k key o false e new is = is ∙ sym (position_push (int_eq k) keys key (eq_turned key k false e))

-- a key more
pub index_more : (keys : List ℤ) (place : ℕ) (d : ℤ) (old new : KeyPlaces) → place < length keys → ((k : ℤ) → count_by (int_eq k) keys ≤ 1) → TellsPlaces (take place keys) old → Puts old new (get_or keys place d) (Some place) → TellsPlaces (take (place + 1) keys) new
index_more keys place d old new within once told updates k =
    let key = get_or keys place d in
    let long : length (take place keys) ≡ place = omega (arith, length-take place keys) in
    updates k
    ∙ ap (λ n. cond (int_eq key k) (Some n) (place_of old k)) (sym long)
    ∙ index_by (take place keys) k key (place_of old k) (int_eq key k) refl
    (λ e. none_counted (int_eq k) (take place keys) (omega (arith, once k, count_take (int_eq k) keys (place + 1), count_by_more_yes (int_eq k) keys place d within (eq_turned key k true e)))) (told k)
    ∙ ap (position (int_eq k)) (sym (take_more keys place d within))

pub index_nothing : (index : KeyPlaces) → ((k : ℤ) → place_of index k ≡ None) → TellsPlaces [] index
index_nothing index none k = none k

-- ---- a value that fits

both_true : (a b : Bool) → (a && b) ≡ true → (a ≡ true) × (b ≡ true)
both_true true b e = (refl, e)
both_true false b e = cc

pub all_at : {X : Type 0} (p : X → Bool) (xs : List X) (i : ℕ) (d : X) → list_all p xs ≡ true → i < length xs → p (get_or xs i d) ≡ true
all_at p [] i d e within = absurd (omega arith)
all_at p (x ∷ xs) zero d e within = (both_true (p x) (list_all p xs) e).0
all_at p (x ∷ xs) (suc i) d e within = all_at p xs i d (both_true (p x) (list_all p xs) e).1 (omega arith)

-- ---- the parts of a table by its places

eq_same : (a b : ℤ) → int_eq b a ≡ int_eq a b
eq_same a b = eq_turned a b (int_eq a b) refl

module _ (keys : List ℤ) (cs : List ColumnData) (dead : List Bool) where
  abbrev table : TableData
  table = record { kinds = kinds_of cs; seats = seats_from keys cs dead }

  abbrev here : List ℕ
  here = kept_places dead (length keys)

  kept_seats : live_seats (seats_from keys cs dead) ≡ map (seat_from keys cs dead) here
  kept_seats = sym (filter_rows (seat_from keys cs dead) is_live (range_with_len 0 (length keys)))

  pub keys_part : keys_of keys here ≡ map seat_key (live_seats (seats_from keys cs dead))
  keys_part = sym (ap (map seat_key) kept_seats ∙ map_map seat_key (seat_from keys cs dead) here)

  value_part : (p i : ℕ) → value_at p (row_of cs i) ≡ get_or (column_at cs p).values i Null
  value_part p i = at_map (λ (c : ColumnData). get_or c.values i Null) cs p no_column

  column_part : (p : ℕ) → column_of here (column_at cs p) ≡ part_column table p
  column_part p =
      let values : map (λ s. value_at p s.values) (live_seats (seats_from keys cs dead)) ≡ values_of (column_at cs p) here =
      ap (map (λ (s : Seat). value_at p s.values)) kept_seats
      ∙ map_map (λ (s : Seat). value_at p s.values) (seat_from keys cs dead) here
      ∙ map_same (λ i. value_at p (row_of cs i)) (λ i. get_or (column_at cs p).values i Null) here (value_part p) in
      ap {B = ColumnData} (λ k. record { kind = k; values = values_of (column_at cs p) here }) (sym (at_map (λ (c : ColumnData). c.kind) cs p no_column))
      ∙ ap {B = ColumnData} (λ vs. record { kind = get_or (kinds_of cs) p kind.Long; values = vs }) (sym values)

  pub columns_part : map (column_of here) cs ≡ map (part_column table) (range_with_len 0 (length (kinds_of cs)))
  columns_part =
      ap (map (column_of here)) (by_places cs no_column)
      ∙ map_map (column_of here) (λ p. column_at cs p) (range_with_len 0 (length cs))
      ∙ map_same (λ p. column_of here (column_at cs p)) (part_column table) (range_with_len 0 (length cs)) column_part
      ∙ ap (λ n. map (part_column table) (range_with_len 0 n)) (sym (length-map cs (λ (c : ColumnData). c.kind)))

  -- keys of which none sits twice
  pub copied_once : ((k : ℤ) → count_by (sits k) (seats_from keys cs dead) ≤ 1) → (k : ℤ) → count_by (int_eq k) (keys_of keys here) ≤ 1
  copied_once once k =
      let same : count_by (λ s. is_live s && int_eq k (seat_key s)) (seats_from keys cs dead) ≡ count_by (sits k) (seats_from keys cs dead) =
      sum_same (λ s. cond {A = ℕ} (is_live s && int_eq k (seat_key s)) 1 0) (λ s. cond {A = ℕ} (sits k s) 1 0) (seats_from keys cs dead)
      (λ s. ap (λ b. cond {A = ℕ} (is_live s && b) 1 0) (eq_same s.key k)) in
      omega (arith, once k, ap (count_by (int_eq k)) keys_part, count_rows seat_key is_live (int_eq k) (seats_from keys cs dead), same)

  pub copied_parts : (p : TableParts) → p.keys ≡ keys_of keys here → p.columns ≡ map (column_of here) cs → TellsPlaces p.keys p.places → ArePartsOf table p
  copied_parts p its_keys its_columns told = record {
    keys = its_keys ∙ keys_part;
    columns = its_columns ∙ columns_part;
    places = told;
  }

-- ---- the parts of a table of which no row was taken out

whole_column : (n : ℕ) (c : ColumnData) → length c.values ≡ n → column_of (range_with_len 0 n) c ≡ c
whole_column n c long =
    ap {B = ColumnData} (λ vs. record { kind = c.kind; values = vs }) (ap (λ m. map (λ i. get_or c.values i Null) (range_with_len 0 m)) (sym long) ∙ sym (by_places c.values Null))

whole_columns : (n : ℕ) (cs : List ColumnData) → list_all (λ c. length c.values == n) cs ≡ true → map (column_of (range_with_len 0 n)) cs ≡ cs
whole_columns n [] e = refl
whole_columns n (c ∷ cs) e =
    let parts = both_true (length c.values == n) (list_all (λ d. length d.values == n) cs) e in
    let long : length c.values ≡ n = grind (arith, nat_tests, parts.0) in
    ap (λ d. d ∷ map (column_of (range_with_len 0 n)) cs) (whole_column n c long) ∙ ap (λ l. c ∷ l) (whole_columns n cs parts.1)

same_place : (keys : List ℤ) (cs : List ColumnData) (k : ℤ) → position (sits k) (seats_from keys cs []) ≡ position (int_eq k) keys
same_place keys cs k =
    let range = range_with_len 0 (length keys) in
    let tests : map (sits k) (seats_from keys cs []) ≡ map (int_eq k) keys =
    map_map (sits k) (seat_from keys cs []) range
    ∙ map_same (λ i. sits k (seat_from keys cs [] i)) (λ i. int_eq k (get_or keys i (pos 0))) range (λ i. eq_same k (get_or keys i (pos 0)))
    ∙ sym (map_map (int_eq k) (λ i. get_or keys i (pos 0)) range)
    ∙ ap (map (int_eq k)) (sym (by_places keys (pos 0))) in
    position_map (sits k) (seats_from keys cs []) ∙ ap (position (λ b. b)) tests ∙ sym (position_map (int_eq k) keys)

pub moved_parts : (p : TableParts) (live : ℕ) → IsTable p.keys p.columns [] p.places live → list_all (λ c. length c.values == length p.keys) p.columns ≡ true → ArePartsOf (record { kinds = kinds_of p.columns; seats = seats_from p.keys p.columns [] }) p
moved_parts p live is exact =
    let whole = all_kept (range_with_len 0 (length p.keys)) in
    copied_parts p.keys p.columns [] p
    (by_places p.keys (pos 0) ∙ ap (keys_of p.keys) (sym whole))
    (sym (whole_columns (length p.keys) p.columns exact) ∙ ap (λ l. map (column_of l) p.columns) (sym whole))
    (λ k. is.told.indexed k ∙ same_place p.keys p.columns k)
