-- What an index tells of seats stays right where a row comes, leaves or has a value set.
use Rattle.std.proofs.Common.{◌≡◌, ℕ, ℤ, zero, suc, ◌+◌, ◌-◌, ◌<◌, ◌≤◌, Bool, true, false, ◌||◌, ◌&&◌, not, List, [], ◌∷◌, ◌++◌, Option, Some, None, length, get_or, set, refl, ap, sym, ◌∙◌, subst, arith, cond, map, count_by, filter}
use Rattle.std.specs.List.{list_any, position, sum_by}
use Rattle.std.specs.Ordering.{int_eq}
use Rattle.std.proofs.lemmas.Bool.Decides.{nat_tests, Decides-int_eq}
use Rattle.std.proofs.lemmas.List.Sums.{sum_by-set, sum_by_push, length-filter, get_or-le-sum_by}
use Rattle.column_types.specs.declared.value.Value.{Value}
use Rattle.key_places.specs.declared.index.KeyPlaces.{KeyPlaces}
use Rattle.key_places.specs.Places.{Puts, place_of}
use Rattle.graph_model.specs.Seats.{Seat, AreTold, is_live, sits, sits_at, key_at, no_seat, live_seats, seated, vacated, left, reset, with_value}
use Rattle.graph_model.proofs.Rows.{count_none, counts_none, counts_one, one_at_least}
use Rattle.graph_model.proofs.Positions.{position_last, position_push, position_set_same, position_gone}

-- a test that is passed at most once, after an item more that passes where none did
once_by : {R : Type 0} (p : R → Bool) (rows : List R) (row : R) (b : Bool) → p row ≡ b → count_by p rows ≤ 1 → (p row ≡ true → list_any p rows ≡ false) → count_by p (rows ++ row ∷ []) ≤ 1
once_by p rows row true e once new =
    let none : count_by p rows ≡ 0 = count_none p rows (new e) in
    let one = counts_one (p row) e in
    omega (arith, sum_by_push (λ r. cond {A = ℕ} (p r) 1 0) rows row)
once_by p rows row false e once new =
    let none = counts_none (p row) e in
    omega (arith, sum_by_push (λ r. cond {A = ℕ} (p r) 1 0) rows row)

pub once_push : {R : Type 0} (p : R → Bool) (rows : List R) (row : R) → count_by p rows ≤ 1 → (p row ≡ true → list_any p rows ≡ false) → count_by p (rows ++ row ∷ []) ≤ 1
once_push p rows row = once_by p rows row (p row) refl

pub count_set : {R : Type 0} (p : R → Bool) (rows : List R) (i : ℕ) (row d : R) → i < length rows → count_by p (set rows i row) + cond {A = ℕ} (p (get_or rows i d)) 1 0 ≡ count_by p rows + cond {A = ℕ} (p row) 1 0
count_set p rows i row d within = sum_by-set (λ r. cond {A = ℕ} (p r) 1 0) rows i row d within

-- a row that sits at a place stands below the end
pub sits_within : (seats : List Seat) (i : ℕ) → sits_at seats i ≡ true → i < length seats
sits_within [] i e = absurd (let no_way : false ≡ true = e in cc)
sits_within (s ∷ seats) zero e = omega arith
sits_within (s ∷ seats) (suc i) e = omega (arith, sits_within seats i e)

-- ---- no rows

pub told_nothing : (index : KeyPlaces) → ((k : ℤ) → place_of index k ≡ None) → AreTold [] index 0
told_nothing index none = record {
  once = λ k. omega arith;
  indexed = none;
  count = refl;
}

-- ---- a row more

new_seat : ℤ → List Value → Seat
new_seat k vs = record { key = k; values = vs; live = true }

place_by : (seats : List Seat) (k : ℤ) (vs : List Value) (q : ℤ) (b : Bool) (o : Option ℕ) → int_eq k q ≡ b → list_any (sits k) seats ≡ false → o ≡ position (sits q) seats → cond b (Some (length seats)) o ≡ position (sits q) (seated seats k vs)
place_by seats k vs q true o e new is =
    sym (position_last (sits q) seats (record { key = k; values = vs; live = true }) (subst (λ z. list_any (sits z) seats ≡ false) ((Decides-int_eq k q).0 e) new) e)
place_by seats k vs q false o e new is = is ∙ sym (position_push (sits q) seats (record { key = k; values = vs; live = true }) e)

pub told_push : (seats : List Seat) (old new : KeyPlaces) (live : ℕ) (k : ℤ) (vs : List Value) → AreTold seats old live → Puts old new k (Some (length seats)) → list_any (sits k) seats ≡ false → AreTold (seated seats k vs) new (live + 1)
told_push seats old new live k vs told updates absent =
    let row : Seat = record { key = k; values = vs; live = true } in
    record {
      once = λ q. once_push (sits q) seats row (told.once q) (λ e. subst (λ z. list_any (sits z) seats ≡ false) ((Decides-int_eq k q).0 e) absent);
      indexed = λ q. updates q ∙ place_by seats k vs q (int_eq k q) (place_of old q) refl absent (told.indexed q);
      count = omega (arith, told.count, length-filter is_live (seated seats k vs), length-filter is_live seats, sum_by_push (λ s. cond {A = ℕ} (is_live s) 1 0) seats row);
    }

-- ---- a value set

pub told_reset : (seats : List Seat) (index : KeyPlaces) (live i p : ℕ) (v : Value) → i < length seats → AreTold seats index live → AreTold (reset seats i p v) index live
told_reset seats index live i p v within told =
    let row : Seat = with_value p v (get_or seats i no_seat) in
    record {
      once = λ q. omega (arith, told.once q, count_set (sits q) seats i row no_seat within);
      indexed = λ q. told.indexed q ∙ sym (position_set_same (sits q) seats i row no_seat refl);
      count = omega (arith, told.count, length-filter is_live (reset seats i p v), length-filter is_live seats, count_set is_live seats i row no_seat within);
    }

-- ---- a row that leaves

and_by : (a b c : Bool) → a ≡ true → b ≡ c → (a && b) ≡ c
and_by true b c e f = f
and_by false b c e f = cc

left_by : (seats : List Seat) (i : ℕ) (q : ℤ) (b : Bool) (o : Option ℕ) → i < length seats → sits_at seats i ≡ true → int_eq (key_at seats i) q ≡ b → count_by (sits q) seats ≤ 1 → o ≡ position (sits q) seats → cond b None o ≡ position (sits q) (vacated seats i)
left_by seats i q true o within there e once is =
    let here : sits q (get_or seats i no_seat) ≡ true = and_by _ _ true there e in
    let one = counts_one (sits q (get_or seats i no_seat)) here in
    sym (position_gone (sits q) (vacated seats i) (omega (arith, once, count_set (sits q) seats i (left (get_or seats i no_seat)) no_seat within)))
left_by seats i q false o within there e once is =
    is ∙ sym (position_set_same (sits q) seats i (left (get_or seats i no_seat)) no_seat (sym (and_by _ _ false there e)))

pub told_vacate : (seats : List Seat) (old new : KeyPlaces) (live i : ℕ) → sits_at seats i ≡ true → AreTold seats old live → Puts old new (key_at seats i) None → AreTold (vacated seats i) new (live - 1)
told_vacate seats old new live i there told updates =
    let within : i < length seats = sits_within seats i there in
    let gone : Seat = left (get_or seats i no_seat) in
    let one = counts_one (is_live (get_or seats i no_seat)) there in
    record {
      once = λ q. omega (arith, told.once q, count_set (sits q) seats i gone no_seat within);
      indexed = λ q. updates q ∙ left_by seats i q (int_eq (key_at seats i) q) (place_of old q) within there refl (told.once q) (told.indexed q);
      count = omega (arith, told.count, length-filter is_live (vacated seats i), length-filter is_live seats, count_set is_live seats i gone no_seat within);
    }

-- a number is at least one where a row sits
pub some_sit : (seats : List Seat) (index : KeyPlaces) (live i : ℕ) → sits_at seats i ≡ true → AreTold seats index live → 1 ≤ live
some_sit seats index live i there told =
    let within : i < length seats = sits_within seats i there in
    let one = counts_one (is_live (get_or seats i no_seat)) there in
    omega (arith, told.count, length-filter is_live seats, get_or-le-sum_by (λ s. cond {A = ℕ} (is_live s) 1 0) seats i no_seat within)
