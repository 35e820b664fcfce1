-- How the numbers of ends follow the edges.
use Rattle.std.proofs.Common.{◌≡◌, ◌≢◌, ℕ, ℤ, zero, suc, ◌+◌, ◌*◌, ◌<◌, ◌≤◌, Bool, true, false, ◌||◌, ◌&&◌, ◌==◌, List, [], ◌∷◌, ◌++◌, length, get_or, set, slice_get, refl, ap, sym, ◌∙◌, subst, arith, cond, map, filter, replicate}
use Rattle.std.specs.Prelude.{nat_lt}
use Rattle.std.specs.List.{list_any, range_with_len, sum_by, zip}
use Rattle.std.proofs.lemmas.Bool.Decides.{nat_tests}
use Rattle.std.proofs.lemmas.List.{length-map, get_or_past, get_or-set_same, get_or-set_other, length-set}
use Rattle.std.proofs.lemmas.List.Sums.{sum_by-set, sum_by-cons, sum_by_push, get_or-le-sum_by}
use Rattle.std.proofs.lemmas.List.FromFn.{get_or-map-range_with_len, length-map-range_with_len}
use Rattle.graph_schema.specs.declared.schema.EdgeTable.{EdgeTable}
use Rattle.graph_schema.specs.Schema.{SchemaData}
use Rattle.graph_model.specs.declared.ends.Ends.{Ends}
use Rattle.graph_model.specs.Graph.{source_table, destination_table}
use Rattle.graph_model.specs.Seats.{Seat, TableData, live_seats}
use Rattle.graph_model.specs.Stored.{no_table, table_at, seats_at, ends_at, edge_is_live, pairs_at, live_total, is_seat_end, seat_ends_in}
use Rattle.graph_model.specs.Counts.{one_if, ends_there, live_ends_there, end_count_in, end_count, counts_of, count_at, with_count, CountsGrow, CountsEnds}
use Rattle.graph_model.proofs.Memory.{range_set}
use Rattle.graph_model.proofs.StoredRows.{by_places, sum_of_map, sum_same, live_firsts}

-- ---- sums over places

-- what an other term at one place changes
pub sum_at : (n t : ℕ) (f g : ℕ → ℕ) → t < n → ((j : ℕ) → j < n → j ≢ t → g j ≡ f j) → sum_by g (range_with_len 0 n) + f t ≡ sum_by f (range_with_len 0 n) + g t
sum_at n t f g within same =
    let old = map f (range_with_len 0 n) in
    let at = get_or-map-range_with_len f 0 n t t 0 within (omega arith) in
    omega (
      arith,
      sum_of_map (λ (x : ℕ). x) g (range_with_len 0 n),
      sum_of_map (λ (x : ℕ). x) f (range_with_len 0 n),
      ap (sum_by (λ (x : ℕ). x)) (range_set n t f g within same),
      sum_by-set (λ (x : ℕ). x) old t (g t) 0 (omega (arith, within, length-map-range_with_len f 0 n)),
      at,
    )

-- a sum is above 0 where a term is
positive : (a b : ℕ) (p q : Bool) → nat_lt 0 a ≡ p → nat_lt 0 b ≡ q → nat_lt 0 (a + b) ≡ (p || q)
positive a b true q e f = grind (arith, nat_tests)
positive a b false true e f = grind (arith, nat_tests)
positive a b false false e f = grind (arith, nat_tests)

pub sum_positive : {X : Type 0} (w : X → ℕ) (p : X → Bool) (xs : List X) → ((x : X) → nat_lt 0 (w x) ≡ p x) → nat_lt 0 (sum_by w xs) ≡ list_any p xs
sum_positive w p [] same = refl
sum_positive w p (x ∷ xs) same = ap (nat_lt 0) (sum_by-cons w x xs) ∙ positive (w x) (sum_by w xs) (p x) (list_any p xs) (same x) (sum_positive w p xs same)

-- ---- one edge

one_positive : (b : Bool) → nat_lt 0 (one_if b) ≡ b
one_positive true = refl
one_positive false = refl

one_few : (b : Bool) → one_if b ≤ 1
one_few true = omega arith
one_few false = omega arith

live_positive : (live b c : Bool) → nat_lt 0 (cond live (one_if b + one_if c) 0) ≡ (live && (b || c))
live_positive true b c = positive (one_if b) (one_if c) b c (one_positive b) (one_positive c)
live_positive false b c = refl

pub pair_positive : (from to t i : ℕ) (p : Seat × Ends) → nat_lt 0 (live_ends_there from to t i p) ≡ is_seat_end (from == t) (to == t) i p
pair_positive from to t i p = live_positive p.0.live (from == t && p.1.source == i) (to == t && p.1.destination == i)

-- the number of a seat tells whether an edge that is there ends in it
pub count_tells : (shapes : List EdgeTable) (edges : List TableData) (ends : List (List Ends)) (t i : ℕ) → nat_lt 0 (end_count shapes edges ends t i) ≡ list_any (seat_ends_in shapes edges ends t i) (range_with_len 0 (length edges))
count_tells shapes edges ends t i =
    sum_positive (end_count_in shapes edges ends t i) (seat_ends_in shapes edges ends t i) (range_with_len 0 (length edges))
    (λ u. sum_positive (live_ends_there (source_table (slice_get shapes u)) (destination_table (slice_get shapes u)) t i) (is_seat_end (source_table (slice_get shapes u) == t) (destination_table (slice_get shapes u) == t) i) (pairs_at edges ends u)
    (pair_positive (source_table (slice_get shapes u)) (destination_table (slice_get shapes u)) t i))

-- ---- there are at most two ends an edge

pair_few : (live b c : Bool) (n : ℕ) (x : Seat × Ends) (xs : List (Seat × Ends)) → n ≤ 2 * length xs → cond live (one_if b + one_if c) 0 + n ≤ 2 * length (cond live (x ∷ xs) xs)
pair_few true b c n x xs h = omega (arith, one_few b, one_few c, h)
pair_few false b c n x xs h = omega (arith, h)

pairs_few : (from to t i : ℕ) (pairs : List (Seat × Ends)) → sum_by (live_ends_there from to t i) pairs ≤ 2 * length (filter edge_is_live pairs)
pairs_few from to t i [] = omega arith
pairs_few from to t i (p ∷ pairs) =
    omega (
      arith,
      sum_by-cons (live_ends_there from to t i) p pairs,
      pair_few p.0.live (from == t && p.1.source == i) (to == t && p.1.destination == i) (sum_by (live_ends_there from to t i) pairs) p (filter edge_is_live pairs) (pairs_few from to t i pairs),
    )

sum_twice : (f g : ℕ → ℕ) (xs : List ℕ) → ((u : ℕ) → f u ≤ 2 * g u) → sum_by f xs ≤ 2 * sum_by g xs
sum_twice f g [] h = omega arith
sum_twice f g (x ∷ xs) h = omega (arith, sum_by-cons f x xs, sum_by-cons g x xs, h x, sum_twice f g xs h)

live_length : (seats : List Seat) (ends : List Ends) → length seats ≤ length ends → length (filter edge_is_live (zip seats ends)) ≡ length (live_seats seats)
live_length seats ends long = sym (length-map (filter edge_is_live (zip seats ends)) (λ (p : Seat × Ends). p.0)) ∙ ap length (live_firsts seats ends long)

pub count_few : (shapes : List EdgeTable) (edges : List TableData) (ends : List (List Ends)) → ((u : ℕ) → length (seats_at edges u) ≤ length (ends_at ends u)) → (t i : ℕ) → end_count shapes edges ends t i ≤ 2 * live_total edges
count_few shapes edges ends long t i =
    omega (
      arith,
      sum_twice (end_count_in shapes edges ends t i) (λ u. length (live_seats (seats_at edges u))) (range_with_len 0 (length edges))
          (λ u. omega (
            arith,
            pairs_few (source_table (slice_get shapes u)) (destination_table (slice_get shapes u)) t i (pairs_at edges ends u),
            live_length (seats_at edges u) (ends_at ends u) (long u),
          )),
      ap live_total (by_places edges no_table),
      sum_of_map (λ (x : TableData). length (live_seats x.seats)) (λ u. table_at edges u) (range_with_len 0 (length edges)),
    )

-- ---- edges of which one table changed

module _ (shapes : List EdgeTable) (edges edges₂ : List TableData) (ends ends₂ : List (List Ends)) (u : ℕ) (within : u < length edges) (len : length edges₂ ≡ length edges) (others : (w : ℕ) → w ≢ u → pairs_at edges₂ ends₂ w ≡ pairs_at edges ends w) where
  abbrev pub weight : ℕ → ℕ → Seat × Ends → ℕ
  weight t i p = live_ends_there (source_table (slice_get shapes u)) (destination_table (slice_get shapes u)) t i p

  pub count_changed : (t i : ℕ) → end_count shapes edges₂ ends₂ t i + sum_by (weight t i) (pairs_at edges ends u) ≡ end_count shapes edges ends t i + sum_by (weight t i) (pairs_at edges₂ ends₂ u)
  count_changed t i =
      omega (
        arith,
        ap (λ n. sum_by (end_count_in shapes edges₂ ends₂ t i) (range_with_len 0 n)) len,
        sum_at (length edges) u (end_count_in shapes edges ends t i) (end_count_in shapes edges₂ ends₂ t i) within
            (λ j h apart. ap (sum_by (live_ends_there (source_table (slice_get shapes j)) (destination_table (slice_get shapes j)) t i)) (others j apart)),
      )

  -- an edge more
  pub count_more : (seat : Seat) (put : Ends) → seat.live ≡ true → pairs_at edges₂ ends₂ u ≡ pairs_at edges ends u ++ (seat, put) ∷ [] → (t i : ℕ) → end_count shapes edges₂ ends₂ t i ≡ end_count shapes edges ends t i + ends_there (source_table (slice_get shapes u)) (destination_table (slice_get shapes u)) t i put
  count_more seat put live here t i =
      omega (
        arith,
        count_changed t i,
        ap (sum_by (weight t i)) here,
        sum_by_push (weight t i) (pairs_at edges ends u) (seat, put),
        ap (λ b. cond b (ends_there (source_table (slice_get shapes u)) (destination_table (slice_get shapes u)) t i put) 0) live,
      )

  -- another seat at a place
  pub count_set : (j : ℕ) (p d : Seat × Ends) → j < length (pairs_at edges ends u) → pairs_at edges₂ ends₂ u ≡ set (pairs_at edges ends u) j p → (t i : ℕ) → end_count shapes edges₂ ends₂ t i + weight t i (get_or (pairs_at edges ends u) j d) ≡ end_count shapes edges ends t i + weight t i p
  count_set j p d inside here t i =
      omega (
        arith,
        count_changed t i,
        ap (sum_by (weight t i)) here,
        sum_by-set (weight t i) (pairs_at edges ends u) j p d inside,
      )

-- ---- edges that stay

pub count_same : (shapes : List EdgeTable) (edges : List TableData) (ends ends₂ : List (List Ends)) → ((w : ℕ) → pairs_at edges ends₂ w ≡ pairs_at edges ends w) → (t i : ℕ) → end_count shapes edges ends₂ t i ≡ end_count shapes edges ends t i
count_same shapes edges ends ends₂ same t i =
    sum_same (end_count_in shapes edges ends₂ t i) (end_count_in shapes edges ends t i) (range_with_len 0 (length edges))
    (λ u. ap (sum_by (live_ends_there (source_table (slice_get shapes u)) (destination_table (slice_get shapes u)) t i)) (same u))

sum_none : {X : Type 0} (f : X → ℕ) (xs : List X) → ((x : X) → f x ≡ 0) → sum_by f xs ≡ 0
sum_none f [] none = refl
sum_none f (x ∷ xs) none = omega (arith, sum_by-cons f x xs, none x, sum_none f xs none)

pub count_none : (shapes : List EdgeTable) (edges : List TableData) (ends : List (List Ends)) → ((w : ℕ) → pairs_at edges ends w ≡ []) → (t i : ℕ) → end_count shapes edges ends t i ≡ 0
count_none shapes edges ends none t i =
    sum_none (end_count_in shapes edges ends t i) (range_with_len 0 (length edges))
    (λ u. ap (sum_by (live_ends_there (source_table (slice_get shapes u)) (destination_table (slice_get shapes u)) t i)) (none u))
