-- The places of seats among the rows that are still there.
use Rattle.std.proofs.Common.{◌≡◌, ℕ, ℤ, pos, zero, suc, ◌+◌, ◌<◌, ◌≤◌, Bool, true, false, ◌&&◌, not, List, [], ◌∷◌, Option, Some, None, length, get_or, take, refl, ap, sym, ◌∙◌, subst, arith, cond, map, filter, count_by}
use Rattle.std.specs.List.{range_with_len, position_or_len}
use Rattle.std.specs.Ordering.{int_eq}
use Rattle.std.proofs.lemmas.Bool.Decides.{Decides-int_eq}
use Rattle.std.proofs.lemmas.List.{length-take}
use Rattle.std.proofs.lemmas.List.FromFn.{get_or-map-range_with_len}
use Rattle.std.proofs.lemmas.List.Sums.{length-filter, count_by-le-length, get_or-le-sum_by}
use Rattle.std.proofs.lemmas.List.Filters.{length-filter_more}
use Rattle.graph_model.specs.Seats.{Seat, is_live, live_seats, sits, sits_at, key_at, no_seat}
use Rattle.graph_model.specs.Stored.{vertex_row}
use Rattle.graph_model.specs.Columns.{place_in}
use Rattle.graph_model.specs.Parts.{rank, place_by, AreRanks}
use Rattle.graph_model.proofs.Rows.{count_cons, counts_one, only_later}
use Rattle.graph_model.proofs.Told.{sits_within}

-- ---- ranks

pub rank_more : (seats : List Seat) (i : ℕ) → i < length seats → rank seats (i + 1) ≡ rank seats i + cond {A = ℕ} (sits_at seats i) 1 0
rank_more seats i within = length-filter_more is_live seats i no_seat within

pub rank_low : (seats : List Seat) (i : ℕ) → rank seats i ≤ i
rank_low seats i = omega (arith, length-filter is_live (take i seats), count_by-le-length is_live (take i seats), length-take i seats)

pub ranks_told : (seats : List Seat) → length seats < 2147483648 → AreRanks seats (map (λ i. pos (rank seats i)) (range_with_len 0 (length seats)))
ranks_told seats few = record {
  few = few;
  told = λ i within. get_or-map-range_with_len (λ j. pos (rank seats j)) 0 (length seats) i i (pos i) within (omega arith);
}

-- where all rows are still there
all_sit : (seats : List Seat) (i : ℕ) → count_by is_live seats ≡ length seats → i ≤ length seats → count_by is_live (take i seats) ≡ i
all_sit seats zero e within = refl
all_sit [] (suc i) e within = absurd (omega arith)
all_sit (s ∷ seats) (suc i) e within =
    let more = count_by-le-length is_live seats in
    let least : cond {A = ℕ} (is_live s) 1 0 ≤ 1 = at_most_one (is_live s) in
    omega (arith, count_cons is_live s seats, count_cons is_live s (take i seats), all_sit seats i (omega (arith, e, count_cons is_live s seats, more, least)) (omega arith), least, more)
  where
    at_most_one : (b : Bool) → cond {A = ℕ} b 1 0 ≤ 1
    at_most_one true = omega arith
    at_most_one false = omega arith

pub ranks_none : (seats : List Seat) → length seats < 2147483648 → length (live_seats seats) ≡ length seats → AreRanks seats []
ranks_none seats few e = record {
  few = few;
  told = λ i within. ap pos (sym (length-filter is_live (take i seats) ∙ all_sit seats i (omega (arith, e, length-filter is_live seats)) (omega arith)));
}

-- ---- the place of a key is the rank of the seat where it sits

same_key : (s : Seat) (k : ℤ) (a : Bool) → s.live ≡ a → int_eq s.key k ≡ true → a ≡ true → sits k s ≡ true
same_key s k true e f g = ap (λ b. b && int_eq s.key k) e ∙ f
same_key s k false e f g = cc

abbrev added : Bool → ℕ → ℕ
added true n = 1 + n
added false n = n

place_by_case : (k : ℤ) (s : Seat) (seats : List Seat) (n : ℕ) (b : Bool) → is_live s ≡ b → (b ≡ true → int_eq s.key k ≡ false) → position_or_len (λ r. int_eq r.key k) (map vertex_row (filter is_live seats)) ≡ n → position_or_len (λ r. int_eq r.key k) (map vertex_row (cond b (s ∷ filter is_live seats) (filter is_live seats))) ≡ added b n
place_by_case k s seats n true e apart rest = ap (λ (c : Bool). cond {A = ℕ} (not c) (1 + position_or_len (λ r. int_eq r.key k) (map vertex_row (filter is_live seats))) 0) (apart refl) ∙ ap (λ m. 1 + m) rest
place_by_case k s seats n false e apart rest = rest

first_by : (k : ℤ) (s : Seat) (seats : List Seat) (b : Bool) → b ≡ true → int_eq s.key k ≡ true → position_or_len (λ r. int_eq r.key k) (map vertex_row (cond b (s ∷ filter is_live seats) (filter is_live seats))) ≡ 0
first_by k s seats true e f = ap (λ (c : Bool). cond {A = ℕ} (not c) (1 + position_or_len (λ r. int_eq r.key k) (map vertex_row (filter is_live seats))) 0) f
first_by k s seats false e f = cc

and_left : (a b : Bool) → (a && b) ≡ false → a ≡ true → b ≡ false
and_left true b e f = e
and_left false b e f = cc

both : (a b : Bool) → a ≡ true → b ≡ true → (a && b) ≡ true
both true b e f = f
both false b e f = cc

pub place_is_rank : (seats : List Seat) (i : ℕ) (k : ℤ) → sits_at seats i ≡ true → int_eq (key_at seats i) k ≡ true → count_by (sits k) seats ≤ 1 → position_or_len (λ r. int_eq r.key k) (map vertex_row (filter is_live seats)) ≡ rank seats i
place_is_rank [] i k there here once = absurd (let no_way : false ≡ true = there in cc)
place_is_rank (s ∷ seats) zero k there here once = first_by k s seats (is_live s) there here
place_is_rank (s ∷ seats) (suc i) k there here once =
    let rest = place_is_rank seats i k there here (omega (arith, count_cons (sits k) s seats, once)) in
    let within : i < length seats = sits_within seats i there in
    let one = counts_one (sits k (get_or seats i no_seat)) (both _ _ there here) in
    let some : 1 ≤ count_by (sits k) seats = omega (arith, get_or-le-sum_by (λ x. cond {A = ℕ} (sits k x) 1 0) seats i no_seat within) in
    let gone : sits k s ≡ false = only_later (sits k s) (count_by (sits k) seats) (omega (arith, count_cons (sits k) s seats, once)) some in
    place_by_case k s seats (rank seats i) (is_live s) refl (λ e. and_left (is_live s) (int_eq s.key k) gone e) rest
    ∙ rank_cons s seats i (is_live s) refl
  where
    rank_cons : (s : Seat) (seats : List Seat) (i : ℕ) (b : Bool) → is_live s ≡ b → added b (rank seats i) ≡ length (cond b (s ∷ filter is_live (take i seats)) (filter is_live (take i seats)))
    rank_cons s seats i true e = omega arith
    rank_cons s seats i false e = refl
