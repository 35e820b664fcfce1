-- the rows of ends are read off their sorted pairs
use Rattle.std.proofs.Common.{◌≡◌, ◌≢◌, ℕ, suc, ◌+◌, ◌-◌, ◌*◌, ◌<◌, ◌≤◌, inl, inr, Bool, true, false, ◌==◌, List, [], ◌∷◌, ◌++◌, nat_lt, max, fold, length, get_or, take, drop, map, filter, if◌then◌else◌, refl, ap, sym, ◌∙◌, arith}
use Rattle.std.specs.List.Sorted.{IsNonDecreasing, IsPermutation}
use Rattle.std.proofs.lemmas.List.{same_lists, take-map, drop-map, get_or_past}
use Rattle.std.proofs.lemmas.List.Sums.{count_by-le-length}
use Rattle.std.proofs.lemmas.List.FromFn.{length-map-range_with_len, get_or-map-range_with_len}
use Rattle.std.proofs.lemmas.Bool.Decides.{nat_tests}
use Rattle.csr_rows.specs.Rows.{places_from, places_of, first_rows, row_count, rows_of}
use Rattle.csr_rows.specs.Offsets.{row_between, rows_between, AreOffsets, half, pair_of, place_in, pairs_from, pairs_of, pairs_below, offsets_of}
use Rattle.csr_rows.proofs.Sorting.{IsLeast, Rises, rises, below, below_rises, is_between, between-yes, between-low, between-high, segment, sorted_part, less_or_not}

-- the pairs of one row
abbrev is_of : ℕ → ℕ → Bool
is_of i pair = is_between (i * half) ((i + 1) * half) pair

of_row : (i e place : ℕ) (b : Bool) → (e == i) ≡ b → place < half → is_of i (pair_of e place) ≡ b
of_row i e place true t small =
    let same : e ≡ i = grind (arith, nat_tests) in
    between-yes (i * half) ((i + 1) * half) (pair_of e place) (omega (arith, same)) (omega (arith, same))
of_row i e place false t small =
    let other : e ≢ i = grind (arith, nat_tests) in
    elim (less_or_not e i) [
      | inl less ↦ between-low (i * half) ((i + 1) * half) (pair_of e place) (omega arith)
      | inr more ↦ let past : i < e = omega (arith, other, more) in between-high (i * half) ((i + 1) * half) (pair_of e place) (omega arith)
    ]

place_back : (e place : ℕ) → place < half → place_in (pair_of e place) ≡ place
place_back e place small = omega arith

places_if : (b : Bool) (pair place : ℕ) (pairs places : List ℕ) → place_in pair ≡ place → map place_in pairs ≡ places → map place_in (if b then pair ∷ pairs else pairs) ≡ (if b then place ∷ places else places)
places_if true pair place pairs places e h = ap (λ ps. place_in pair ∷ ps) h ∙ ap (λ p. p ∷ places) e
places_if false pair place pairs places e h = h

-- their places are those of the row
places_are : (first : ℕ) (ends : List ℕ) (i : ℕ) → first + length ends ≤ half → map place_in (filter (is_of i) (pairs_from first ends)) ≡ places_from first ends i
places_are first [] i few = refl
places_are first (e ∷ ends) i few =
    let small : first < half = omega (arith, few) in
    ap (λ b. map place_in (if b then pair_of e first ∷ filter (is_of i) (pairs_from (first + 1) ends) else filter (is_of i) (pairs_from (first + 1) ends))) (of_row i e first (e == i) refl small)
    ∙ places_if (e == i) (pair_of e first) first _ _ (place_back e first small) (places_are (first + 1) ends i (omega (arith, few)))

-- and they rise already
least_if : (b : Bool) (low pair : ℕ) (pairs : List ℕ) → (b ≡ true → low ≤ pair) → IsLeast low pairs → IsLeast low (if b then pair ∷ pairs else pairs)
least_if true low pair pairs le h = (le refl, h)
least_if false low pair pairs le h = h

in_row : (i e first : ℕ) → (e == i) ≡ true → pair_of e first ≡ i * half + first
in_row i e first t = let same : e ≡ i = grind (arith, nat_tests) in omega (arith, same)

least_row : (low first : ℕ) (ends : List ℕ) (i : ℕ) → low ≤ i * half + first → first + length ends ≤ half → IsLeast low (filter (is_of i) (pairs_from first ends))
least_row low first [] i le few = tt
least_row low first (e ∷ ends) i le few =
    let is = of_row i e first (e == i) refl (omega (arith, few)) in
    least_if (is_of i (pair_of e first)) low (pair_of e first) (filter (is_of i) (pairs_from (first + 1) ends))
    (λ t. let at = in_row i e first (sym is ∙ t) in omega (arith, at, le))
    (least_row low (first + 1) ends i (omega (arith, le)) (omega (arith, few)))

rises_step : (b : Bool) (pair : ℕ) (pairs : List ℕ) → (b ≡ true → IsLeast pair pairs) → Rises pairs → Rises (if b then pair ∷ pairs else pairs)
rises_step true pair pairs least h = (least refl, h)
rises_step false pair pairs least h = h

row_rises : (first : ℕ) (ends : List ℕ) (i : ℕ) → first + length ends ≤ half → Rises (filter (is_of i) (pairs_from first ends))
row_rises first [] i few = tt
row_rises first (e ∷ ends) i few =
    let is = of_row i e first (e == i) refl (omega (arith, few)) in
    rises_step (is_of i (pair_of e first)) (pair_of e first) (filter (is_of i) (pairs_from (first + 1) ends))
    (λ t. let at = in_row i e first (sym is ∙ t) in least_row (pair_of e first) (first + 1) ends i (omega (arith, at)) (omega (arith, few)))
    (row_rises (first + 1) ends i (omega (arith, few)))

-- ---- the rows between offsets

offset_is : (pairs : List ℕ) (rows i : ℕ) → i < rows + 1 → get_or (offsets_of pairs rows) i 0 ≡ pairs_below pairs i
offset_is pairs rows i within = get_or-map-range_with_len (pairs_below pairs) 0 (rows + 1) i i 0 within (omega arith)

pub offsets_rise : (pairs : List ℕ) (rows : ℕ) (places : List ℕ) → length places ≡ length pairs → AreOffsets (offsets_of pairs rows) places
offsets_rise pairs rows places long i within =
    let count : length (offsets_of pairs rows) ≡ rows + 1 = length-map-range_with_len (pairs_below pairs) 0 (rows + 1) in
    let here = offset_is pairs rows i (omega (arith, within, count)) in
    let next = offset_is pairs rows (i + 1) (omega (arith, within, count)) in
    (omega (arith, here, next, below_rises (i * half) ((i + 1) * half) pairs (omega arith)), omega (arith, next, long, count_by-le-length (λ pair. nat_lt pair ((i + 1) * half)) pairs))

row_read : (ends pairs : List ℕ) (rows i : ℕ) → length ends ≤ half → IsPermutation (pairs_of ends) pairs → IsNonDecreasing pairs → i < rows → row_between (offsets_of pairs rows) (map place_in pairs) i ≡ places_of ends i
row_read ends pairs rows i few moved up within =
    let from = pairs_below pairs i in
    let to = pairs_below pairs (i + 1) in
    ap (λ n. take (get_or (offsets_of pairs rows) (i + 1) 0 - n) (drop n (map place_in pairs))) (offset_is pairs rows i (omega arith))
    ∙ ap (λ n. take (n - from) (drop from (map place_in pairs))) (offset_is pairs rows (i + 1) (omega arith))
    ∙ ap (take (to - from)) (drop-map place_in from pairs)
    ∙ take-map place_in (to - from) (drop from pairs)
    ∙ ap (map place_in) (segment (i * half) ((i + 1) * half) pairs (rises pairs up) (omega arith))
    ∙ ap (map place_in) (sorted_part (is_of i) (pairs_of ends) pairs moved (row_rises 0 ends i (omega (arith, few))) (rises pairs up))
    ∙ places_are 0 ends i (omega (arith, few))

pub rows_read : (ends pairs : List ℕ) → length ends ≤ half → IsPermutation (pairs_of ends) pairs → IsNonDecreasing pairs → rows_between (offsets_of pairs (row_count ends)) (map place_in pairs) ≡ rows_of ends
rows_read ends pairs few moved up =
    let rows = row_count ends in
    let count : length (offsets_of pairs rows) - 1 ≡ rows = let long = length-map-range_with_len (pairs_below pairs) 0 (rows + 1) in omega (arith, long) in
    let left : length (rows_between (offsets_of pairs rows) (map place_in pairs)) ≡ rows = length-map-range_with_len (row_between (offsets_of pairs rows) (map place_in pairs)) 0 (length (offsets_of pairs rows) - 1) ∙ count in
    let right : length (first_rows rows ends) ≡ rows = length-map-range_with_len (places_of ends) 0 rows in
    same_lists (rows_between (offsets_of pairs rows) (map place_in pairs)) (first_rows rows ends) (left ∙ sym right)
    (λ i d within.
    get_or-map-range_with_len (row_between (offsets_of pairs rows) (map place_in pairs)) 0 (length (offsets_of pairs rows) - 1) i i d (omega (arith, within, left, count)) (omega arith)
    ∙ row_read ends pairs rows i few moved up (omega (arith, within, left))
    ∙ sym (get_or-map-range_with_len (places_of ends) 0 rows i i d (omega (arith, within, left)) (omega arith)))

-- ---- a row of rows between offsets
pub row_there : (offsets places : List ℕ) (i : ℕ) → i + 1 < length offsets → get_or (rows_between offsets places) i [] ≡ row_between offsets places i
row_there offsets places i within = get_or-map-range_with_len (row_between offsets places) 0 (length offsets - 1) i i [] (omega (arith, within)) (omega arith)

pub row_past : (offsets places : List ℕ) (i : ℕ) → length offsets ≤ i + 1 → get_or (rows_between offsets places) i [] ≡ []
row_past offsets places i past =
    let long = length-map-range_with_len (row_between offsets places) 0 (length offsets - 1) in
    get_or_past (rows_between offsets places) i [] (omega (arith, long, past))

-- ---- pairs while they are made
pub length-pairs : (first : ℕ) (ends : List ℕ) → length (pairs_from first ends) ≡ length ends
length-pairs first [] = refl
length-pairs first (e ∷ ends) = let later = length-pairs (first + 1) ends in omega (arith, later)

pub count_few : (n a : ℕ) (ends : List ℕ) → a ≤ n → ((k : ℕ) → k < length ends → get_or ends k 0 < n) → fold (λ count e. max count (e + 1)) a ends ≤ n
count_few n a [] le below = le
count_few n a (e ∷ ends) le below = count_few n (max a (e + 1)) ends (let here = below 0 (omega arith) in omega (arith, le, here)) (λ k within. below (suc k) (omega arith))

pub pairs_push : (first : ℕ) (ends : List ℕ) (e : ℕ) → pairs_from first (ends ++ e ∷ []) ≡ pairs_from first ends ++ pair_of e (first + length ends) ∷ []
pairs_push first [] e = ap (λ place. pair_of e place ∷ []) (omega arith)
pairs_push first (x ∷ ends) e = ap (λ ps. pair_of x first ∷ ps) (pairs_push (first + 1) ends e ∙ ap (λ place. pairs_from (first + 1) ends ++ pair_of e place ∷ []) (omega arith))
