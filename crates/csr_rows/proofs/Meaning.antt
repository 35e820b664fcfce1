-- what the places of an end are, and which rows there are
use Rattle.std.proofs.Common.{◌≡◌, ◌≢◌, ℕ, zero, suc, ◌+◌, ◌<◌, ◌≤◌, ◌⊎◌, inl, inr, max, Bool, true, false, ◌==◌, nat_lt, List, [], ◌∷◌, Some, Contains, length, get_or, slice_index, slice_get, fold, if◌then◌else◌, refl, ap, sym, ◌∙◌, subst, arith}
use Rattle.std.specs.List.Sorted.{IsStrictlyIncreasing}
use Rattle.std.proofs.lemmas.List.{get_or_past}
use Rattle.std.proofs.lemmas.List.Elements.{All-contains_itself, All-get_or}
use Rattle.std.proofs.lemmas.Option.{slice_get-get_or}
use Rattle.std.proofs.lemmas.Bool.Decides.{nat_tests}
use Rattle.csr_rows.specs.Rows.{places_from, places_of, row_count, rows_of, row_at}
use Rattle.csr_rows.proofs.Places.{row_is, length-first_rows}

-- a place of a list that one place may stand before is that place or one of the list
here_or_later : (b : Bool) (first : ℕ) (later : List ℕ) (e : ℕ) → Contains (if b then first ∷ later else later) e → ((b ≡ true) × (first ≡ e)) ⊎ Contains later e
here_or_later true first later e (zero, within, is) = inl (refl, is)
here_or_later true first later e (suc k, within, is) = inr (k, omega arith, is)
here_or_later false first later e found = inr found

still_later : (b : Bool) (first : ℕ) (later : List ℕ) (e : ℕ) → Contains later e → Contains (if b then first ∷ later else later) e
still_later true first later e (k, within, is) = (suc k, omega arith, is)
still_later false first later e found = found

-- the end of a place, found d places after the first
abbrev HasEnd : ℕ → List ℕ → ℕ → ℕ → Type 0
HasEnd first ends i e = (d : ℕ) × (e ≡ first + d) × (slice_get ends d ≡ Some i)

same_number : (a b : ℕ) → (a == b) ≡ true → a ≡ b
same_number a b t = grind (arith, nat_tests)

place_has_end : (first : ℕ) (ends : List ℕ) (i e : ℕ) → Contains (places_from first ends i) e → HasEnd first ends i e
place_has_end first [] i e (k, within, is) = absurd (omega arith)
place_has_end first (x ∷ ends) i e found =
    elim (here_or_later (x == i) first (places_from (first + 1) ends i) e found) [
      | inl here ↦ (0, sym here.1 ∙ omega arith, ap Some (same_number x i here.0))
      | inr later ↦ let h = place_has_end (first + 1) ends i e later in (suc h.0, omega (arith, h.1), h.2)
    ]

tested : (b : Bool) (first : ℕ) (later : List ℕ) → b ≡ true → Contains (if b then first ∷ later else later) (first + 0)
tested true first later t = (0, omega arith, omega arith)
tested false first later t = cc

end_has_place : (first : ℕ) (ends : List ℕ) (i d : ℕ) → slice_get ends d ≡ Some i → Contains (places_from first ends i) (first + d)
end_has_place first [] i d is = cc
end_has_place first (x ∷ ends) i zero is =
    let same : x ≡ i = cc in
    let yes : (x == i) ≡ true = grind (arith, nat_tests) in
    tested (x == i) first (places_from (first + 1) ends i) yes
end_has_place first (x ∷ ends) i (suc d) is =
    still_later (x == i) first (places_from (first + 1) ends i) (first + suc d)
    (let e : (first + 1) + d ≡ first + suc d = omega arith in subst (Contains (places_from (first + 1) ends i)) e (end_has_place (first + 1) ends i d is))

-- a place is one of the places of i exactly where its end is i
pub place_of_end : (ends : List ℕ) (i e : ℕ) → Contains (places_of ends i) e → slice_get ends e ≡ Some i
place_of_end ends i e found = let h = place_has_end 0 ends i e found in let same : h.0 ≡ e = omega (arith, h.1) in subst (λ d. slice_get ends d ≡ Some i) same h.2

pub end_of_place : (ends : List ℕ) (i e : ℕ) → slice_get ends e ≡ Some i → Contains (places_of ends i) e
end_of_place ends i e is = let same : 0 + e ≡ e = omega arith in subst (Contains (places_of ends i)) same (end_has_place 0 ends i e is)

-- the places begin no lower than the first
at_least : (first : ℕ) (ends : List ℕ) (i k : ℕ) → k < length (places_from first ends i) → first ≤ get_or (places_from first ends i) k 0
at_least first ends i k within =
    let h = place_has_end first ends i _ (All-get_or (Contains (places_from first ends i)) (places_from first ends i) k 0 within (All-contains_itself (places_from first ends i))) in
    omega (arith, h.1)

rises_after : (b : Bool) (first : ℕ) (later : List ℕ) → ((k : ℕ) → k < length later → first < get_or later k 0) → IsStrictlyIncreasing later → IsStrictlyIncreasing (if b then first ∷ later else later)
rises_after true first later above rises zero within = above 0 (omega arith)
rises_after true first later above rises (suc k) within =
    let next : suc k + 1 ≡ suc (k + 1) = omega arith in
    subst (λ n. slice_index (first ∷ later) (suc k) < slice_index (first ∷ later) n) (sym next) (rises k (omega arith))
rises_after false first later above rises k within = rises k within

places_rise_from : (first : ℕ) (ends : List ℕ) (i : ℕ) → IsStrictlyIncreasing (places_from first ends i)
places_rise_from first [] i k within = absurd (omega arith)
places_rise_from first (x ∷ ends) i k within =
    rises_after (x == i) first (places_from (first + 1) ends i) (λ k within. omega (arith, at_least (first + 1) ends i k within)) (places_rise_from (first + 1) ends i) k within

pub places_rise : (ends : List ℕ) (i : ℕ) → IsStrictlyIncreasing (places_of ends i)
places_rise ends i = places_rise_from 0 ends i

-- one more row than the greatest end, or than what was counted before
abbrev counted_from : ℕ → List ℕ → ℕ
counted_from a ends = fold (λ count e. max count (e + 1)) a ends

count_grows : (a : ℕ) (ends : List ℕ) → a ≤ counted_from a ends
count_grows a [] = omega arith
count_grows a (x ∷ ends) = omega (arith, count_grows (max a (x + 1)) ends)

end_counted : (a : ℕ) (ends : List ℕ) (d i : ℕ) → slice_get ends d ≡ Some i → i < counted_from a ends
end_counted a [] d i is = cc
end_counted a (x ∷ ends) zero i is = let same : x ≡ i = cc in omega (arith, same, count_grows (max a (x + 1)) ends)
end_counted a (x ∷ ends) (suc d) i is = end_counted (max a (x + 1)) ends d i is

max_is_one : (b : Bool) (a x n : ℕ) → nat_lt a (x + 1) ≡ b → max a (x + 1) ≡ n → (a ≡ n) ⊎ (x + 1 ≡ n)
max_is_one true a x n t is = let less : a < x + 1 = grind (arith, nat_tests) in inr (omega arith)
max_is_one false a x n t is = let more : x + 1 ≤ a = grind (arith, nat_tests) in inl (omega arith)

count_reached : (a : ℕ) (ends : List ℕ) (i : ℕ) → counted_from a ends ≡ i + 1 → (a ≡ i + 1) ⊎ ((d : ℕ) × (slice_get ends d ≡ Some i))
count_reached a [] i is = inl is
count_reached a (x ∷ ends) i is =
    elim (count_reached (max a (x + 1)) ends i is) [
      | inl here ↦ elim (max_is_one (nat_lt a (x + 1)) a x (i + 1) refl here) [
        | inl before ↦ inl before
        | inr this ↦ let same : x ≡ i = omega (arith, this) in inr (0, ap Some same)
      ]
      | inr later ↦ inr (suc later.0, later.1)
    ]

pub end_below : (ends : List ℕ) (place : ℕ) → place < length ends → get_or ends place 0 < row_count ends
end_below ends place within = end_counted 0 ends place (get_or ends place 0) (slice_get-get_or ends place 0 within)

-- a list without elements is empty
empty_without : (places : List ℕ) → ((e : ℕ) → Contains places e → ⊥) → places ≡ []
empty_without [] none = refl
empty_without (e ∷ places) none = absurd (none e (0, omega arith, refl))

past_rows : (ends : List ℕ) (i : ℕ) → row_count ends ≤ i → places_of ends i ≡ []
past_rows ends i past = empty_without (places_of ends i) (λ e found. let below = end_counted 0 ends e i (place_of_end ends i e found) in omega (arith, below, past))

row_by_test : (ends : List ℕ) (i : ℕ) (b : Bool) → nat_lt i (row_count ends) ≡ b → row_at (rows_of ends) i ≡ places_of ends i
row_by_test ends i true t = let within : i < row_count ends = grind (arith, nat_tests) in row_is (row_count ends) ends i [] within
row_by_test ends i false t =
    let past : row_count ends ≤ i = grind (arith, nat_tests) in
    let short : length (rows_of ends) ≤ i = rw (length-first_rows (row_count ends) ends) past in
    get_or_past (rows_of ends) i [] short ∙ sym (past_rows ends i past)

-- a row lists the places of its number
pub row_lists : (ends : List ℕ) (i : ℕ) → row_at (rows_of ends) i ≡ places_of ends i
row_lists ends i = row_by_test ends i (nat_lt i (row_count ends)) refl

not_empty : (places : List ℕ) (e : ℕ) → Contains places e → places ≢ []
not_empty [] e (k, within, is) none = omega arith
not_empty (p ∷ places) e found none = cc

-- the last row has a place
pub last_row_filled : (ends : List ℕ) (i : ℕ) → length (rows_of ends) ≡ i + 1 → row_at (rows_of ends) i ≢ []
last_row_filled ends i long none =
    let count : row_count ends ≡ i + 1 = sym (length-first_rows (row_count ends) ends) ∙ long in
    elim (count_reached 0 ends i count) [
      | inl start ↦ omega (arith, start)
      | inr found ↦ not_empty (places_of ends i) found.0 (end_of_place ends i found.0 found.1) (sym (row_lists ends i) ∙ none)
    ]
