-- sorted lists of numbers: which numbers are below a limit, which stand between two, and that two of the same numbers are one
use Rattle.std.proofs.Common.{◌≡◌, ℕ, zero, suc, ◌+◌, ◌-◌, ◌<◌, ◌≤◌, ◌⊎◌, inl, inr, Bool, true, false, ◌==◌, ◌&&◌, not, nat_lt, List, [], ◌∷◌, length, get_or, take, drop, filter, count_by, if◌then◌else◌, refl, ap, sym, ◌∙◌, arith}
use Rattle.std.specs.Bool.{⊤}
use Rattle.std.specs.List.Sorted.{IsNonDecreasing, IsPermutation}
use Rattle.std.proofs.lemmas.List.Sorted.{sum_by-IsPermutation}
use Rattle.std.proofs.lemmas.List.Sums.{sum_by-cons}
use Rattle.std.proofs.lemmas.Bool.Decides.{nat_tests}

-- a number is at most each of a list, and each of a list is at most those behind it
abbrev pub IsLeast : ℕ → List ℕ → Type 0
IsLeast x [] = ⊤
IsLeast x (y ∷ ys) = (x ≤ y) × IsLeast x ys

abbrev pub Rises : List ℕ → Type 0
Rises [] = ⊤
Rises (x ∷ xs) = IsLeast x xs × Rises xs

least : (x : ℕ) (xs : List ℕ) → ((j : ℕ) → j < length xs → x ≤ get_or xs j 0) → IsLeast x xs
least x [] h = tt
least x (y ∷ ys) h = (h 0 (omega arith), least x ys (λ j within. h (suc j) (omega arith)))

pub rises : (xs : List ℕ) → IsNonDecreasing xs → Rises xs
rises [] h = tt
rises (x ∷ xs) h = (least x xs (λ j within. h 0 (suc j) 0 (omega arith) (omega arith)), rises xs (λ i j d le within. h (suc i) (suc j) d (omega arith) (omega arith)))

least_at : (x : ℕ) (xs : List ℕ) (j : ℕ) → IsLeast x xs → j < length xs → x ≤ get_or xs j 0
least_at x [] j h within = absurd (omega arith)
least_at x (y ∷ ys) zero h within = h.0
least_at x (y ∷ ys) (suc j) h within = least_at x ys j h.1 (omega arith)

-- one of two numbers is the smaller one, or they are one
split : (a b : ℕ) (t : Bool) → nat_lt a b ≡ t → (a < b) ⊎ (b ≤ a)
split a b true t = inl (grind (arith, nat_tests))
split a b false t = inr (grind (arith, nat_tests))

pub less_or_not : (a b : ℕ) → (a < b) ⊎ (b ≤ a)
less_or_not a b = split a b (nat_lt a b) refl

-- ---- how many numbers are below a limit

abbrev pub below : ℕ → List ℕ → ℕ
below n xs = count_by (λ x. nat_lt x n) xs

below-cons : (n x : ℕ) (xs : List ℕ) → below n (x ∷ xs) ≡ (if nat_lt x n then 1 else 0) + below n xs
below-cons n x xs = sum_by-cons (λ y. if nat_lt y n then 1 else 0) x xs

below-yes : (n x : ℕ) (xs : List ℕ) → x < n → below n (x ∷ xs) ≡ 1 + below n xs
below-yes n x xs h = let t : nat_lt x n ≡ true = grind (arith, nat_tests) in below-cons n x xs ∙ ap (λ b. (if b then 1 else 0) + below n xs) t

below-no : (n x : ℕ) (xs : List ℕ) → n ≤ x → below n (x ∷ xs) ≡ below n xs
below-no n x xs h = let t : nat_lt x n ≡ false = grind (arith, nat_tests) in below-cons n x xs ∙ ap (λ b. (if b then 1 else 0) + below n xs) t ∙ omega arith

none_below : (n x : ℕ) (xs : List ℕ) → IsLeast x xs → n ≤ x → below n xs ≡ 0
none_below n x [] h le = refl
none_below n x (y ∷ ys) h le = below-no n y ys (omega (arith, h.0)) ∙ none_below n x ys h.1 le

pub below_rises : (lo hi : ℕ) (xs : List ℕ) → lo ≤ hi → below lo xs ≤ below hi xs
below_rises lo hi [] le = omega arith
below_rises lo hi (x ∷ xs) le =
    let later = below_rises lo hi xs le in
    elim (less_or_not x lo) [
      | inl small ↦ omega (arith, below-yes lo x xs small, below-yes hi x xs (omega arith), later)
      | inr large ↦ elim (less_or_not x hi) [
        | inl small ↦ omega (arith, below-no lo x xs large, below-yes hi x xs small, later)
        | inr larger ↦ omega (arith, below-no lo x xs large, below-no hi x xs larger, later)
      ]
    ]

-- the numbers below a limit are the first ones
pub stops : (n : ℕ) (xs : List ℕ) (at : ℕ) → Rises xs → at < length xs → n ≤ get_or xs at 0 → below n xs ≤ at
stops n [] at h within le = absurd (omega arith)
stops n (x ∷ xs) zero h within le = omega (arith, below-no n x xs le, none_below n x xs h.0 le)
stops n (x ∷ xs) (suc at) h within le =
    let later = stops n xs at h.1 (omega arith) le in
    elim (less_or_not x n) [
      | inl small ↦ omega (arith, below-yes n x xs small, later)
      | inr large ↦ omega (arith, below-no n x xs large, later)
    ]

pub goes_on : (n : ℕ) (xs : List ℕ) (at : ℕ) → Rises xs → at < length xs → get_or xs at 0 < n → at + 1 ≤ below n xs
goes_on n [] at h within lt = absurd (omega arith)
goes_on n (x ∷ xs) zero h within lt = omega (arith, below-yes n x xs lt)
goes_on n (x ∷ xs) (suc at) h within lt =
    let here = least_at x xs at h.0 (omega arith) in
    omega (arith, below-yes n x xs (omega (arith, here, lt)), goes_on n xs at h.1 (omega arith) lt)

-- ---- the numbers from one limit up to another

abbrev pub is_between : ℕ → ℕ → ℕ → Bool
is_between lo hi x = not (nat_lt x lo) && nat_lt x hi

filter-yes : (p : ℕ → Bool) (x : ℕ) (xs : List ℕ) → p x ≡ true → filter p (x ∷ xs) ≡ x ∷ filter p xs
filter-yes p x xs t = ap (λ b. if b then x ∷ filter p xs else filter p xs) t

filter-no : (p : ℕ → Bool) (x : ℕ) (xs : List ℕ) → p x ≡ false → filter p (x ∷ xs) ≡ filter p xs
filter-no p x xs t = ap (λ b. if b then x ∷ filter p xs else filter p xs) t

pub between-yes : (lo hi x : ℕ) → lo ≤ x → x < hi → is_between lo hi x ≡ true
between-yes lo hi x a b = grind (arith, nat_tests)

pub between-low : (lo hi x : ℕ) → x < lo → is_between lo hi x ≡ false
between-low lo hi x a = grind (arith, nat_tests)

pub between-high : (lo hi x : ℕ) → hi ≤ x → is_between lo hi x ≡ false
between-high lo hi x a = grind (arith, nat_tests)

-- they stand one after another
pub segment : (lo hi : ℕ) (xs : List ℕ) → Rises xs → lo ≤ hi → take (below hi xs - below lo xs) (drop (below lo xs) xs) ≡ filter (is_between lo hi) xs
segment lo hi [] h le = refl
segment lo hi (x ∷ xs) h le =
    elim (less_or_not x lo) [
      | inl small ↦
          let low = below-yes lo x xs small in
          let high = below-yes hi x xs (omega arith) in
          let one_more : below lo (x ∷ xs) ≡ suc (below lo xs) = omega (arith, low) in
          let width : below hi (x ∷ xs) - below lo (x ∷ xs) ≡ below hi xs - below lo xs = omega (arith, low, high) in
          ap (λ n. take n (drop (below lo (x ∷ xs)) (x ∷ xs))) width
          ∙ ap (λ n. take (below hi xs - below lo xs) (drop n (x ∷ xs))) one_more
          ∙ segment lo hi xs h.1 le
          ∙ sym (filter-no (is_between lo hi) x xs (between-low lo hi x small))
      | inr large ↦
          let none : below lo xs ≡ 0 = none_below lo x xs h.0 large in
          let low : below lo (x ∷ xs) ≡ 0 = below-no lo x xs large ∙ none in
          let bare : below hi xs ≡ below hi xs - 0 = omega arith in
          let later : take (below hi xs) xs ≡ filter (is_between lo hi) xs = ap (λ n. take n xs) bare ∙ ap (λ n. take (below hi xs - n) (drop n xs)) (sym none) ∙ segment lo hi xs h.1 le in
          elim (less_or_not x hi) [
            | inl small ↦
                let width : below hi (x ∷ xs) - below lo (x ∷ xs) ≡ suc (below hi xs) = omega (arith, low, below-yes hi x xs small) in
                ap (λ n. take n (drop (below lo (x ∷ xs)) (x ∷ xs))) width
                ∙ ap (λ n. take (suc (below hi xs)) (drop n (x ∷ xs))) low
                ∙ ap (λ ys. x ∷ ys) later
                ∙ sym (filter-yes (is_between lo hi) x xs (between-yes lo hi x large small))
            | inr larger ↦
                let none_high : below hi xs ≡ 0 = none_below hi x xs h.0 larger in
                let width : below hi (x ∷ xs) - below lo (x ∷ xs) ≡ 0 = omega (arith, below-no hi x xs larger, none_high) in
                ap (λ n. take n (drop (below lo (x ∷ xs)) (x ∷ xs))) width
                ∙ ap (λ n. take n xs) (sym none_high)
                ∙ later
                ∙ sym (filter-no (is_between lo hi) x xs (between-high lo hi x larger))
          ]
    ]

-- a part of a sorted list is sorted
least_if : (b : Bool) (x y : ℕ) (ys : List ℕ) → x ≤ y → IsLeast x ys → IsLeast x (if b then y ∷ ys else ys)
least_if true x y ys le h = (le, h)
least_if false x y ys le h = h

least_part : (p : ℕ → Bool) (x : ℕ) (xs : List ℕ) → IsLeast x xs → IsLeast x (filter p xs)
least_part p x [] h = tt
least_part p x (y ∷ ys) h = least_if (p y) x y (filter p ys) h.0 (least_part p x ys h.1)

pub rises_if : (b : Bool) (x : ℕ) (xs : List ℕ) → IsLeast x xs → Rises xs → Rises (if b then x ∷ xs else xs)
rises_if true x xs least h = (least, h)
rises_if false x xs least h = h

rises_part : (p : ℕ → Bool) (xs : List ℕ) → Rises xs → Rises (filter p xs)
rises_part p [] h = tt
rises_part p (x ∷ xs) h = rises_if (p x) x (filter p xs) (least_part p x xs h.0) (rises_part p xs h.1)

-- ---- two sorted lists that have each number equally often are one

abbrev times : ℕ → List ℕ → ℕ
times k xs = count_by (λ x. x == k) xs

times-cons : (k x : ℕ) (xs : List ℕ) → times k (x ∷ xs) ≡ (if x == k then 1 else 0) + times k xs
times-cons k x xs = sum_by-cons (λ y. if y == k then 1 else 0) x xs

same_number : (x k : ℕ) → (x == k) ≡ true → x ≡ k
same_number x k t = grind (arith, nat_tests)

times-here : (x : ℕ) (xs : List ℕ) → times x (x ∷ xs) ≡ 1 + times x xs
times-here x xs = let t : (x == x) ≡ true = grind (arith, nat_tests) in times-cons x x xs ∙ ap (λ b. (if b then 1 else 0) + times x xs) t

found_by : (b : Bool) (x y k n : ℕ) → (y == k) ≡ b → x ≤ y → (0 < n → x ≤ k) → 0 < (if b then 1 else 0) + n → x ≤ k
found_by true x y k n t le later some = let same = same_number y k t in omega (arith, same)
found_by false x y k n t le later some = later (omega (arith, some))

found : (x k : ℕ) (xs : List ℕ) → IsLeast x xs → 0 < times k xs → x ≤ k
found x k [] h some = absurd (omega (arith, some))
found x k (y ∷ ys) h some = found_by (y == k) x y k (times k ys) refl h.0 (found x k ys h.1) (rw (← times-cons k y ys) some)

found_here : (x k : ℕ) (xs : List ℕ) → IsLeast x xs → 0 < times k (x ∷ xs) → x ≤ k
found_here x k xs h some = found_by (x == k) x x k (times k xs) refl (omega arith) (found x k xs h) (rw (← times-cons k x xs) some)

pub same : (xs ys : List ℕ) → Rises xs → Rises ys → ((k : ℕ) → times k xs ≡ times k ys) → xs ≡ ys
same [] [] up vp h = refl
same [] (y ∷ ys) up vp h = absurd (omega (arith, h y, times-here y ys))
same (x ∷ xs) [] up vp h = absurd (omega (arith, h x, times-here x xs))
same (x ∷ xs) (y ∷ ys) up vp h =
    let le : x ≤ y = found_here x y xs up.0 (omega (arith, h y, times-here y ys)) in
    let ge : y ≤ x = found_here y x ys vp.0 (omega (arith, h x, times-here x xs)) in
    let one : x ≡ y = omega (arith, le, ge) in
    let later : xs ≡ ys = same xs ys up.1 vp.1 (λ k. let both : times k (x ∷ xs) ≡ times k (x ∷ ys) = h k ∙ ap (λ z. times k (z ∷ ys)) (sym one) in omega (arith, both, times-cons k x xs, times-cons k x ys)) in
    ap (λ z. z ∷ xs) one ∙ ap (λ zs. y ∷ zs) later

times_if : (b : Bool) (x k : ℕ) (xs : List ℕ) → times k (if b then x ∷ xs else xs) ≡ (if b && (x == k) then 1 else 0) + times k xs
times_if true x k xs = times-cons k x xs
times_if false x k xs = sym (omega arith)

times_part : (p : ℕ → Bool) (k : ℕ) (xs : List ℕ) → times k (filter p xs) ≡ count_by (λ x. p x && (x == k)) xs
times_part p k [] = refl
times_part p k (x ∷ xs) = times_if (p x) x k (filter p xs) ∙ ap (λ n. (if p x && (x == k) then 1 else 0) + n) (times_part p k xs) ∙ sym (sum_by-cons (λ y. if p y && (y == k) then 1 else 0) x xs)

-- so a part that is sorted already is the same part of the list when it is sorted
pub sorted_part : (p : ℕ → Bool) (xs ys : List ℕ) → IsPermutation xs ys → Rises (filter p xs) → Rises ys → filter p ys ≡ filter p xs
sorted_part p xs ys moved up vp =
    same (filter p ys) (filter p xs) (rises_part p ys vp) up
    (λ k. times_part p k ys ∙ sum_by-IsPermutation (λ x. if p x && (x == k) then 1 else 0) xs ys moved ∙ sym (times_part p k xs))
