-- lists that fall by a number, and stable sorts
use Rattle.std.proofs.Common.{◌≡◌, ℕ, suc, ◌+◌, ◌<◌, ◌≤◌, Bool, true, false, ◌&&◌, not, ◌==◌, List, [], ◌∷◌, length, get_or, filter, cond, refl, ap, sym, ◌∙◌, subst, arith, All}
use Rattle.std.specs.Prelude.{nat_lt}
use Rattle.std.specs.Ordering.{nat_cmp, is_lt}
use Rattle.std.proofs.lemmas.Bool.Decides.{nat_tests}
use Rattle.std.specs.List.{AllPairs}
use Rattle.std.proofs.lemmas.List.Elements.{All-cons}
use Rattle.std.proofs.lemmas.List.Kept.{AllPairs-cons}
use Rattle.graph_mutate.specs.Sorted.{put_falling, falling}

module _ {X : Type 0} (n : X → ℕ) where
  -- no item has a greater number than one before it
  abbrev pub Falls : List X → Type 0
  Falls [] = Unit {0}
  Falls (x ∷ xs) = All (λ y. n y ≤ n x) xs × Falls xs

  -- items of one number
  abbrev pub tie : X → X → Bool
  tie x y = n x == n y

  rest_all : (P : X → Type 0) (x : X) (xs : List X) → All P (x ∷ xs) → All P xs
  rest_all P x xs all = λ i d h. all (suc i) d (omega arith)

  cut_case : (b : Bool) (x : X) (ys zs : List X) → b ≡ false → cond b (x ∷ ys) zs ≡ zs
  cut_case true x ys zs e = cc
  cut_case false x ys zs e = refl

  keep_case : (b : Bool) (x : X) (ys zs : List X) → b ≡ true → cond b (x ∷ ys) zs ≡ x ∷ ys
  keep_case true x ys zs e = refl
  keep_case false x ys zs e = cc

  filter_none : (p : X → Bool) (xs : List X) → All (λ y. p y ≡ false) xs → filter p xs ≡ []
  filter_none p [] all = refl
  filter_none p (x ∷ xs) all = cut_case (p x) x (filter p xs) (filter p xs) (all 0 x (omega arith)) ∙ filter_none p xs (rest_all (λ y. p y ≡ false) x xs all)

  tie_self : (x : X) → tie x x ≡ true
  tie_self x = grind (arith, nat_tests)

  tie_less : (x y : X) → n y < n x → tie x y ≡ false
  tie_less x y h = grind (arith, nat_tests)

  tie_same : (x y : X) → n x ≡ n y → tie x y ≡ true
  tie_same x y h = grind (arith, nat_tests)

  -- the first item is kept among those of its number
  head_kept : (x : X) (xs : List X) → filter (tie x) (x ∷ xs) ≡ x ∷ filter (tie x) xs
  head_kept x xs = keep_case (tie x x) x (filter (tie x) xs) (filter (tie x) xs) (tie_self x)

  -- a list that begins with a smaller number has no item of a greater one
  none_above : (x y : X) (ys : List X) → n y < n x → Falls (y ∷ ys) → filter (tie x) (y ∷ ys) ≡ []
  none_above x y ys small falls =
      filter_none (tie x) (y ∷ ys) (All-cons (λ z. tie x z ≡ false) y ys (tie_less x y small) (λ i d h. let le : n (get_or ys i d) ≤ n y = falls.0 i d h in tie_less x (get_or ys i d) (omega arith)))

  drop_case : (b c : Bool) (x y : X) (xs ys : List X) → b ≡ c → x ≡ y → cond b (x ∷ xs) xs ≡ cond c (y ∷ ys) ys → xs ≡ ys
  drop_case true true x y xs ys e f g = cc
  drop_case true false x y xs ys e f g = cc
  drop_case false true x y xs ys e f g = cc
  drop_case false false x y xs ys e f g = g

  by_order : (x y : X) (xs ys : List X) → Falls (x ∷ xs) → Falls (y ∷ ys) → ((z : X) → filter (tie z) (x ∷ xs) ≡ filter (tie z) (y ∷ ys)) → (((z : X) → filter (tie z) xs ≡ filter (tie z) ys) → xs ≡ ys) → (b : Bool) → nat_lt (n y) (n x) ≡ b → (c : Bool) → nat_lt (n x) (n y) ≡ c → x ∷ xs ≡ y ∷ ys
  by_order x y xs ys f g same next true e c e' =
      let small : n y < n x = grind (arith, nat_tests) in
      let h = sym (head_kept x xs) ∙ same x ∙ none_above x y ys small g in cc
  by_order x y xs ys f g same next false e true e' =
      let small : n x < n y = grind (arith, nat_tests) in
      let h = sym (head_kept y ys) ∙ sym (same y) ∙ none_above y x xs small f in cc
  by_order x y xs ys f g same next false e false e' =
      let equal : n x ≡ n y = grind (arith, nat_tests) in
      let heads : x ∷ filter (tie x) xs ≡ y ∷ filter (tie x) ys = sym (head_kept x xs) ∙ same x ∙ keep_case (tie x y) y (filter (tie x) ys) (filter (tie x) ys) (tie_same x y equal) in
      let first : x ≡ y = cc in
      let rest : xs ≡ ys = next (λ z. drop_case (tie z x) (tie z y) x y (filter (tie z) xs) (filter (tie z) ys) (ap (λ m. n z == m) equal) first (same z)) in
      cc

  -- two lists that fall and have the same items of each number, in the same order, are one
  pub same_falling : (xs ys : List X) → Falls xs → Falls ys → ((z : X) → filter (tie z) xs ≡ filter (tie z) ys) → xs ≡ ys
  same_falling [] [] a b same = refl
  same_falling [] (y ∷ ys) a b same = let e = same y ∙ head_kept y ys in cc
  same_falling (x ∷ xs) [] a b same = let e = sym (same x) ∙ head_kept x xs in cc
  same_falling (x ∷ xs) (y ∷ ys) a b same = by_order x y xs ys a b same (same_falling xs ys a.1 b.1) (nat_lt (n y) (n x)) refl (nat_lt (n x) (n y)) refl

  -- ---- the sort by insertion falls and is stable

  all_case : (P : X → Type 0) (b : Bool) (x y : X) (ys zs : List X) → P x → P y → All P ys → All P zs → All P (cond b (y ∷ zs) (x ∷ y ∷ ys))
  all_case P true x y ys zs p q a b = All-cons P y zs q b
  all_case P false x y ys zs p q a b = All-cons P x (y ∷ ys) p (All-cons P y ys q a)

  put_all : (P : X → Type 0) (x : X) (ys : List X) → P x → All P ys → All P (put_falling n x ys)
  put_all P x [] p all = All-cons P x [] p all
  put_all P x (y ∷ ys) p all = all_case P (nat_lt (n x) (n y)) x y ys (put_falling n x ys) p (all 0 y (omega arith)) (rest_all P y ys all) (put_all P x ys p (rest_all P y ys all))

  falls_case : (x y : X) (ys zs : List X) → Falls (y ∷ ys) → Falls zs → (n x ≤ n y → All (λ z. n z ≤ n y) zs) → (b : Bool) → nat_lt (n x) (n y) ≡ b → Falls (cond b (y ∷ zs) (x ∷ y ∷ ys))
  falls_case x y ys zs f g all true e = (all (grind (arith, nat_tests)), g)
  falls_case x y ys zs f g all false e =
      let le : n y ≤ n x = grind (arith, nat_tests) in
      (All-cons (λ z. n z ≤ n x) y ys le (λ i d h. let l : n (get_or ys i d) ≤ n y = f.0 i d h in omega arith), f)

  put_falls : (x : X) (ys : List X) → Falls ys → Falls (put_falling n x ys)
  put_falls x [] f = (λ i d h. absurd (omega arith), tt)
  put_falls x (y ∷ ys) f = falls_case x y ys (put_falling n x ys) f (put_falls x ys f.1) (λ le. put_all (λ z. n z ≤ n y) x ys le f.0) (nat_lt (n x) (n y)) refl

  pub falling_falls : (xs : List X) → Falls (falling n xs)
  falling_falls [] = tt
  falling_falls (x ∷ xs) = put_falls x (falling n xs) (falling_falls xs)

  shuffle : (p q : Bool) (x y : X) (xs : List X) → (p ≡ true → q ≡ true → ⊥) → cond q (y ∷ cond p (x ∷ xs) xs) (cond p (x ∷ xs) xs) ≡ cond p (x ∷ cond q (y ∷ xs) xs) (cond q (y ∷ xs) xs)
  shuffle true true x y xs h = absurd (h refl refl)
  shuffle true false x y xs h = refl
  shuffle false true x y xs h = refl
  shuffle false false x y xs h = refl

  not_both : (z x y : X) → n x < n y → tie z x ≡ true → tie z y ≡ true → ⊥
  not_both z x y small a b = grind (arith, nat_tests)

  stable_case : (z x y : X) (ys zs : List X) → filter (tie z) zs ≡ filter (tie z) (x ∷ ys) → (b : Bool) → nat_lt (n x) (n y) ≡ b → filter (tie z) (cond b (y ∷ zs) (x ∷ y ∷ ys)) ≡ filter (tie z) (x ∷ y ∷ ys)
  stable_case z x y ys zs same true e =
      let small : n x < n y = grind (arith, nat_tests) in
      ap (λ ws. cond (tie z y) (y ∷ ws) ws) same ∙ shuffle (tie z x) (tie z y) x y (filter (tie z) ys) (not_both z x y small)
  stable_case z x y ys zs same false e = refl

  put_stable : (z x : X) (ys : List X) → filter (tie z) (put_falling n x ys) ≡ filter (tie z) (x ∷ ys)
  put_stable z x [] = refl
  put_stable z x (y ∷ ys) = stable_case z x y ys (put_falling n x ys) (put_stable z x ys) (nat_lt (n x) (n y)) refl

  pub falling_stable : (z : X) (xs : List X) → filter (tie z) (falling n xs) ≡ filter (tie z) xs
  falling_stable z [] = refl
  falling_stable z (x ∷ xs) = put_stable z x (falling n xs) ∙ ap (λ ys. cond (tie z x) (x ∷ ys) ys) (falling_stable z xs)

  -- a list that falls and has the items of another in their order, for each number, is the sort of that one
  pub sorted_is_falling : (xs ys : List X) → Falls ys → ((z : X) → filter (tie z) ys ≡ filter (tie z) xs) → ys ≡ falling n xs
  sorted_is_falling xs ys falls stable = same_falling ys (falling n xs) falls (falling_falls xs) (λ z. stable z ∙ sym (falling_stable z xs))

  -- ---- what a sort by the reverse of a number ensures

  falls_more : (x y : X) (ys : List X) → n y ≤ n x → Falls (y ∷ ys) → Falls (x ∷ y ∷ ys)
  falls_more x y ys le f = (All-cons (λ z. n z ≤ n x) y ys le (λ i d h. let l : n (get_or ys i d) ≤ n y = f.0 i d h in omega arith), f)

  pub falls_from_sort : (xs : List X) → ((k : ℕ) (d : X) → k + 1 < length xs → n (get_or xs (k + 1) d) ≤ n (get_or xs k d)) → Falls xs
  falls_from_sort [] up = tt
  falls_from_sort (x ∷ []) up = (λ i d h. absurd (omega arith), tt)
  falls_from_sort (x ∷ y ∷ xs) up =
      falls_more x y xs (up 0 x (omega arith)) (falls_from_sort (y ∷ xs) (λ k d h. let e : suc k + 1 ≡ suc (k + 1) = omega arith in subst (λ j. n (get_or (x ∷ y ∷ xs) j d) ≤ n (get_or (y ∷ xs) k d)) e (up (suc k) d (omega arith))))

filter_same : {X : Type 0} (p q : X → Bool) (xs : List X) → ((x : X) → p x ≡ q x) → filter p xs ≡ filter q xs
filter_same p q [] e = refl
filter_same p q (x ∷ xs) e = ap (λ b. cond b (x ∷ filter p xs) (filter p xs)) (e x) ∙ ap (λ ys. cond (q x) (x ∷ ys) ys) (filter_same p q xs e)

pub filters_same : {X : Type 0} (p q : X → Bool) (xs ys : List X) → ((x : X) → p x ≡ q x) → filter p xs ≡ filter p ys → filter q xs ≡ filter q ys
filters_same p q xs ys e f = sym (filter_same p q xs e) ∙ f ∙ filter_same p q ys e

-- neither of two numbers is below the other exactly where they are one
pub ties_are : (a b : ℕ) → (not (is_lt (nat_cmp b a)) && not (is_lt (nat_cmp a b))) ≡ (a == b)
ties_are a b = grind (arith, nat_tests)

pub not_below : (a b : ℕ) → is_lt (nat_cmp a b) ≡ false → b ≤ a
not_below a b e = grind (arith, nat_tests)

-- ---- the law of sorted vertices

-- what falls falls for each pair
pub falls_in_pairs : {X : Type 0} (n : X → ℕ) (xs : List X) → Falls n xs → AllPairs (λ q r. n r ≤ n q) xs
falls_in_pairs n [] falls = λ i j d h k. absurd (omega arith)
falls_in_pairs n (x ∷ xs) falls = AllPairs-cons (λ q r. n r ≤ n q) x xs falls.0 (falls_in_pairs n xs falls.1)
