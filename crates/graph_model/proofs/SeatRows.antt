-- What is filtered out of a list and mapped, after an item comes, leaves or changes: rows out of seats.
use Rattle.std.proofs.Common.{◌≡◌, ℕ, ℤ, zero, suc, ◌+◌, ◌<◌, ◌≤◌, Bool, true, false, ◌||◌, ◌&&◌, not, List, [], ◌∷◌, ◌++◌, length, get_or, set, take, refl, ap, sym, ◌∙◌, subst, arith, cond, map, filter, count_by, sum_by}
use Rattle.std.specs.List.{list_any, zip}
use Rattle.std.specs.Ordering.{int_eq}
use Rattle.std.proofs.lemmas.List.{map-append, length-append, append-nil, take_more}
use Rattle.std.proofs.lemmas.List.Sums.{sum_by-cons, get_or-le-sum_by}
use Rattle.std.proofs.lemmas.List.Elements.{filter-append, filter_more}
use Rattle.graph_model.specs.Keys.{without_key, change_at_key}
use Rattle.graph_model.proofs.Rows.{and_false, counts_one, count_cons, keep_by, drop_by, if_true, if_false, none_here, only_later}

module _ {S : Type 0} (p : S → Bool) where
  one_by : (y : S) (b : Bool) → b ≡ true → cond b (y ∷ []) [] ≡ y ∷ []
  one_by y true e = refl
  one_by y false e = cc

  -- an item more that passes
  pub filter_push : (xs : List S) (y : S) → p y ≡ true → filter p (xs ++ y ∷ []) ≡ filter p xs ++ y ∷ []
  filter_push xs y e = filter-append p xs (y ∷ []) ∙ ap (λ l. filter p xs ++ l) (one_by y (p y) e)

  module _ (q : S → Bool) where
    kept_by : (x : S) (xs : List S) (b : Bool) → p x ≡ b → (p x && q x) ≡ false → filter (λ s. not (q s)) (filter p xs) ≡ filter p xs → filter (λ s. not (q s)) (cond b (x ∷ filter p xs) (filter p xs)) ≡ cond b (x ∷ filter p xs) (filter p xs)
    kept_by x xs true e apart rest = keep_by (q x) x (filter (λ s. not (q s)) (filter p xs)) (filter p xs) (and_false (p x) (q x) apart e) rest
    kept_by x xs false e apart rest = rest

    -- where none passes both tests
    pub kept_all : (xs : List S) → count_by (λ s. p s && q s) xs ≡ 0 → filter (λ s. not (q s)) (filter p xs) ≡ filter p xs
    kept_all [] e = refl
    kept_all (x ∷ xs) e =
        let parts = none_here (p x && q x) (count_by (λ s. p s && q s) xs) (sym (count_cons (λ s. p s && q s) x xs) ∙ e) in
        kept_by x xs (p x) refl parts.0 (kept_all xs parts.1)

    both : (a b : Bool) → a ≡ true → b ≡ true → (a && b) ≡ true
    both true b e f = f
    both false b e f = cc

    later_by : (x : S) (xs ls : List S) (b : Bool) → p x ≡ b → (p x && q x) ≡ false → ls ≡ filter (λ s. not (q s)) (filter p xs) → cond b (x ∷ ls) ls ≡ filter (λ s. not (q s)) (cond b (x ∷ filter p xs) (filter p xs))
    later_by x xs ls true e apart rest = sym (keep_by (q x) x (filter (λ s. not (q s)) (filter p xs)) ls (and_false (p x) (q x) apart e) (sym rest))
    later_by x xs ls false e apart rest = rest

    -- the one that passes both, in whose place another one stands that does not pass
    pub left_one : (xs : List S) (i : ℕ) (y d : S) → i < length xs → p (get_or xs i d) ≡ true → q (get_or xs i d) ≡ true → p y ≡ false → count_by (λ s. p s && q s) xs ≤ 1 → filter p (set xs i y) ≡ filter (λ s. not (q s)) (filter p xs)
    left_one [] i y d within a b gone once = absurd (omega arith)
    left_one (x ∷ xs) zero y d within a b gone once =
        let one = counts_one (p x && q x) (both (p x) (q x) a b) in
        let none : count_by (λ s. p s && q s) xs ≡ 0 = omega (arith, count_cons (λ s. p s && q s) x xs) in
        if_false (p y) (y ∷ filter p xs) (filter p xs) gone
        ∙ sym (ap (filter (λ s. not (q s))) (if_true (p x) (x ∷ filter p xs) (filter p xs) a) ∙ drop_by (q x) x (filter (λ s. not (q s)) (filter p xs)) (filter p xs) b (kept_all xs none))
    left_one (x ∷ xs) (suc i) y d within a b gone once =
        let one = counts_one (p (get_or xs i d) && q (get_or xs i d)) (both (p (get_or xs i d)) (q (get_or xs i d)) a b) in
        let there : 1 ≤ count_by (λ s. p s && q s) xs = omega (arith, get_or-le-sum_by (λ s. cond {A = ℕ} (p s && q s) 1 0) xs i d (omega arith)) in
        let here = only_later (p x && q x) (count_by (λ s. p s && q s) xs) (omega (arith, count_cons (λ s. p s && q s) x xs)) there in
        later_by x xs (filter p (set xs i y)) (p x) refl here (left_one xs i y d (omega arith) a b gone (omega (arith, count_cons (λ s. p s && q s) x xs)))

    module _ (f : S → S) where
      stays_by : (x : S) (xs : List S) (b : Bool) → p x ≡ b → (p x && q x) ≡ false → map (λ s. cond (q s) (f s) s) (filter p xs) ≡ filter p xs → map (λ s. cond (q s) (f s) s) (cond b (x ∷ filter p xs) (filter p xs)) ≡ cond b (x ∷ filter p xs) (filter p xs)
      stays_by x xs true e apart rest =
          ap (λ y. y ∷ map (λ s. cond (q s) (f s) s) (filter p xs)) (if_false (q x) (f x) x (and_false (p x) (q x) apart e)) ∙ ap (λ l. x ∷ l) rest
      stays_by x xs false e apart rest = rest

      all_stay : (xs : List S) → count_by (λ s. p s && q s) xs ≡ 0 → map (λ s. cond (q s) (f s) s) (filter p xs) ≡ filter p xs
      all_stay [] e = refl
      all_stay (x ∷ xs) e =
          let parts = none_here (p x && q x) (count_by (λ s. p s && q s) xs) (sym (count_cons (λ s. p s && q s) x xs) ∙ e) in
          stays_by x xs (p x) refl parts.0 (all_stay xs parts.1)

      set_later_by : (x : S) (xs ls : List S) (b : Bool) → p x ≡ b → (p x && q x) ≡ false → ls ≡ map (λ s. cond (q s) (f s) s) (filter p xs) → cond b (x ∷ ls) ls ≡ map (λ s. cond (q s) (f s) s) (cond b (x ∷ filter p xs) (filter p xs))
      set_later_by x xs ls true e apart rest =
          ap (λ l. x ∷ l) rest ∙ ap (λ y. y ∷ map (λ s. cond (q s) (f s) s) (filter p xs)) (sym (if_false (q x) (f x) x (and_false (p x) (q x) apart e)))
      set_later_by x xs ls false e apart rest = rest

      -- the one that passes both, changed so that it still passes
      pub changed_one : (xs : List S) (i : ℕ) (d : S) → i < length xs → p (get_or xs i d) ≡ true → q (get_or xs i d) ≡ true → p (f (get_or xs i d)) ≡ true → count_by (λ s. p s && q s) xs ≤ 1 → filter p (set xs i (f (get_or xs i d))) ≡ map (λ s. cond (q s) (f s) s) (filter p xs)
      changed_one [] i d within a b stays once = absurd (omega arith)
      changed_one (x ∷ xs) zero d within a b stays once =
          let one = counts_one (p x && q x) (both (p x) (q x) a b) in
          let none : count_by (λ s. p s && q s) xs ≡ 0 = omega (arith, count_cons (λ s. p s && q s) x xs) in
          if_true (p (f x)) (f x ∷ filter p xs) (filter p xs) stays
          ∙ sym (ap (map (λ s. cond (q s) (f s) s)) (if_true (p x) (x ∷ filter p xs) (filter p xs) a)
          ∙ ap (λ y. y ∷ map (λ s. cond (q s) (f s) s) (filter p xs)) (if_true (q x) (f x) x b)
          ∙ ap (λ l. f x ∷ l) (all_stay xs none))
      changed_one (x ∷ xs) (suc i) d within a b stays once =
          let one = counts_one (p (get_or xs i d) && q (get_or xs i d)) (both (p (get_or xs i d)) (q (get_or xs i d)) a b) in
          let there : 1 ≤ count_by (λ s. p s && q s) xs = omega (arith, get_or-le-sum_by (λ s. cond {A = ℕ} (p s && q s) 1 0) xs i d (omega arith)) in
          let here = only_later (p x && q x) (count_by (λ s. p s && q s) xs) (omega (arith, count_cons (λ s. p s && q s) x xs)) there in
          set_later_by x xs (filter p (set xs i (f (get_or xs i d)))) (p x) refl here (changed_one xs i d (omega arith) a b stays (omega (arith, count_cons (λ s. p s && q s) x xs)))

-- ---- rows of the items that pass

module _ {S R : Type 0} (row : S → R) where
  keep_row : (x : S) (xs : List S) (b : Bool) → map row (cond b (x ∷ xs) xs) ≡ cond b (row x ∷ map row xs) (map row xs)
  keep_row x xs true = refl
  keep_row x xs false = refl

  pub filter_rows : (t : R → Bool) (xs : List S) → map row (filter (λ s. t (row s)) xs) ≡ filter t (map row xs)
  filter_rows t [] = refl
  filter_rows t (x ∷ xs) =
      keep_row x (filter (λ s. t (row s)) xs) (t (row x)) ∙ ap (λ l. cond (t (row x)) (row x ∷ l) l) (filter_rows t xs)

  change_row : (f : S → S) (change : R → R) (s : S) (b : Bool) → row (f s) ≡ change (row s) → row (cond b (f s) s) ≡ cond b (change (row s)) (row s)
  change_row f change s true e = e
  change_row f change s false e = refl

  change_rows : (f : S → S) (change : R → R) (t : R → Bool) (xs : List S) → ((s : S) → row (f s) ≡ change (row s)) → map row (map (λ s. cond (t (row s)) (f s) s) xs) ≡ map (λ r. cond (t r) (change r) r) (map row xs)
  change_rows f change t [] same = refl
  change_rows f change t (x ∷ xs) same =
      ap (λ y. y ∷ map row (map (λ s. cond (t (row s)) (f s) s) xs)) (change_row f change x (t (row x)) (same x)) ∙ ap (λ l. cond (t (row x)) (change (row x)) (row x) ∷ l) (change_rows f change t xs same)

  module _ (p : S → Bool) where
    any_by : (t : R → Bool) (x : S) (xs : List S) (b : Bool) → list_any t (map row (filter p xs)) ≡ list_any (λ s. p s && t (row s)) xs → list_any t (map row (cond b (x ∷ filter p xs) (filter p xs))) ≡ ((b && t (row x)) || list_any (λ s. p s && t (row s)) xs)
    any_by t x xs true e = ap (λ b. t (row x) || b) e
    any_by t x xs false e = e

    pub any_rows : (t : R → Bool) (xs : List S) → list_any t (map row (filter p xs)) ≡ list_any (λ s. p s && t (row s)) xs
    any_rows t [] = refl
    any_rows t (x ∷ xs) = any_by t x xs (p x) (any_rows t xs)

    count_by_case : (t : R → Bool) (x : S) (xs : List S) (b : Bool) → count_by t (map row (filter p xs)) ≡ count_by (λ s. p s && t (row s)) xs → count_by t (map row (cond b (x ∷ filter p xs) (filter p xs))) ≡ cond {A = ℕ} (b && t (row x)) 1 0 + count_by (λ s. p s && t (row s)) xs
    count_by_case t x xs true e = count_cons t (row x) (map row (filter p xs)) ∙ ap (λ n. cond {A = ℕ} (t (row x)) 1 0 + n) e
    count_by_case t x xs false e = omega (arith, e)

    pub count_rows : (t : R → Bool) (xs : List S) → count_by t (map row (filter p xs)) ≡ count_by (λ s. p s && t (row s)) xs
    count_rows t [] = refl
    count_rows t (x ∷ xs) = count_by_case t x xs (p x) (count_rows t xs) ∙ sym (count_cons (λ s. p s && t (row s)) x xs)

    pub rows_push : (xs : List S) (y : S) → p y ≡ true → map row (filter p (xs ++ y ∷ [])) ≡ map row (filter p xs) ++ row y ∷ []
    rows_push xs y e = ap (map row) (filter_push p xs y e) ∙ map-append row (filter p xs) (y ∷ [])

    module _ (key : R → ℤ) (k : ℤ) where
      pub rows_left : (xs : List S) (i : ℕ) (y d : S) → i < length xs → p (get_or xs i d) ≡ true → int_eq (key (row (get_or xs i d))) k ≡ true → p y ≡ false → count_by (λ s. p s && int_eq (key (row s)) k) xs ≤ 1 → map row (filter p (set xs i y)) ≡ without_key key k (map row (filter p xs))
      rows_left xs i y d within a b gone once =
          ap (map row) (left_one p (λ s. int_eq (key (row s)) k) xs i y d within a b gone once) ∙ filter_rows (λ r. not (int_eq (key r) k)) (filter p xs)

      pub rows_changed : (f : S → S) (change : R → R) (xs : List S) (i : ℕ) (d : S) → i < length xs → p (get_or xs i d) ≡ true → int_eq (key (row (get_or xs i d))) k ≡ true → p (f (get_or xs i d)) ≡ true → count_by (λ s. p s && int_eq (key (row s)) k) xs ≤ 1 → ((s : S) → row (f s) ≡ change (row s)) → map row (filter p (set xs i (f (get_or xs i d)))) ≡ change_at_key key k change (map row (filter p xs))
      rows_changed f change xs i d within a b stays once same =
          ap (map row) (changed_one p (λ s. int_eq (key (row s)) k) f xs i d within a b stays once) ∙ change_rows f change (λ r. int_eq (key r) k) (filter p xs) same

-- ---- row by row

none_by : {S : Type 0} (y : S) (b : Bool) → b ≡ false → cond b (y ∷ []) [] ≡ []
none_by y true e = cc
none_by y false e = refl

pub one_row : {S R : Type 0} (row : S → R) (p : S → Bool) (s : S) → p s ≡ true → map row (filter p (s ∷ [])) ≡ row s ∷ []
one_row row p s e = ap (map row) (one_by p s (p s) e)

pub no_row : {S R : Type 0} (row : S → R) (p : S → Bool) (rows : List R) (s : S) → p s ≡ false → rows ≡ rows ++ map row (filter p (s ∷ []))
no_row row p rows s e = sym (ap (λ l. rows ++ map row l) (none_by s (p s) e) ∙ append-nil rows)

pub rows_more : {S R : Type 0} (row : S → R) (p : S → Bool) (xs : List S) (i : ℕ) (d : S) → i < length xs → map row (filter p (take (i + 1) xs)) ≡ map row (filter p (take i xs)) ++ map row (filter p (get_or xs i d ∷ []))
rows_more row p xs i d within =
    ap (λ l. map row (filter p l)) (take_more xs i d within)
    ∙ ap (map row) (filter-append p (take i xs) (get_or xs i d ∷ []))
    ∙ map-append row (filter p (take i xs)) (filter p (get_or xs i d ∷ []))

pub rows_next : {S R : Type 0} (row : S → R) (p : S → Bool) (xs : List S) (i : ℕ) (d : S) → i < length xs → p (get_or xs i d) ≡ true → map row (filter p (take (i + 1) xs)) ≡ map row (filter p (take i xs)) ++ row (get_or xs i d) ∷ []
rows_next row p xs i d within e =
    ap (λ l. map row (filter p l)) (take_more xs i d within) ∙ rows_push row p (take i xs) (get_or xs i d) e

pub rows_skip : {S R : Type 0} (row : S → R) (p : S → Bool) (xs : List S) (i : ℕ) (d : S) → i < length xs → p (get_or xs i d) ≡ false → map row (filter p (take (i + 1) xs)) ≡ map row (filter p (take i xs))
rows_skip row p xs i d within e =
    ap (map row) (filter_more p xs i d within ∙ ap (λ l. filter p (take i xs) ++ l) (none_by (get_or xs i d) (p (get_or xs i d)) e) ∙ append-nil (filter p (take i xs)))

-- two ways to a row that agree where an item passes
pub rows_same : {S R : Type 0} (f g : S → R) (p : S → Bool) (xs : List S) → ((i : ℕ) (d : S) → i < length xs → p (get_or xs i d) ≡ true → f (get_or xs i d) ≡ g (get_or xs i d)) → map f (filter p xs) ≡ map g (filter p xs)
rows_same f g p [] same = refl
rows_same {S} f g p (x ∷ xs) same =
    by_case (p x) refl (rows_same f g p xs (λ i d h. same (suc i) d (omega arith)))
  where
    by_case : (b : Bool) → p x ≡ b → map f (filter p xs) ≡ map g (filter p xs) → map f (cond b (x ∷ filter p xs) (filter p xs)) ≡ map g (cond b (x ∷ filter p xs) (filter p xs))
    by_case true e rest = ap (λ y. y ∷ map f (filter p xs)) (same 0 x (omega arith) e) ∙ ap (λ l. g x ∷ l) rest
    by_case false e rest = rest

-- ---- two lists side by side, of which the second may be longer

pub zip_firsts : {A B : Type 0} (xs : List A) (ys : List B) → length xs ≤ length ys → map (λ p. p.0) (zip xs ys) ≡ xs
zip_firsts [] ys h = refl
zip_firsts (x ∷ xs) [] h = absurd (omega arith)
zip_firsts (x ∷ xs) (y ∷ ys) h = ap (λ l. x ∷ l) (zip_firsts xs ys (omega arith))

pub length_zip : {A B : Type 0} (xs : List A) (ys : List B) → length xs ≤ length ys → length (zip xs ys) ≡ length xs
length_zip [] ys h = refl
length_zip (x ∷ xs) [] h = absurd (omega arith)
length_zip (x ∷ xs) (y ∷ ys) h = ap (λ n. suc n) (length_zip xs ys (omega arith))

pub zip_at : {A B : Type 0} (xs : List A) (ys : List B) (i : ℕ) (a : A) (b : B) → i < length xs → length xs ≤ length ys → get_or (zip xs ys) i (a, b) ≡ (get_or xs i a, get_or ys i b)
zip_at [] ys i a b within h = absurd (omega arith)
zip_at (x ∷ xs) [] i a b within h = absurd (omega arith)
zip_at (x ∷ xs) (y ∷ ys) zero a b within h = refl
zip_at (x ∷ xs) (y ∷ ys) (suc i) a b within h = zip_at xs ys i a b (omega arith) (omega arith)

pub zip_set : {A B : Type 0} (xs : List A) (ys : List B) (i : ℕ) (x : A) (b : B) → i < length xs → length xs ≤ length ys → zip (set xs i x) ys ≡ set (zip xs ys) i (x, get_or ys i b)
zip_set [] ys i x b within h = absurd (omega arith)
zip_set (z ∷ xs) [] i x b within h = absurd (omega arith)
zip_set (z ∷ xs) (y ∷ ys) zero x b within h = refl
zip_set (z ∷ xs) (y ∷ ys) (suc i) x b within h = ap (λ l. (z, y) ∷ l) (zip_set xs ys i x b (omega arith) (omega arith))

same_head : {A : Type 0} (x y : A) (xs ys : List A) → x ∷ xs ≡ y ∷ ys → x ≡ y
same_head x y xs ys e = cc

same_tail : {A : Type 0} (x y : A) (xs ys : List A) → x ∷ xs ≡ y ∷ ys → xs ≡ ys
same_tail x y xs ys e = cc

-- only as much of the second counts as the first is long
pub zip_same : {A B : Type 0} (xs : List A) (ys zs : List B) → length xs ≤ length ys → take (length xs) zs ≡ take (length xs) ys → zip xs zs ≡ zip xs ys
zip_same [] ys zs h e = refl
zip_same (x ∷ xs) [] zs h e = absurd (omega arith)
zip_same (x ∷ xs) (y ∷ ys) [] h e = cc
zip_same (x ∷ xs) (y ∷ ys) (z ∷ zs) h e =
    ap (λ b. (x, b) ∷ zip xs zs) (same_head z y _ _ e) ∙ ap (λ l. (x, y) ∷ l) (zip_same xs ys zs (omega arith) (same_tail z y _ _ e))

-- one more of each
pub zip_push : {A B : Type 0} (xs : List A) (ys zs : List B) (x : A) (y : B) → length xs ≤ length ys → take (suc (length xs)) zs ≡ take (length xs) ys ++ y ∷ [] → zip (xs ++ x ∷ []) zs ≡ zip xs ys ++ (x, y) ∷ []
zip_push [] ys [] x y h e = cc
zip_push [] ys (z ∷ zs) x y h e = ap (λ b. (x, b) ∷ []) (same_head z y [] [] e)
zip_push (w ∷ xs) [] zs x y h e = absurd (omega arith)
zip_push (w ∷ xs) (v ∷ ys) [] x y h e = cc
zip_push (w ∷ xs) (v ∷ ys) (z ∷ zs) x y h e =
    ap (λ b. (w, b) ∷ zip (xs ++ x ∷ []) zs) (same_head z v _ _ e) ∙ ap (λ l. (w, v) ∷ l) (zip_push xs ys zs x y (omega arith) (same_tail z v _ _ e))
