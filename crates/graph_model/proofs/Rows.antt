-- Tests on the rows of tables: what some row passes, and how many pass.
use Rattle.std.proofs.Common.{◌≡◌, ℕ, zero, suc, ◌+◌, ◌<◌, ◌≤◌, Bool, true, false, ◌||◌, ◌&&◌, not, List, [], ◌∷◌, ◌++◌, Some, None, length, get_or, set, slice_get, remove, drop, refl, ap, sym, ◌∙◌, arith, sum_by, count_by, cond, filter, map}
use Rattle.std.specs.List.{list_any, refill, position, position_or_len}
use Rattle.std.proofs.lemmas.Bool.Decides.{nat_tests}
use Rattle.std.proofs.lemmas.List.{length_push, take_at}
use Rattle.std.proofs.lemmas.List.Sums.{sum_by-set, sum_by-cons, sum_by_push, get_or-le-sum_by}
use Rattle.std.proofs.lemmas.List.Folds.{list_any-append}

-- ---- tests

pub or_false : (a b : Bool) → (a || b) ≡ false → (a ≡ false) × (b ≡ false)
or_false true b e = cc
or_false false b e = (refl, e)

pub or_right : (a b : Bool) → b ≡ true → (a || b) ≡ true
or_right true b e = refl
or_right false b e = e

-- of two tests of which not both hold, the second fails where the first holds
pub and_false : (a b : Bool) → (a && b) ≡ false → a ≡ true → b ≡ false
and_false true b e f = e
and_false false b e f = cc

pub not_false : (b : Bool) → not b ≡ false → b ≡ true
not_false true e = refl
not_false false e = cc

pub counts_none : (b : Bool) → b ≡ false → cond {A = ℕ} b 1 0 ≡ 0
counts_none true e = cc
counts_none false e = refl

pub counts_one : (b : Bool) → b ≡ true → cond {A = ℕ} b 1 0 ≡ 1
counts_one true e = refl
counts_one false e = cc

pub if_false : {R : Type 0} (b : Bool) (x y : R) → b ≡ false → cond b x y ≡ y
if_false true x y e = cc
if_false false x y e = refl

pub if_true : {R : Type 0} (b : Bool) (x y : R) → b ≡ true → cond b x y ≡ x
if_true true x y e = refl
if_true false x y e = cc

-- ---- the rows of one table

pub count_cons : {R : Type 0} (p : R → Bool) (r : R) (rows : List R) → count_by p (r ∷ rows) ≡ cond {A = ℕ} (p r) 1 0 + count_by p rows
count_cons p r rows = sum_by-cons (λ x. cond {A = ℕ} (p x) 1 0) r rows

pub count_none : {R : Type 0} (p : R → Bool) (rows : List R) → list_any p rows ≡ false → count_by p rows ≡ 0
count_none p [] e = refl
count_none p (r ∷ rows) e =
    let parts : (p r ≡ false) × (list_any p rows ≡ false) = or_false _ _ e in
    let here = counts_none (p r) parts.0 in
    let rest : count_by p rows ≡ 0 = count_none p rows parts.1 in
    omega (arith, count_cons p r rows)

one_by : {R : Type 0} (p : R → Bool) (r : R) (rows : List R) → (list_any p rows ≡ true → 1 ≤ count_by p rows) → (t : Bool) → p r ≡ t → (t || list_any p rows) ≡ true → 1 ≤ count_by p (r ∷ rows)
one_by p r rows f true e h = omega (arith, count_cons p r rows, counts_one (p r) e)
one_by p r rows f false e h = omega (arith, count_cons p r rows, f h)

pub one_at_least : {R : Type 0} (p : R → Bool) (rows : List R) → list_any p rows ≡ true → 1 ≤ count_by p rows
one_at_least p [] e = cc
one_at_least p (r ∷ rows) e = one_by p r rows (one_at_least p rows) (p r) refl e

pub none_here : (b : Bool) (n : ℕ) → cond {A = ℕ} b 1 0 + n ≡ 0 → (b ≡ false) × (n ≡ 0)
none_here true n e = absurd (omega arith)
none_here false n e = (refl, omega arith)

pub only_later : (b : Bool) (n : ℕ) → cond {A = ℕ} b 1 0 + n ≤ 1 → 1 ≤ n → b ≡ false
only_later true n e f = absurd (omega arith)
only_later false n e f = refl

pub none_counted : {R : Type 0} (p : R → Bool) (rows : List R) → count_by p rows ≡ 0 → list_any p rows ≡ false
none_counted p [] e = refl
none_counted p (r ∷ rows) e =
    let parts = none_here (p r) (count_by p rows) (sym (count_cons p r rows) ∙ e) in
    ap (λ b. b || list_any p rows) parts.0 ∙ none_counted p rows parts.1

pub any_false_at : {R : Type 0} (p : R → Bool) (rows : List R) (i : ℕ) (d : R) → list_any p rows ≡ false → i < length rows → p (get_or rows i d) ≡ false
any_false_at p [] i d e within = absurd (omega arith)
any_false_at p (r ∷ rows) zero d e within = (or_false (p r) (list_any p rows) e).0
any_false_at p (r ∷ rows) (suc i) d e within = any_false_at p rows i d (or_false (p r) (list_any p rows) e).1 (omega arith)

pub any_at : {R : Type 0} (p : R → Bool) (rows : List R) (i : ℕ) (d : R) → i < length rows → p (get_or rows i d) ≡ true → list_any p rows ≡ true
any_at p [] i d within e = absurd (omega arith)
any_at p (r ∷ rows) zero d within e = ap (λ b. b || list_any p rows) e
any_at p (r ∷ rows) (suc i) d within e = or_right (p r) _ (any_at p rows i d (omega arith) e)

pub any_push : {R : Type 0} (p : R → Bool) (rows : List R) (r : R) → list_any p rows ≡ true → list_any p (rows ++ r ∷ []) ≡ true
any_push p rows r e = list_any-append p rows (r ∷ []) ∙ ap (λ b. b || list_any p (r ∷ [])) e

or_true : (a b : Bool) → b ≡ true → (a || (b || false)) ≡ true
or_true true b e = refl
or_true false true e = refl
or_true false false e = cc

pub any_last : {R : Type 0} (p : R → Bool) (rows : List R) (r : R) → p r ≡ true → list_any p (rows ++ r ∷ []) ≡ true
any_last p rows r e = list_any-append p rows (r ∷ []) ∙ or_true _ _ e

or_neither : (a b : Bool) → b ≡ false → (a || (b || false)) ≡ a
or_neither true b e = refl
or_neither false true e = cc
or_neither false false e = refl

pub any_push_apart : {R : Type 0} (p : R → Bool) (rows : List R) (r : R) → p r ≡ false → list_any p (rows ++ r ∷ []) ≡ list_any p rows
any_push_apart p rows r e = list_any-append p rows (r ∷ []) ∙ or_neither _ _ e

pub got : {R : Type 0} (rows : List R) (i : ℕ) (r d : R) → slice_get rows i ≡ Some r → (i < length rows) × (get_or rows i d ≡ r)
got [] i r d e = cc
got (x ∷ rows) zero r d e = (omega arith, cc)
got (x ∷ rows) (suc i) r d e =
    let rest = got rows i r d e in
    (omega arith, rest.1)

-- what a row at a place passes, some row passes
pub some_row : {R : Type 0} (p : R → Bool) (rows : List R) (i : ℕ) (a : R) → slice_get rows i ≡ Some a → p a ≡ true → list_any p rows ≡ true
some_row p rows i a at e =
    let x = got rows i a a at in
    any_at p rows i a x.0 (ap p x.1 ∙ e)

pub within_same : {X : Type 0} (xs : List X) (i : ℕ) (d e : X) → i < length xs → get_or xs i d ≡ get_or xs i e
within_same [] i d e within = absurd (omega arith)
within_same (x ∷ xs) zero d e within = refl
within_same (x ∷ xs) (suc i) d e within = within_same xs i d e (omega arith)

-- ---- the place of the one row that passes

place_by : (b : Bool) (n i : ℕ) → b ≡ true → i ≡ 0 → cond {A = ℕ} (not b) (1 + n) 0 ≡ i
place_by true n i e f = sym f
place_by false n i e f = cc

later_by : (b : Bool) (n i : ℕ) → b ≡ false → n ≡ i → cond {A = ℕ} (not b) (1 + n) 0 ≡ suc i
later_by true n i e f = cc
later_by false n i e f = omega arith

place_of_one : {R : Type 0} (p : R → Bool) (rows : List R) (i : ℕ) (d : R) → i < length rows → p (get_or rows i d) ≡ true → count_by p rows ≤ 1 → position_or_len p rows ≡ i
place_of_one p [] i d within at most = absurd (omega arith)
place_of_one p (r ∷ rows) zero d within at most = place_by (p r) (position_or_len p rows) zero at refl
place_of_one p (r ∷ rows) (suc i) d within at most =
    let there : 1 ≤ count_by p rows = omega (arith, get_or-le-sum_by (λ x. cond {A = ℕ} (p x) 1 0) rows i d (omega arith), counts_one (p (get_or rows i d)) at) in
    let here = only_later (p r) (count_by p rows) (omega (arith, count_cons p r rows)) there in
    later_by (p r) (position_or_len p rows) i here (place_of_one p rows i d (omega arith) at (omega (arith, count_cons p r rows)))

some_by : (b : Bool) (n i : ℕ) → b ≡ true → n ≡ i → cond b (Some n) None ≡ Some i
some_by true n i e f = ap Some f
some_by false n i e f = cc

pub position_of_one : {R : Type 0} (p : R → Bool) (rows : List R) (i : ℕ) (d : R) → i < length rows → p (get_or rows i d) ≡ true → count_by p rows ≤ 1 → position p rows ≡ Some i
position_of_one p rows i d within at most =
    let same = place_of_one p rows i d within at most in
    some_by _ _ i (grind (arith, nat_tests)) same

first_by : (b : Bool) (any : Bool) (n m : ℕ) → (any ≡ true → n < m) → (b || any) ≡ true → cond {A = ℕ} (not b) (1 + n) 0 < suc m
first_by true any n m f e = omega arith
first_by false any n m f e = omega (arith, f e)

pub first_within : {R : Type 0} (p : R → Bool) (rows : List R) → list_any p rows ≡ true → position_or_len p rows < length rows
first_within p [] e = cc
first_within p (r ∷ rows) e = first_by (p r) (list_any p rows) (position_or_len p rows) (length rows) (first_within p rows) e

some_is_not_none : {A : Type 0} (b : Bool) (x : A) → b ≡ true → cond b (Some x) None ≡ None → ⊥
some_is_not_none true x e f = cc
some_is_not_none false x e f = cc

pub has_position : {R : Type 0} (p : R → Bool) (rows : List R) → list_any p rows ≡ true → position p rows ≡ None → ⊥
has_position p rows e f = some_is_not_none _ _ (grind (arith, nat_tests, first_within p rows e)) f

-- ---- the one row that passes, taken out

pub keep_by : {R : Type 0} (b : Bool) (r : R) (xs ys : List R) → b ≡ false → xs ≡ ys → cond (not b) (r ∷ xs) xs ≡ r ∷ ys
keep_by true r xs ys e f = cc
keep_by false r xs ys e f = ap (λ l. r ∷ l) f

pub drop_by : {R : Type 0} (b : Bool) (r : R) (xs ys : List R) → b ≡ true → xs ≡ ys → cond (not b) (r ∷ xs) xs ≡ ys
drop_by true r xs ys e f = f
drop_by false r xs ys e f = cc

filter_none : {R : Type 0} (p : R → Bool) (rows : List R) → count_by p rows ≡ 0 → filter (λ r. not (p r)) rows ≡ rows
filter_none p [] e = refl
filter_none p (r ∷ rows) e =
    let parts = none_here (p r) (count_by p rows) (sym (count_cons p r rows) ∙ e) in
    keep_by (p r) r _ _ parts.0 (filter_none p rows parts.1)

pub remove_one : {R : Type 0} (p : R → Bool) (rows : List R) (i : ℕ) (d : R) → i < length rows → p (get_or rows i d) ≡ true → count_by p rows ≤ 1 → remove rows i ≡ filter (λ r. not (p r)) rows
remove_one p [] i d within at most = absurd (omega arith)
remove_one p (r ∷ rows) zero d within at most =
    let one = counts_one (p r) at in
    sym (drop_by (p r) r _ _ at (filter_none p rows (omega (arith, count_cons p r rows))))
remove_one p (r ∷ rows) (suc i) d within at most =
    let there : 1 ≤ count_by p rows = omega (arith, get_or-le-sum_by (λ x. cond {A = ℕ} (p x) 1 0) rows i d (omega arith), counts_one (p (get_or rows i d)) at) in
    let here = only_later (p r) (count_by p rows) (omega (arith, count_cons p r rows)) there in
    sym (keep_by (p r) r _ _ here (sym (remove_one p rows i d (omega arith) at (omega (arith, count_cons p r rows)))))

-- a sum over what is left is the sum without the item taken out
pub sum_by_remove : {R : Type 0} (f : R → ℕ) (rows : List R) (i : ℕ) (d : R) → i < length rows → sum_by f (remove rows i) + f (get_or rows i d) ≡ sum_by f rows
sum_by_remove f [] i d within = absurd (omega arith)
sum_by_remove f (r ∷ rows) zero d within = omega (arith, sum_by-cons f r rows)
sum_by_remove f (r ∷ rows) (suc i) d within =
    omega (arith, sum_by-cons f r rows, sum_by-cons f r (remove rows i), sum_by_remove f rows i d (omega arith))

length_by : {R : Type 0} (b : Bool) (r : R) (xs : List R) (n m : ℕ) → length xs + n ≡ m → length (cond (not b) (r ∷ xs) xs) + (cond {A = ℕ} b 1 0 + n) ≡ suc m
length_by true r xs n m e = omega arith
length_by false r xs n m e = omega arith

pub length_without : {R : Type 0} (p : R → Bool) (rows : List R) → length (filter (λ r. not (p r)) rows) + count_by p rows ≡ length rows
length_without p [] = refl
length_without p (r ∷ rows) =
    ap (λ n. length (filter (λ x. not (p x)) (r ∷ rows)) + n) (count_cons p r rows) ∙ length_by (p r) r _ _ _ (length_without p rows)

count_by_cases : {R : Type 0} (q : R → Bool) (b : Bool) (r : R) (xs : List R) (n : ℕ) → count_by q xs ≤ n → count_by q (cond b (r ∷ xs) xs) ≤ cond {A = ℕ} (q r) 1 0 + n
count_by_cases q true r xs n h = omega (arith, count_cons q r xs)
count_by_cases q false r xs n h = omega arith

pub count_filter_le : {R : Type 0} (q p : R → Bool) (rows : List R) → count_by q (filter p rows) ≤ count_by q rows
count_filter_le q p [] = omega arith
count_filter_le q p (r ∷ rows) =
    omega (arith, count_by_cases q (p r) r (filter p rows) (count_by q rows) (count_filter_le q p rows), count_cons q r rows)

any_by : {R : Type 0} (q : R → Bool) (b : Bool) (r : R) (xs ys : List R) → (q r ≡ true → b ≡ true) → (list_any q ys ≡ true → list_any q xs ≡ true) → (t : Bool) → q r ≡ t → (t || list_any q ys) ≡ true → list_any q (cond b (r ∷ xs) xs) ≡ true
any_by q true r xs ys f g true e h = ap (λ t. t || list_any q xs) e
any_by q true r xs ys f g false e h = ap (λ t. t || list_any q xs) e ∙ g h
any_by q false r xs ys f g true e h = absurd (let no_way : false ≡ true = f e in cc)
any_by q false r xs ys f g false e h = g h

-- a row that passes and is kept is still found
pub any_filter : {R : Type 0} (q p : R → Bool) (rows : List R) → ((r : R) → q r ≡ true → p r ≡ true) → list_any q rows ≡ true → list_any q (filter p rows) ≡ true
any_filter q p [] f e = e
any_filter q p (r ∷ rows) f e = any_by q (p r) r (filter p rows) rows (f r) (any_filter q p rows f) (q r) refl e

none_left_by : {R : Type 0} (p : R → Bool) (r : R) (xs : List R) (b : Bool) → p r ≡ b → list_any p xs ≡ false → list_any p (cond (not b) (r ∷ xs) xs) ≡ false
none_left_by p r xs true e f = f
none_left_by p r xs false e f = ap (λ b. b || list_any p xs) e ∙ f

both_fail : {R : Type 0} (q : R → Bool) (r : R) (b : Bool) (xs ys : List R) → (q r ≡ true → b ≡ true) → list_any q xs ≡ list_any q ys → (t : Bool) → q r ≡ t → list_any q (cond b (r ∷ xs) xs) ≡ (t || list_any q ys)
both_fail q r true xs ys f same t e = ap (λ a. a || list_any q xs) e ∙ ap (λ a. t || a) same
both_fail q r false xs ys f same true e = absurd (let no_way : false ≡ true = f e in cc)
both_fail q r false xs ys f same false e = same

-- a test whose rows are all kept finds the same
pub any_filter_same : {R : Type 0} (q p : R → Bool) (rows : List R) → ((r : R) → q r ≡ true → p r ≡ true) → list_any q (filter p rows) ≡ list_any q rows
any_filter_same q p [] f = refl
any_filter_same q p (r ∷ rows) f = both_fail q r (p r) (filter p rows) rows (f r) (any_filter_same q p rows f) (q r) refl

-- no row that passes is left
pub none_left : {R : Type 0} (p : R → Bool) (rows : List R) → list_any p (filter (λ r. not (p r)) rows) ≡ false
none_left p [] = refl
none_left p (r ∷ rows) = none_left_by p r _ (p r) refl (none_left p rows)

-- ---- the one row that passes, changed

map_none : {R : Type 0} (p : R → Bool) (g : R → R) (rows : List R) → count_by p rows ≡ 0 → map (λ r. cond (p r) (g r) r) rows ≡ rows
map_none p g [] e = refl
map_none p g (r ∷ rows) e =
    let parts = none_here (p r) (count_by p rows) (sym (count_cons p r rows) ∙ e) in
    ap (λ x. x ∷ map (λ y. cond (p y) (g y) y) rows) (if_false (p r) (g r) r parts.0) ∙ ap (λ xs. r ∷ xs) (map_none p g rows parts.1)

pub set_one : {R : Type 0} (p : R → Bool) (g : R → R) (rows : List R) (i : ℕ) (d : R) → i < length rows → p (get_or rows i d) ≡ true → count_by p rows ≤ 1 → set rows i (g (get_or rows i d)) ≡ map (λ r. cond (p r) (g r) r) rows
set_one p g [] i d within at most = absurd (omega arith)
set_one p g (r ∷ rows) zero d within at most =
    let one = counts_one (p r) at in
    sym (ap (λ x. x ∷ map (λ y. cond (p y) (g y) y) rows) (if_true (p r) (g r) r at)
    ∙ ap (λ xs. g r ∷ xs) (map_none p g rows (omega (arith, count_cons p r rows))))
set_one p g (r ∷ rows) (suc i) d within at most =
    let there : 1 ≤ count_by p rows = omega (arith, get_or-le-sum_by (λ x. cond {A = ℕ} (p x) 1 0) rows i d (omega arith), counts_one (p (get_or rows i d)) at) in
    let here = only_later (p r) (count_by p rows) (omega (arith, count_cons p r rows)) there in
    ap (λ xs. r ∷ xs) (set_one p g rows i d (omega arith) at (omega (arith, count_cons p r rows)))
    ∙ sym (ap (λ x. x ∷ map (λ y. cond (p y) (g y) y) rows) (if_false (p r) (g r) r here))

pub any_map : {R : Type 0} (q : R → Bool) (f : R → R) (rows : List R) → ((r : R) → q (f r) ≡ q r) → list_any q (map f rows) ≡ list_any q rows
any_map q f [] same = refl
any_map q f (r ∷ rows) same = ap (λ b. b || list_any q (map f rows)) (same r) ∙ ap (λ b. q r || b) (any_map q f rows same)

pub sum_map : {R : Type 0} (w : R → ℕ) (f : R → R) (rows : List R) → ((r : R) → w (f r) ≡ w r) → sum_by w (map f rows) ≡ sum_by w rows
sum_map w f [] same = refl
sum_map w f (r ∷ rows) same = omega (arith, sum_by-cons w (f r) (map f rows), sum_by-cons w r rows, same r, sum_map w f rows same)

pub count_map : {R : Type 0} (q : R → Bool) (f : R → R) (rows : List R) → ((r : R) → q (f r) ≡ q r) → count_by q (map f rows) ≡ count_by q rows
count_map q f rows same = sum_map (λ x. cond {A = ℕ} (q x) 1 0) f rows (λ r. ap (λ b. cond {A = ℕ} b 1 0) (same r))

pub refill_same : {X : Type 0} (xs ws : List X) → length ws ≡ length xs → refill (length xs) xs ws ≡ ws
refill_same xs ws e = take_at ws (drop (length ws) xs) (length xs) e

-- ---- the rows of all tables

-- a test that no row of no table passes counts none
pub count_nowhere : {R : Type 0} (p : R → Bool) (tables : List (List R)) → list_any (λ rows. list_any p rows) tables ≡ false → sum_by (λ rows. count_by p rows) tables ≡ 0
count_nowhere p [] e = refl
count_nowhere {R} p (rows ∷ tables) e =
    let parts : (list_any p rows ≡ false) × (list_any (λ (rows : List R). list_any p rows) tables ≡ false) = or_false _ _ e in
    let here : count_by p rows ≡ 0 = count_none p rows parts.0 in
    let rest : sum_by (λ (rows : List R). count_by p rows) tables ≡ 0 = count_nowhere p tables parts.1 in
    omega (arith, sum_by-cons (λ (rows : List R). count_by p rows) rows tables)

-- what a row at a table's end adds to a sum
pub sum_push : {R : Type 0} (w : R → ℕ) (tables : List (List R)) (t : ℕ) (r : R) → t < length tables → sum_by (λ rows. sum_by w rows) (set tables t (get_or tables t [] ++ r ∷ [])) ≡ sum_by (λ rows. sum_by w rows) tables + w r
sum_push {R} w tables t r within =
    omega (arith, sum_by-set (λ (rows : List R). sum_by w rows) tables t (get_or tables t [] ++ r ∷ []) [] within, sum_by_push w (get_or tables t []) r)

pub total_push : {R : Type 0} (tables : List (List R)) (t : ℕ) (r : R) → t < length tables → sum_by length (set tables t (get_or tables t [] ++ r ∷ [])) ≡ sum_by length tables + 1
total_push tables t r within =
    omega (arith, sum_by-set length tables t (get_or tables t [] ++ r ∷ []) [] within, length_push (get_or tables t []) r)

once_by : {R : Type 0} (p : R → Bool) (tables : List (List R)) (t : ℕ) (r : R) (b : Bool) → p r ≡ b → t < length tables → sum_by (λ rows. count_by p rows) tables ≤ 1 → (p r ≡ true → list_any (λ rows. list_any p rows) tables ≡ false) → sum_by (λ rows. count_by p rows) (set tables t (get_or tables t [] ++ r ∷ [])) ≤ 1
once_by {R} p tables t r true e within most new =
    let none : sum_by (λ (rows : List R). count_by p rows) tables ≡ 0 = count_nowhere p tables (new e) in
    let one = counts_one (p r) e in
    omega (arith, sum_push (λ x. cond {A = ℕ} (p x) 1 0) tables t r within)
once_by {R} p tables t r false e within most new =
    let none = counts_none (p r) e in
    omega (arith, sum_push (λ x. cond {A = ℕ} (p x) 1 0) tables t r within)

-- a key that stood nowhere stands once
pub count_once : {R : Type 0} (p : R → Bool) (tables : List (List R)) (t : ℕ) (r : R) → t < length tables → sum_by (λ rows. count_by p rows) tables ≤ 1 → (p r ≡ true → list_any (λ rows. list_any p rows) tables ≡ false) → sum_by (λ rows. count_by p rows) (set tables t (get_or tables t [] ++ r ∷ [])) ≤ 1
count_once p tables t r = once_by p tables t r (p r) refl

-- what some row of a table passes, some row passes after the rows of a table changed, where they pass it as before
pub rows_change : {R : Type 0} (q : R → Bool) (tables : List (List R)) (t s : ℕ) (rows : List R) → (list_any q (get_or tables t []) ≡ true → list_any q rows ≡ true) → list_any q (get_or tables s []) ≡ true → list_any q (get_or (set tables t rows) s []) ≡ true
rows_change q [] t s rows f e = e
rows_change q (x ∷ tables) zero zero rows f e = f e
rows_change q (x ∷ tables) zero (suc s) rows f e = e
rows_change q (x ∷ tables) (suc t) zero rows f e = e
rows_change q (x ∷ tables) (suc t) (suc s) rows f e = rows_change q tables t s rows f e

-- the same where only a test of that very table matters
pub rows_change_where : {R : Type 0} (q : R → Bool) (tables : List (List R)) (t s : ℕ) (rows : List R) → (s ≡ t → list_any q (get_or tables t []) ≡ true → list_any q rows ≡ true) → list_any q (get_or tables s []) ≡ true → list_any q (get_or (set tables t rows) s []) ≡ true
rows_change_where q [] t s rows f e = e
rows_change_where q (x ∷ tables) zero zero rows f e = f refl e
rows_change_where q (x ∷ tables) zero (suc s) rows f e = e
rows_change_where q (x ∷ tables) (suc t) zero rows f e = e
rows_change_where q (x ∷ tables) (suc t) (suc s) rows f e = rows_change_where q tables t s rows (λ same. f (ap (λ n. suc n) same)) e

pub rows_missing : {R : Type 0} (tables : List (List R)) (t : ℕ) → slice_get tables t ≡ None → get_or tables t [] ≡ []
rows_missing [] t e = refl
rows_missing (rows ∷ tables) zero e = cc
rows_missing (rows ∷ tables) (suc t) e = rows_missing tables t e

-- what some row passes of the rows that a table is given, some row of the table passes
pub any_given : {R : Type 0} (q : R → Bool) (tables : List (List R)) (t : ℕ) (rows : List R) → t < length tables → list_any q rows ≡ true → list_any q (get_or (set tables t rows) t []) ≡ true
any_given q [] t rows within e = absurd (omega arith)
any_given q (x ∷ tables) zero rows within e = e
any_given q (x ∷ tables) (suc t) rows within e = any_given q tables t rows (omega arith) e

-- what some row of a table passes is counted
pub counted_somewhere : {R : Type 0} (p : R → Bool) (tables : List (List R)) (t : ℕ) → list_any p (get_or tables t []) ≡ true → 1 ≤ sum_by (λ rows. count_by p rows) tables
counted_somewhere p [] t e = cc
counted_somewhere {R} p (rows ∷ tables) zero e = omega (arith, sum_by-cons (λ (rows : List R). count_by p rows) rows tables, one_at_least p rows e)
counted_somewhere {R} p (rows ∷ tables) (suc t) e = omega (arith, sum_by-cons (λ (rows : List R). count_by p rows) rows tables, counted_somewhere p tables t e)

-- a test that is passed once is passed in one table
pub one_table : {R : Type 0} (p : R → Bool) (tables : List (List R)) (s t : ℕ) → sum_by (λ rows. count_by p rows) tables ≤ 1 → list_any p (get_or tables s []) ≡ true → list_any p (get_or tables t []) ≡ true → s ≡ t
one_table p [] s t once e f = cc
one_table p (rows ∷ tables) zero zero once e f = refl
one_table {R} p (rows ∷ tables) zero (suc t) once e f = absurd (omega (arith, sum_by-cons (λ (rows : List R). count_by p rows) rows tables, one_at_least p rows e, counted_somewhere p tables t f))
one_table {R} p (rows ∷ tables) (suc s) zero once e f = absurd (omega (arith, sum_by-cons (λ (rows : List R). count_by p rows) rows tables, one_at_least p rows f, counted_somewhere p tables s e))
one_table {R} p (rows ∷ tables) (suc s) (suc t) once e f = ap (λ n. suc n) (one_table p tables s t (omega (arith, sum_by-cons (λ (rows : List R). count_by p rows) rows tables)) e f)

-- no table has what no table had, after the rows of one changed
pub nowhere_after : {R : Type 0} (q : R → Bool) (tables : List (List R)) (t : ℕ) (rows : List R) → list_any q rows ≡ false → list_any (λ rows. list_any q rows) tables ≡ false → list_any (λ rows. list_any q rows) (set tables t rows) ≡ false
nowhere_after q [] t rows f e = e
nowhere_after {R} q (x ∷ tables) zero rows f e = ap (λ b. b || list_any (λ (rows : List R). list_any q rows) tables) f ∙ (or_false (list_any q x) (list_any (λ (rows : List R). list_any q rows) tables) e).1
nowhere_after {R} q (x ∷ tables) (suc t) rows f e =
    let parts = or_false (list_any q x) (list_any (λ (rows : List R). list_any q rows) tables) e in
    ap (λ b. b || list_any (λ (rows : List R). list_any q rows) (set tables t rows)) parts.0 ∙ nowhere_after q tables t rows f parts.1

pub nowhere_here : {R : Type 0} (q : R → Bool) (tables : List (List R)) (t : ℕ) → list_any (λ rows. list_any q rows) tables ≡ false → list_any q (get_or tables t []) ≡ false
nowhere_here q [] t e = refl
nowhere_here {R} q (x ∷ tables) zero e = (or_false (list_any q x) (list_any (λ (rows : List R). list_any q rows) tables) e).0
nowhere_here {R} q (x ∷ tables) (suc t) e = nowhere_here q tables t (or_false (list_any q x) (list_any (λ (rows : List R). list_any q rows) tables) e).1

or_left : (a b : Bool) → a ≡ true → (a || b) ≡ true
or_left true b e = refl
or_left false b e = cc

-- what some row of a table passes, some row of some table passes
pub somewhere : {R : Type 0} (p : R → Bool) (tables : List (List R)) (t : ℕ) → list_any p (get_or tables t []) ≡ true → list_any (λ rows. list_any p rows) tables ≡ true
somewhere p [] t e = e
somewhere p (rows ∷ tables) zero e = or_left _ _ e
somewhere p (rows ∷ tables) (suc t) e = or_right _ _ (somewhere p tables t e)

-- a test that counts none is passed nowhere
pub counted_nowhere : {R : Type 0} (p : R → Bool) (tables : List (List R)) → sum_by (λ rows. count_by p rows) tables ≡ 0 → list_any (λ rows. list_any p rows) tables ≡ false
counted_nowhere p [] e = refl
counted_nowhere {R} p (rows ∷ tables) e =
    let all = sum_by-cons (λ (rows : List R). count_by p rows) rows tables in
    ap (λ b. b || list_any (λ (rows : List R). list_any p rows) tables) (none_counted p rows (omega arith)) ∙ counted_nowhere p tables (omega arith)

-- a test that is passed once is passed nowhere after the rows that pass it were taken out of the table that has one
pub gone : {R : Type 0} (p : R → Bool) (tables : List (List R)) (t : ℕ) → t < length tables → sum_by (λ rows. count_by p rows) tables ≤ 1 → list_any p (get_or tables t []) ≡ true → list_any (λ rows. list_any p rows) (set tables t (filter (λ r. not (p r)) (get_or tables t []))) ≡ false
gone {R} p tables t within once there =
    let left = count_none p (filter (λ r. not (p r)) (get_or tables t [])) (none_left p (get_or tables t [])) in
    counted_nowhere p (set tables t (filter (λ r. not (p r)) (get_or tables t []))) (omega (arith, sum_by-set (λ (rows : List R). count_by p rows) tables t (filter (λ r. not (p r)) (get_or tables t [])) [] within, one_at_least p (get_or tables t []) there))

pub none_at : {X : Type 0} (xs : List X) (i : ℕ) (d : X) → slice_get xs i ≡ None → get_or xs i d ≡ d
none_at [] i d e = refl
none_at (x ∷ xs) zero d e = cc
none_at (x ∷ xs) (suc i) d e = none_at xs i d e
