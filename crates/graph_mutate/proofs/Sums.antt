-- sums, counts and tests over lists that change
use Rattle.std.proofs.Common.{◌≡◌, ℕ, ℤ, zero, suc, ◌+◌, ◌≤◌, Bool, ◌||◌, ◌&&◌, List, [], ◌∷◌, map, refl, ap, sym, ◌∙◌, arith, sum_by, count_by, cond}
use Rattle.std.specs.List.{AllZip, list_any, list_all}
use Rattle.std.proofs.lemmas.List.Sums.{sum_by-cons}
use Rattle.graph_schema.specs.declared.schema.Keys.{Keys}
use Rattle.graph_schema.specs.declared.schema.Keys.TheVariants.{Whole, PerTable}
use Rattle.graph_model.specs.Keys.{rows_at, count_in, AreDistinct}

pub sum_same : {X Y : Type 0} (f : Y → ℕ) (h : X → Y) (q : X → ℕ) (xs : List X) → ((x : X) → f (h x) ≡ q x) → sum_by f (map h xs) ≡ sum_by q xs
sum_same f h q [] e = refl
sum_same f h q (x ∷ xs) e = sum_by-cons f (h x) (map h xs) ∙ ap (λ n. n + sum_by f (map h xs)) (e x) ∙ ap (λ n. q x + n) (sum_same f h q xs e) ∙ sym (sum_by-cons q x xs)

pub count_same : {X Y : Type 0} (p : Y → Bool) (h : X → Y) (q : X → Bool) (xs : List X) → ((x : X) → p (h x) ≡ q x) → count_by p (map h xs) ≡ count_by q xs
count_same p h q xs e = sum_same (λ y. cond {A = ℕ} (p y) 1 0) h (λ x. cond {A = ℕ} (q x) 1 0) xs (λ x. ap (λ b. cond {A = ℕ} b 1 0) (e x))

pub sum_less : {X Y : Type 0} (f : Y → ℕ) (h : X → Y) (q : X → ℕ) (xs : List X) → ((x : X) → f (h x) ≤ q x) → sum_by f (map h xs) ≤ sum_by q xs
sum_less f h q [] e = omega arith
sum_less f h q (x ∷ xs) e = omega (arith, sum_by-cons f (h x) (map h xs), sum_by-cons q x xs, e x, sum_less f h q xs e)

pub all_same : {X Y : Type 0} (p : Y → Bool) (h : X → Y) (q : X → Bool) (xs : List X) → ((x : X) → p (h x) ≡ q x) → list_all p (map h xs) ≡ list_all q xs
all_same p h q [] e = refl
all_same p h q (x ∷ xs) e = ap (λ b. b && list_all p (map h xs)) (e x) ∙ ap (λ b. q x && b) (all_same p h q xs e)

pub any_same : {X Y : Type 0} (p : Y → Bool) (h : X → Y) (q : X → Bool) (xs : List X) → ((x : X) → p (h x) ≡ q x) → list_any p (map h xs) ≡ list_any q xs
any_same p h q [] e = refl
any_same p h q (x ∷ xs) e = ap (λ b. b || list_any p (map h xs)) (e x) ∙ ap (λ b. q x || b) (any_same p h q xs e)

pub rows_of_map : {X Y : Type 0} (f : List X → List Y) (tables : List (List X)) (t : ℕ) → f [] ≡ [] → rows_at (map f tables) t ≡ f (rows_at tables t)
rows_of_map f [] t e = sym e
rows_of_map f (x ∷ tables) zero e = refl
rows_of_map f (x ∷ tables) (suc t) e = rows_of_map f tables t e

pub AllZip-maps : {A B C D : Type 0} (R : A → B → Type 0) (S : C → D → Type 0) (f : A → C) (h : B → D) (xs : List A) (ys : List B) → ((x : A) (y : B) → R x y → S (f x) (h y)) → AllZip R xs ys → AllZip S (map f xs) (map h ys)
AllZip-maps R S f h [] [] e z = z
AllZip-maps R S f h [] (y ∷ ys) e z = absurd z
AllZip-maps R S f h (x ∷ xs) [] e z = absurd z
AllZip-maps R S f h (x ∷ xs) (y ∷ ys) e z = (e x y z.0, AllZip-maps R S f h xs ys e z.1)

pub AllZip-second : {A B D : Type 0} (R : A → B → Type 0) (S : A → D → Type 0) (h : B → D) (xs : List A) (ys : List B) → ((x : A) (y : B) → R x y → S x (h y)) → AllZip R xs ys → AllZip S xs (map h ys)
AllZip-second R S h [] [] e z = z
AllZip-second R S h [] (y ∷ ys) e z = absurd z
AllZip-second R S h (x ∷ xs) [] e z = absurd z
AllZip-second R S h (x ∷ xs) (y ∷ ys) e z = (e x y z.0, AllZip-second R S h xs ys e z.1)

-- keys still differ where each table has no key more often
pub distinct_in_tables : {R : Type 0} (keys : Keys) (key : R → ℤ) (f : List R → List R) (tables : List (List R)) → f [] ≡ [] → ((k : ℤ) (rows : List R) → count_in key k (f rows) ≤ count_in key k rows) → AreDistinct keys key tables → AreDistinct keys key (map f tables)
distinct_in_tables Whole key f tables e less differ = λ k. omega (arith, differ k, sum_less (count_in key k) f (count_in key k) tables (less k))
distinct_in_tables PerTable key f tables e less differ = λ k t.
    let here = ap (count_in key k) (rows_of_map f tables t e) in
    omega (arith, here, differ k t, less k (rows_at tables t))

pub no_sum : {X : Type 0} (xs : List X) → sum_by (λ (x : X). 0) xs ≡ 0
no_sum [] = refl
no_sum {X} (x ∷ xs) = omega (arith, sum_by-cons (λ (y : X). 0) x xs, no_sum xs)

pub sum_at_most : {X : Type 0} (f h : X → ℕ) (xs : List X) → ((x : X) → f x ≤ h x) → sum_by f xs ≤ sum_by h xs
sum_at_most f h [] e = omega arith
sum_at_most f h (x ∷ xs) e = omega (arith, sum_by-cons f x xs, sum_by-cons h x xs, e x, sum_at_most f h xs e)
