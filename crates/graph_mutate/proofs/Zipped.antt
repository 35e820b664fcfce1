-- tables that are changed by what their shapes tell
use Rattle.std.proofs.Common.{◌≡◌, ℕ, zero, suc, ◌<◌, ◌≤◌, ℤ, List, [], ◌∷◌, Some, length, map, slice_get, refl, ap, arith, sum_by}
use Rattle.std.specs.List.{AllZip, zip}
use Rattle.std.proofs.lemmas.List.Sums.{sum_by-cons}
use Rattle.graph_schema.specs.declared.schema.Keys.{Keys}
use Rattle.graph_schema.specs.declared.schema.Keys.TheVariants.{Whole, PerTable}
use Rattle.graph_model.specs.Keys.{rows_at, count_in, AreDistinct}

pub zipped_rows : {A R : Type 0} (f : A → List R → List R) (xs : List A) (ys : List (List R)) (t : ℕ) (x : A) → slice_get xs t ≡ Some x → t < length ys → rows_at (map (λ p. f p.0 p.1) (zip xs ys)) t ≡ f x (rows_at ys t)
zipped_rows f [] ys t x e h = cc
zipped_rows f (y ∷ xs) [] t x e h = absurd (omega arith)
zipped_rows f (y ∷ xs) (rows ∷ ys) zero x e h =
    let same : y ≡ x = cc in
    ap (λ z. f z rows) same
zipped_rows f (y ∷ xs) (rows ∷ ys) (suc t) x e h = zipped_rows f xs ys t x e (omega arith)

pub AllZip-zipped : {A R : Type 0} (P Q : A → List R → Type 0) (f : A → List R → List R) (xs : List A) (ys : List (List R)) → ((x : A) (rows : List R) → P x rows → Q x (f x rows)) → AllZip P xs ys → AllZip Q xs (map (λ p. f p.0 p.1) (zip xs ys))
AllZip-zipped P Q f [] [] e z = z
AllZip-zipped P Q f [] (rows ∷ ys) e z = absurd z
AllZip-zipped P Q f (x ∷ xs) [] e z = absurd z
AllZip-zipped P Q f (x ∷ xs) (rows ∷ ys) e z = (e x rows z.0, AllZip-zipped P Q f xs ys e z.1)

pub zipped_sum : {A R : Type 0} (w : List R → ℕ) (f : A → List R → List R) (xs : List A) (ys : List (List R)) → ((x : A) (rows : List R) → w (f x rows) ≤ w rows) → sum_by w (map (λ p. f p.0 p.1) (zip xs ys)) ≤ sum_by w ys
zipped_sum w f [] ys e = omega arith
zipped_sum w f (x ∷ xs) [] e = omega arith
zipped_sum w f (x ∷ xs) (rows ∷ ys) e = omega (arith, sum_by-cons w (f x rows) (map (λ p. f p.0 p.1) (zip xs ys)), sum_by-cons w rows ys, e x rows, zipped_sum w f xs ys e)

zipped_at_most : {A R : Type 0} (w : List R → ℕ) (f : A → List R → List R) (xs : List A) (ys : List (List R)) (t : ℕ) → w [] ≡ 0 → ((x : A) (rows : List R) → w (f x rows) ≤ w rows) → w (rows_at (map (λ p. f p.0 p.1) (zip xs ys)) t) ≤ w (rows_at ys t)
zipped_at_most w f [] ys t none e = omega (arith, none)
zipped_at_most w f (x ∷ xs) [] t none e = omega (arith, none)
zipped_at_most w f (x ∷ xs) (rows ∷ ys) zero none e = e x rows
zipped_at_most w f (x ∷ xs) (rows ∷ ys) (suc t) none e = zipped_at_most w f xs ys t none e

-- keys still differ where each table has no key more often
pub distinct_zipped : {A R : Type 0} (keys : Keys) (key : R → ℤ) (f : A → List R → List R) (xs : List A) (ys : List (List R)) → ((k : ℤ) (x : A) (rows : List R) → count_in key k (f x rows) ≤ count_in key k rows) → AreDistinct keys key ys → AreDistinct keys key (map (λ p. f p.0 p.1) (zip xs ys))
distinct_zipped Whole key f xs ys less differ = λ k. omega (arith, differ k, zipped_sum (count_in key k) f xs ys (less k))
distinct_zipped PerTable key f xs ys less differ = λ k t. omega (arith, differ k t, zipped_at_most (count_in key k) f xs ys t refl (less k))
