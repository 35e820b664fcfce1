-- How often a key stands, and how many rows and values there are, after a change of a table.
use Rattle.std.proofs.Common.{◌≡◌, ℕ, ℤ, suc, ◌+◌, ◌*◌, ◌<◌, ◌≤◌, Bool, true, false, not, List, [], ◌∷◌, length, set, ap, arith, sum_by, count_by, cond, filter, replicate}
use Rattle.std.specs.Ordering.{int_eq}
use Rattle.std.proofs.lemmas.List.{length-map}
use Rattle.std.proofs.lemmas.List.Folds.{sum_by-replicate}
use Rattle.std.proofs.lemmas.List.Sums.{sum_by-set, sum_by-cons, get_or-le-sum_by}
use Rattle.column_types.specs.declared.value.Value.{Value}
use Rattle.graph_model.specs.Keys.{rows_at, count_in, row_total, value_total, without_key, change_at_key}
use Rattle.graph_model.proofs.Rows.{sum_map, count_map, count_filter_le}

sum_cases : {R : Type 0} (w : R → ℕ) (b : Bool) (r : R) (xs : List R) (n : ℕ) → sum_by w xs ≤ n → sum_by w (cond b (r ∷ xs) xs) ≤ w r + n
sum_cases w true r xs n h = omega (arith, sum_by-cons w r xs)
sum_cases w false r xs n h = omega arith

sum_filter_le : {R : Type 0} (w : R → ℕ) (p : R → Bool) (rows : List R) → sum_by w (filter p rows) ≤ sum_by w rows
sum_filter_le w p [] = omega arith
sum_filter_le w p (r ∷ rows) = omega (arith, sum_cases w (p r) r (filter p rows) (sum_by w rows) (sum_filter_le w p rows), sum_by-cons w r rows)

length_cases : {R : Type 0} (b : Bool) (r : R) (xs : List R) (n : ℕ) → length xs ≤ n → length (cond b (r ∷ xs) xs) ≤ suc n
length_cases true r xs n h = omega arith
length_cases false r xs n h = omega arith

length_filter_le : {R : Type 0} (p : R → Bool) (rows : List R) → length (filter p rows) ≤ length rows
length_filter_le p [] = omega arith
length_filter_le p (r ∷ rows) = length_cases (p r) r (filter p rows) (length rows) (length_filter_le p rows)

-- no key stands more often without the rows of one, nor where rows keep their keys
pub counts_without : {R : Type 0} (key : R → ℤ) (k : ℤ) (rows : List R) (q : ℤ) → count_in key q (without_key key k rows) ≤ count_in key q rows
counts_without key k rows q = count_filter_le (λ r. int_eq (key r) q) (λ r. not (int_eq (key r) k)) rows

pub counts_changed : {R : Type 0} (key : R → ℤ) (k : ℤ) (change : R → R) (rows : List R) → ((q : ℤ) (r : R) → int_eq (key (cond (int_eq (key r) k) (change r) r)) q ≡ int_eq (key r) q) → (q : ℤ) → count_in key q (change_at_key key k change rows) ≤ count_in key q rows
counts_changed key k change rows same q =
    omega (arith, count_map (λ r. int_eq (key r) q) (λ r. cond (int_eq (key r) k) (change r) r) rows (same q))

module _ {R : Type 0} (key : R → ℤ) (values : R → List Value) (tables : List (List R)) (t : ℕ) (k : ℤ) (within : t < length tables) where
  pub rows_without : row_total (set tables t (without_key key k (rows_at tables t))) ≤ row_total tables
  rows_without =
      omega (arith, sum_by-set (λ (rows : List R). length rows) tables t (without_key key k (rows_at tables t)) [] within, length_filter_le (λ r. not (int_eq (key r) k)) (rows_at tables t))

  pub values_without : value_total values (set tables t (without_key key k (rows_at tables t))) ≤ value_total values tables
  values_without =
      omega (
        arith,
        sum_by-set (λ (rows : List R). sum_by (λ r. length (values r)) rows) tables t (without_key key k (rows_at tables t)) [] within,
        sum_filter_le (λ r. length (values r)) (λ r. not (int_eq (key r) k)) (rows_at tables t),
      )

  module _ (change : R → R) where
    pub rows_changed : row_total (set tables t (change_at_key key k change (rows_at tables t))) ≡ row_total tables
    rows_changed =
        omega (
          arith,
          sum_by-set (λ (rows : List R). length rows) tables t (change_at_key key k change (rows_at tables t)) [] within,
          length-map (rows_at tables t) (λ r. cond (int_eq (key r) k) (change r) r),
        )

    pub values_changed : ((r : R) → length (values (cond (int_eq (key r) k) (change r) r)) ≡ length (values r)) → value_total values (set tables t (change_at_key key k change (rows_at tables t))) ≡ value_total values tables
    values_changed same =
        omega (
          arith,
          sum_by-set (λ (rows : List R). sum_by (λ r. length (values r)) rows) tables t (change_at_key key k change (rows_at tables t)) [] within,
          sum_map (λ r. length (values r)) (λ r. cond (int_eq (key r) k) (change r) r) (rows_at tables t) same,
        )

-- tables without rows have none
pub nothing : {R : Type 0} (f : List R → ℕ) (n : ℕ) → f [] ≡ 0 → sum_by f (replicate n []) ≡ 0
nothing f n e = omega (arith, sum_by-replicate f n [], ap (λ m. n * m) e)
