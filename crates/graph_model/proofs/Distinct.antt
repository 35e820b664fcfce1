-- Keys that differ stay so, and what they tell.
use Rattle.std.proofs.Common.{◌≡◌, ℕ, ℤ, zero, suc, ◌+◌, ◌<◌, ◌≤◌, Bool, true, false, List, [], ◌∷◌, ◌++◌, Some, length, get_or, set, slice_get, refl, ap, sym, ◌∙◌, subst, arith, cond, sum_by, count_by, replicate}
use Rattle.std.specs.List.{list_any, position}
use Rattle.std.specs.Ordering.{int_eq}
use Rattle.std.proofs.lemmas.Bool.Decides.{Decides-int_eq}
use Rattle.std.proofs.lemmas.List.Sums.{sum_by-set, sum_by-cons, sum_by_push}
use Rattle.graph_schema.specs.declared.schema.Keys.{Keys}
use Rattle.graph_schema.specs.declared.schema.Keys.TheVariants.{Whole, PerTable}
use Rattle.graph_model.specs.Keys.{rows_at, has_key, has_key_in, count_in, key_count, is_taken, AreDistinct}
use Rattle.graph_model.specs.KeysAndEnds.{IsRowAt, KeysNameRows, KeysNameRowsOfTables}
use Rattle.graph_model.proofs.Rows.{count_none, counts_none, counts_one, count_once, one_table, position_of_one, got, some_row}
use Rattle.graph_model.proofs.Totals.{nothing}

-- what holds of the rows of each table holds after the rows of one changed, where it holds of the new rows
pub each_set : {R : Type 0} (P : List R → Type 0) (tables : List (List R)) (t : ℕ) (rows : List R) → ((s : ℕ) → P (get_or tables s [])) → P rows → (s : ℕ) → P (get_or (set tables t rows) s [])
each_set P [] t rows f h s = f s
each_set P (x ∷ tables) zero rows f h zero = h
each_set P (x ∷ tables) zero rows f h (suc s) = f (suc s)
each_set P (x ∷ tables) (suc t) rows f h zero = f zero
each_set P (x ∷ tables) (suc t) rows f h (suc s) = each_set P tables t rows (λ s. f (suc s)) h s

-- a table's count is no more than that of all tables
pub in_one_table : {R : Type 0} (w : List R → ℕ) (tables : List (List R)) (t : ℕ) → w [] ≡ 0 → w (get_or tables t []) ≤ sum_by w tables
in_one_table w [] t e = omega arith
in_one_table w (x ∷ tables) zero e = omega (arith, sum_by-cons w x tables)
in_one_table w (x ∷ tables) (suc t) e = omega (arith, sum_by-cons w x tables, in_one_table w tables t e)

-- a key stands at most once in a table
pub once_in : {R : Type 0} (keys : Keys) (key : R → ℤ) (tables : List (List R)) → AreDistinct keys key tables → (k : ℤ) (t : ℕ) → count_in key k (rows_at tables t) ≤ 1
once_in Whole key tables are k t = omega (arith, are k, in_one_table (count_in key k) tables t refl)
once_in PerTable key tables are k t = are k t

-- tables without rows
pub distinct_nothing : {R : Type 0} (keys : Keys) (key : R → ℤ) (n : ℕ) → AreDistinct keys key (replicate n [])
distinct_nothing {R} Whole key n = λ k. omega (arith, nothing (λ (rows : List R). count_by (λ r. int_eq (key r) k) rows) n refl)
distinct_nothing {R} PerTable key n = λ k t. omega (arith, in_one_table (count_in key k) (replicate n []) t refl, nothing (λ (rows : List R). count_by (λ r. int_eq (key r) k) rows) n refl)

-- rows of which none has a key more often than the rows before
pub distinct_less : {R : Type 0} (keys : Keys) (key : R → ℤ) (tables : List (List R)) (t : ℕ) (rows : List R) → t < length tables → AreDistinct keys key tables → ((q : ℤ) → count_in key q rows ≤ count_in key q (rows_at tables t)) → AreDistinct keys key (set tables t rows)
distinct_less Whole key tables t rows within are less = λ q. omega (arith, sum_by-set (count_in key q) tables t rows [] within, are q, less q)
distinct_less PerTable key tables t rows within are less = λ q.
    each_set (λ rs. count_in key q rs ≤ 1) tables t rows (are q) (omega (arith, are q t, less q))

new_by : {R : Type 0} (key : R → ℤ) (rows : List R) (row : R) (q : ℤ) (b : Bool) → int_eq (key row) q ≡ b → count_in key q rows ≤ 1 → has_key_in key (key row) rows ≡ false → count_in key q (rows ++ row ∷ []) ≤ 1
new_by key rows row q true e once new =
    let none : count_in key q rows ≡ 0 = count_none (λ r. int_eq (key r) q) rows (subst (λ z. has_key_in key z rows ≡ false) ((Decides-int_eq (key row) q).0 e) new) in
    let one = counts_one (int_eq (key row) q) e in
    omega (arith, sum_by_push (λ r. cond {A = ℕ} (int_eq (key r) q) 1 0) rows row)
new_by key rows row q false e once new =
    let none = counts_none (int_eq (key row) q) e in
    omega (arith, sum_by_push (λ r. cond {A = ℕ} (int_eq (key r) q) 1 0) rows row)

-- one more row, of a key that is not taken
pub distinct_push : {R : Type 0} (keys : Keys) (key : R → ℤ) (tables : List (List R)) (t : ℕ) (row : R) → t < length tables → AreDistinct keys key tables → is_taken keys key (key row) tables t ≡ false → AreDistinct keys key (set tables t (rows_at tables t ++ row ∷ []))
distinct_push Whole key tables t row within are new = λ q.
    count_once (λ r. int_eq (key r) q) tables t row within (are q) (λ e. subst (λ z. has_key key z tables ≡ false) ((Decides-int_eq (key row) q).0 e) new)
distinct_push PerTable key tables t row within are new = λ q.
    each_set (λ rs. count_in key q rs ≤ 1) tables t (rows_at tables t ++ row ∷ []) (are q) (new_by key (rows_at tables t) row q (int_eq (key row) q) refl (are q t) new)

-- ---- what they tell

same_some : (i j : ℕ) → Some i ≡ Some j → i ≡ j
same_some i j e = cc

one_place : {R : Type 0} (p : R → Bool) (rows : List R) (i j : ℕ) (a b : R) → count_by p rows ≤ 1 → slice_get rows i ≡ Some a → slice_get rows j ≡ Some b → p a ≡ true → p b ≡ true → i ≡ j
one_place p rows i j a b once at_i at_j e f =
    let x = got rows i a a at_i in
    let y = got rows j b b at_j in
    same_some i j (sym (position_of_one p rows i a x.0 (ap p x.1 ∙ e) once) ∙ position_of_one p rows j b y.0 (ap p y.1 ∙ f) once)

pub names_rows_of_tables : {R : Type 0} (keys : Keys) (key : R → ℤ) (tables : List (List R)) → AreDistinct keys key tables → KeysNameRowsOfTables key tables
names_rows_of_tables keys key tables are t i j a b at_i at_j same =
    one_place (λ r. int_eq (key r) (key a)) (rows_at tables t) i j a b (once_in keys key tables are (key a) t) at_i at_j ((Decides-int_eq (key a) (key a)).1 refl) ((Decides-int_eq (key b) (key a)).1 (sym same))

pub names_rows : {R : Type 0} (key : R → ℤ) (tables : List (List R)) → AreDistinct Whole key tables → KeysNameRows key tables
names_rows {R} key tables are s t i j a b at_i at_j same =
    let p = λ (r : R). int_eq (key r) (key a) in
    let here = (Decides-int_eq (key a) (key a)).1 refl in
    let there = (Decides-int_eq (key b) (key a)).1 (sym same) in
    let tables_are : s ≡ t = one_table p tables s t (are (key a)) (some_row p (rows_at tables s) i a at_i here) (some_row p (rows_at tables t) j b at_j there) in
    (tables_are, names_rows_of_tables Whole key tables are t i j a b (subst (λ n. IsRowAt tables n i a) tables_are at_i) at_j same)
