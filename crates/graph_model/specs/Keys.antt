-- Rows with keys, in lists of tables. `key` gives a row's key, `values` its values.
use Rattle.std.specs.Prelude.{ℕ, ◌≤◌, ℤ, Bool, not, filter, map, if◌then◌else◌, List, [], length, slice_index_or, count_by, sum_by}
use Rattle.std.specs.List.{list_any}
use Rattle.std.specs.Ordering.{int_eq}
use Rattle.column_types.specs.declared.value.Value.{Value}
use Rattle.graph_schema.specs.declared.schema.Keys.{Keys}
use Rattle.graph_schema.specs.declared.schema.Keys.TheVariants.{Whole, PerTable}

-- the rows of a table, none where there is no such table
abbrev pub rows_at : {R : Type 0} → List (List R) → ℕ → List R
rows_at tables t = slice_index_or tables t []

-- some row of a table has the key
abbrev pub has_key_in : {R : Type 0} → (R → ℤ) → ℤ → List R → Bool
has_key_in key k rows = list_any (λ r. int_eq (key r) k) rows

-- some row of some table has the key
abbrev pub has_key : {R : Type 0} → (R → ℤ) → ℤ → List (List R) → Bool
has_key key k tables = list_any (has_key_in key k) tables

-- how many rows of a table have the key
abbrev pub count_in : {R : Type 0} → (R → ℤ) → ℤ → List R → ℕ
count_in key k rows = count_by (λ r. int_eq (key r) k) rows

-- how many rows of all tables have the key
abbrev pub key_count : {R : Type 0} → (R → ℤ) → ℤ → List (List R) → ℕ
key_count key k tables = sum_by (count_in key k) tables

-- a key that no new row of table t can have: under Whole a row of some table has it, under PerTable a row of table t
abbrev pub is_taken : {R : Type 0} → Keys → (R → ℤ) → ℤ → List (List R) → ℕ → Bool
is_taken Whole key k tables t = has_key key k tables
is_taken PerTable key k tables t = has_key_in key k (rows_at tables t)

-- keys differ: under Whole over the rows of all tables, under PerTable over the rows of each table
abbrev pub AreDistinct : {R : Type 0} → Keys → (R → ℤ) → List (List R) → Type 0
AreDistinct Whole key tables = (k : ℤ) → key_count key k tables ≤ 1
AreDistinct PerTable key tables = (k : ℤ) (t : ℕ) → count_in key k (rows_at tables t) ≤ 1

-- a table's rows without the one of the key
abbrev pub without_key : {R : Type 0} → (R → ℤ) → ℤ → List R → List R
without_key key k rows = filter (λ r. not (int_eq (key r) k)) rows

-- a table's rows, the one of the key changed
abbrev pub change_at_key : {R : Type 0} → (R → ℤ) → ℤ → (R → R) → List R → List R
change_at_key key k change rows = map (λ r. if int_eq (key r) k then change r else r) rows

-- how many rows all tables have
abbrev pub row_total : {R : Type 0} → List (List R) → ℕ
row_total tables = sum_by length tables

-- how many values the rows of a table have
abbrev pub cells_in : {R : Type 0} → (R → List Value) → List R → ℕ
cells_in values rows = sum_by (λ r. length (values r)) rows

-- how many values the rows of all tables have
abbrev pub value_total : {R : Type 0} → (R → List Value) → List (List R) → ℕ
value_total values tables = sum_by (cells_in values) tables
