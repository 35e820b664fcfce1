-- tables one after another
use Rattle.std.proofs.Common.{◌≡◌, ℕ, zero, suc, ◌+◌, ◌<◌, ℤ, List, [], ◌∷◌, ◌++◌, Some, length, get_or, slice_get, map, take, sum_by, refl, ap, sym, subst, ◌∙◌, arith}
use Rattle.std.specs.List.{AllZip}
use Rattle.std.proofs.lemmas.List.{take_more, map-append, length-map, get_or-map}
use Rattle.std.proofs.lemmas.List.Sums.{sum_by_push}
use Rattle.column_types.specs.Column.{ColumnData}
use Rattle.graph_model.specs.Keys.{rows_at}
use Rattle.graph_columns.specs.Keys.{keys_of, key_column, IsKeyColumn}

-- ---- columns of keys

pub keys_of-key_column : (keys : List ℤ) → keys_of (key_column keys) ≡ keys
keys_of-key_column [] = refl
keys_of-key_column (k ∷ keys) = ap (λ ks. k ∷ ks) (keys_of-key_column keys)

-- a column of these keys
pub is_keys : (keys : List ℤ) (c : ColumnData) → c ≡ key_column keys → IsKeyColumn c
is_keys keys c e = e ∙ ap key_column (sym (keys_of-key_column keys) ∙ ap keys_of (sym e))

pub keys_told : (keys : List ℤ) (c : ColumnData) → c ≡ key_column keys → keys_of c ≡ keys
keys_told keys c e = ap keys_of e ∙ keys_of-key_column keys

-- ---- steps of loops over tables

pub rows_at-map : {R S : Type 0} (f : R → S) (tables : List (List R)) (t : ℕ) → rows_at (map (map f) tables) t ≡ map f (rows_at tables t)
rows_at-map f [] t = refl
rows_at-map f (rows ∷ tables) zero = refl
rows_at-map f (rows ∷ tables) (suc t) = rows_at-map f tables t

map_more : {X Y : Type 0} (f : X → Y) (xs : List X) (i : ℕ) (d : X) → i < length xs → map f (take (i + 1) xs) ≡ map f (take i xs) ++ f (get_or xs i d) ∷ []
map_more f xs i d within = ap (map f) (take_more xs i d within) ∙ map-append f (take i xs) (get_or xs i d ∷ [])

-- the index of a table among those of all tables
pub index_at : {R : Type 0} (key : R → ℤ) (tables : List (List R)) (all : List (List ℤ)) (t : ℕ) (index : List ℤ) → all ≡ map (map key) tables → t < length all → index ≡ get_or all t index → index ≡ map key (rows_at tables t)
index_at key tables all t index are within is =
    let inner : t < length tables = omega (arith, ap length are, length-map tables (map key)) in
    is ∙ ap (λ ks. get_or ks t index) are ∙ get_or-map (map key) tables t [] index inner

-- one column more
pub columns_more : {R C : Type 0} (f : List R → C) (tables : List (List R)) (t : ℕ) (rows : List R) (column : C) (before after : List C) → t < length tables → rows ≡ rows_at tables t → column ≡ f rows → before ≡ map f (take t tables) → after ≡ before ++ column ∷ [] → after ≡ map f (take (t + 1) tables)
columns_more f tables t rows column before after within is_rows is_column so_far grown =
    grown ∙ ap (λ c. before ++ c ∷ []) (is_column ∙ ap f is_rows) ∙ ap (λ cs. cs ++ f (rows_at tables t) ∷ []) so_far ∙ sym (map_more f tables t [] within)

-- what one table more counts
pub sum_more : {X : Type 0} (f : X → ℕ) (xs : List X) (i : ℕ) (d : X) → i < length xs → sum_by f (take (i + 1) xs) ≡ sum_by f (take i xs) + f (get_or xs i d)
sum_more f xs i d within = ap (sum_by f) (take_more xs i d within) ∙ sum_by_push f (take i xs) (get_or xs i d)

-- what the table at a place is, where each table has its rows
pub zipped_at : {A B : Type 0} (P : A → List B → Type 0) (xs : List A) (ys : List (List B)) (t : ℕ) (x : A) → slice_get xs t ≡ Some x → AllZip P xs ys → P x (rows_at ys t)
zipped_at P [] ys t x e h = cc
zipped_at P (y ∷ xs) [] t x e h = absurd h
zipped_at P (y ∷ xs) (rows ∷ ys) zero x e h =
    let same : y ≡ x = cc in
    subst (λ z. P z rows) same h.0
zipped_at P (y ∷ xs) (rows ∷ ys) (suc t) x e h = zipped_at P xs ys t x e h.1

-- what a function gives of one item more
pub mapped_item : {X Y : Type 0} (f : X → Y) (xs : List X) (i : ℕ) (x : X) (y : Y) (before after : List Y) → i < length xs → x ≡ get_or xs i x → y ≡ f x → before ≡ map f (take i xs) → after ≡ before ++ y ∷ [] → after ≡ map f (take (i + 1) xs)
mapped_item f xs i x y before after within at is so_far grown =
    grown ∙ ap (λ z. before ++ z ∷ []) is ∙ ap (λ zs. zs ++ f x ∷ []) so_far
    ∙ sym (map_more f xs i x within ∙ ap (λ z. map f (take i xs) ++ f z ∷ []) (sym at))
