-- Rows of tables after one table changed.
use Rattle.std.proofs.Common.{◌≡◌, ◌≢◌, ◌∙◌, refl, sym, ap, ℕ, ℤ, zero, suc, ◌+◌, ◌<◌, ◌≤◌, Bool, true, false, ◌||◌, ◌&&◌, not, cond, List, [], ◌∷◌, ◌++◌, length, get_or, set, slice_get, Option, Some, None, arith, sum_by}
use Rattle.std.specs.Prelude.{nat_eq, find}
use Rattle.std.specs.List.{list_any, zip}
use Rattle.std.specs.Ordering.{int_eq}
use Rattle.std.proofs.lemmas.Bool.Decides.{nat_tests, Decides-int_eq}
use Rattle.std.proofs.lemmas.List.{get_or-set_same, get_or-set_other}
use Rattle.std.proofs.lemmas.List.Sums.{sum_by-cons}
use Rattle.graph_model.specs.Keys.{rows_at, has_key_in, count_in, without_key}
use Rattle.graph_model.proofs.Rows.{or_false, any_last, any_push_apart, any_filter_same, none_left, remove_one, sum_by_remove}

-- ---- a table and a key

both : (a b : Bool) → (a && b) ≡ true → (a ≡ true) × (b ≡ true)
both true b e = (refl, e)
both false b e = cc

pub at_both : (t u : ℕ) (k q : ℤ) → (nat_eq t u && int_eq k q) ≡ true → (t ≡ u) × (k ≡ q)
at_both t u k q e =
    let p = both (nat_eq t u) (int_eq k q) e in
    (grind (arith, nat_tests, p.0), (Decides-int_eq k q).0 p.1)

nat_apart : (t u : ℕ) → nat_eq t u ≡ false → u ≢ t
nat_apart t u e = λ same. let yes : nat_eq t u ≡ true = grind (arith, nat_tests, same) in cc

-- the rows of a table after those of one changed
pub rows_after : {R : Type 0} (tables : List (List R)) (t u : ℕ) (rows : List R) (b : Bool) → t < length tables → nat_eq t u ≡ b → rows_at (set tables t rows) u ≡ cond b rows (rows_at tables u)
rows_after tables t u rows true within e =
    let same : t ≡ u = grind (arith, nat_tests, e) in
    ap (λ v. rows_at (set tables t rows) v) (sym same) ∙ get_or-set_same tables t rows [] within
rows_after tables t u rows false within e = get_or-set_other tables t u rows [] (nat_apart t u e)

-- what a test answers of the rows of a table, where one table was changed and it answers otherwise only of one key
pub answer_after : {R X : Type 0} (answer : List R → ℤ → X) (tables : List (List R)) (t u : ℕ) (k q : ℤ) (rows : List R) (x : X) (b c : Bool) → t < length tables → nat_eq t u ≡ b → int_eq k q ≡ c
    → ((d : Bool) → int_eq k q ≡ d → answer rows q ≡ cond d x (answer (rows_at tables t) q))
    → answer (rows_at (set tables t rows) u) q ≡ cond (b && c) x (answer (rows_at tables u) q)
answer_after answer tables t u k q rows x true c within e f here =
    let same : t ≡ u = grind (arith, nat_tests, e) in
    ap (λ rs. answer rs q) (rows_after tables t u rows true within e) ∙ here c f ∙ ap (λ v. cond c x (answer (rows_at tables v) q)) same
answer_after answer tables t u k q rows x false c within e f here = ap (λ rs. answer rs q) (rows_after tables t u rows false within e)

-- where it answers otherwise of no key
pub answer_same : {R X : Type 0} (answer : List R → ℤ → X) (tables : List (List R)) (t u : ℕ) (q : ℤ) (rows : List R) (b : Bool) → t < length tables → nat_eq t u ≡ b → answer rows q ≡ answer (rows_at tables t) q
    → answer (rows_at (set tables t rows) u) q ≡ answer (rows_at tables u) q
answer_same answer tables t u q rows true within e here =
    let same : t ≡ u = grind (arith, nat_tests, e) in
    ap (λ rs. answer rs q) (rows_after tables t u rows true within e) ∙ here ∙ ap (λ v. answer (rows_at tables v) q) same
answer_same answer tables t u q rows false within e here = ap (λ rs. answer rs q) (rows_after tables t u rows false within e)

-- ---- whether a key stands in a table

apart_by : {R : Type 0} (key : R → ℤ) (k q : ℤ) (r : R) (b : Bool) → int_eq (key r) k ≡ b → int_eq k q ≡ false → int_eq (key r) q ≡ true → not b ≡ true
apart_by key k q r true e apart here =
    let one : key r ≡ k = (Decides-int_eq (key r) k).0 e in
    let two : key r ≡ q = (Decides-int_eq (key r) q).0 here in
    let yes : int_eq k q ≡ true = (Decides-int_eq k q).1 (sym one ∙ two) in
    cc
apart_by key k q r false e apart here = refl

module _ {R : Type 0} (key : R → ℤ) where
  pub has_pushed : (rows : List R) (row : R) (q : ℤ) (d : Bool) → int_eq (key row) q ≡ d → has_key_in key q (rows ++ row ∷ []) ≡ cond d true (has_key_in key q rows)
  has_pushed rows row q true e = any_last (λ r. int_eq (key r) q) rows row e
  has_pushed rows row q false e = any_push_apart (λ r. int_eq (key r) q) rows row e

  pub has_without : (rows : List R) (k q : ℤ) (d : Bool) → int_eq k q ≡ d → has_key_in key q (without_key key k rows) ≡ cond d false (has_key_in key q rows)
  has_without rows k q true e =
      let same : k ≡ q = (Decides-int_eq k q).0 e in
      ap (λ z. has_key_in key z (without_key key k rows)) (sym same) ∙ none_left (λ r. int_eq (key r) k) rows
  has_without rows k q false e = any_filter_same (λ r. int_eq (key r) q) (λ r. not (int_eq (key r) k)) rows (λ r here. apart_by key k q r (int_eq (key r) k) refl e here)

-- ---- the row of a key

module _ {R : Type 0} (key : R → ℤ) where
  pushed_by : (r row : R) (q : ℤ) (xs ys : Option R) (b d : Bool) → int_eq (key r) q ≡ b → int_eq (key row) q ≡ d → int_eq (key r) (key row) ≡ false → xs ≡ cond d (Some row) ys → cond b (Some r) xs ≡ cond d (Some row) (cond b (Some r) ys)
  pushed_by r row q xs ys true true e f apart so =
      let one : key r ≡ q = (Decides-int_eq (key r) q).0 e in
      let two : key row ≡ q = (Decides-int_eq (key row) q).0 f in
      let yes : int_eq (key r) (key row) ≡ true = (Decides-int_eq (key r) (key row)).1 (one ∙ sym two) in
      cc
  pushed_by r row q xs ys true false e f apart so = refl
  pushed_by r row q xs ys false true e f apart so = so
  pushed_by r row q xs ys false false e f apart so = so

  -- a row more, of a key that no row has
  pub find_pushed : (rows : List R) (row : R) (q : ℤ) (d : Bool) → int_eq (key row) q ≡ d → has_key_in key (key row) rows ≡ false → find (λ r. int_eq (key r) q) (rows ++ row ∷ []) ≡ cond d (Some row) (find (λ r. int_eq (key r) q) rows)
  find_pushed [] row q d e new = ap (λ b. cond b (Some row) None) e
  find_pushed (r ∷ rows) row q d e new =
      let parts = or_false (int_eq (key r) (key row)) (has_key_in key (key row) rows) new in
      pushed_by r row q (find (λ x. int_eq (key x) q) (rows ++ row ∷ [])) (find (λ x. int_eq (key x) q) rows) (int_eq (key r) q) d refl e parts.0 (find_pushed rows row q d e parts.1)

  without_by : (r : R) (k q : ℤ) (xs : List R) (ys : Option R) (b c d : Bool) → int_eq (key r) k ≡ b → int_eq (key r) q ≡ c → int_eq k q ≡ d → find (λ x. int_eq (key x) q) xs ≡ cond d None ys
      → find (λ x. int_eq (key x) q) (cond (not b) (r ∷ xs) xs) ≡ cond d None (cond c (Some r) ys)
  without_by r k q xs ys true c true e f h so = so
  without_by r k q xs ys true true false e f h so =
      let one : key r ≡ k = (Decides-int_eq (key r) k).0 e in
      let two : key r ≡ q = (Decides-int_eq (key r) q).0 f in
      let yes : int_eq k q ≡ true = (Decides-int_eq k q).1 (sym one ∙ two) in
      cc
  without_by r k q xs ys true false false e f h so = so
  without_by r k q xs ys false true true e f h so =
      let one : k ≡ q = (Decides-int_eq k q).0 h in
      let two : key r ≡ q = (Decides-int_eq (key r) q).0 f in
      let yes : int_eq (key r) k ≡ true = (Decides-int_eq (key r) k).1 (two ∙ sym one) in
      cc
  without_by r k q xs ys false false true e f h so = ap (λ b. cond b (Some r) (find (λ x. int_eq (key x) q) xs)) f ∙ so
  without_by r k q xs ys false true false e f h so = ap (λ b. cond b (Some r) (find (λ x. int_eq (key x) q) xs)) f
  without_by r k q xs ys false false false e f h so = ap (λ b. cond b (Some r) (find (λ x. int_eq (key x) q) xs)) f ∙ so

  none_by : (d : Bool) → ◌≡◌ {A = Option R} None (cond d None None)
  none_by true = refl
  none_by false = refl

  -- without the row of a key
  pub find_without : (rows : List R) (k q : ℤ) (d : Bool) → int_eq k q ≡ d → find (λ r. int_eq (key r) q) (without_key key k rows) ≡ cond d None (find (λ r. int_eq (key r) q) rows)
  find_without [] k q d e = none_by d
  find_without (r ∷ rows) k q d e = without_by r k q (without_key key k rows) (find (λ x. int_eq (key x) q) rows) (int_eq (key r) k) (int_eq (key r) q) d refl refl e (find_without rows k q d e)

  found_by : (r row : R) (rows : List R) (k : ℤ) (b : Bool) → int_eq (key r) k ≡ b → cond b (Some r) (find (λ x. int_eq (key x) k) rows) ≡ Some row
      → (find (λ x. int_eq (key x) k) rows ≡ Some row → (i : ℕ) × (i < length rows) × (get_or rows i row ≡ row) × (int_eq (key row) k ≡ true))
      → (i : ℕ) × (i < length (r ∷ rows)) × (get_or (r ∷ rows) i row ≡ row) × (int_eq (key row) k ≡ true)
  found_by r row rows k true e f later =
      let same : r ≡ row = cc (f) in
      (0, omega arith, same, ap (λ x. int_eq (key x) k) (sym same) ∙ e)
  found_by r row rows k false e f later = let q = later f in (suc q.0, omega (arith, q.1), q.2, q.3)

  -- where a row is found
  pub find_place : (rows : List R) (k : ℤ) (row : R) → find (λ r. int_eq (key r) k) rows ≡ Some row → (i : ℕ) × (i < length rows) × (get_or rows i row ≡ row) × (int_eq (key row) k ≡ true)
  find_place [] k row e = cc
  find_place (r ∷ rows) k row e = found_by r row rows k (int_eq (key r) k) refl e (λ f. find_place rows k row f)

  -- a sum over the rows without the one of a key
  pub sum_without : (w : R → ℕ) (rows : List R) (k : ℤ) (row : R) → count_in key k rows ≤ 1 → find (λ r. int_eq (key r) k) rows ≡ Some row → sum_by w (without_key key k rows) + w row ≡ sum_by w rows
  sum_without w rows k row once e =
      let q = find_place rows k row e in
      let gone = remove_one (λ r. int_eq (key r) k) rows q.0 row q.1 (ap (λ r. int_eq (key r) k) q.2 ∙ q.3) once in
      omega (arith, ap (sum_by w) gone, sum_by_remove w rows q.0 row q.1, ap w q.2)

  has_found_by : (r : R) (rows : List R) (k : ℤ) (b : Bool) → (b || list_any (λ x. int_eq (key x) k) rows) ≡ true → (list_any (λ x. int_eq (key x) k) rows ≡ true → (row : R) × (find (λ x. int_eq (key x) k) rows ≡ Some row))
      → (row : R) × (cond b (Some r) (find (λ x. int_eq (key x) k) rows) ≡ Some row)
  has_found_by r rows k true e later = (r, refl)
  has_found_by r rows k false e later = later e

  -- a key that some row has finds a row
  pub has_found : (rows : List R) (k : ℤ) → has_key_in key k rows ≡ true → (row : R) × (find (λ r. int_eq (key r) k) rows ≡ Some row)
  has_found [] k e = cc
  has_found (r ∷ rows) k e = has_found_by r rows k (int_eq (key r) k) e (has_found rows k)

-- ---- sums over two lists side by side

pub zip_sum : {X Y : Type 0} (f : X → Y → ℕ) (xs : List X) (ys : List Y) (t : ℕ) (x : X) (y d : Y) → slice_get xs t ≡ Some x → t < length ys
    → sum_by (λ p. f p.0 p.1) (zip xs (set ys t y)) + f x (get_or ys t d) ≡ sum_by (λ p. f p.0 p.1) (zip xs ys) + f x y
zip_sum f [] ys t x y d at within = cc
zip_sum f (a ∷ xs) [] t x y d at within = absurd (omega arith)
zip_sum f (a ∷ xs) (b ∷ ys) zero x y d at within =
    let same : a ≡ x = cc (at) in
    omega (arith, sum_by-cons (λ p. f p.0 p.1) (a, y) (zip xs ys), sum_by-cons (λ p. f p.0 p.1) (a, b) (zip xs ys), ap (λ z. f z y) same, ap (λ z. f z b) same)
zip_sum f (a ∷ xs) (b ∷ ys) (suc t) x y d at within =
    omega (
      arith,
      sum_by-cons (λ p. f p.0 p.1) (a, b) (zip xs (set ys t y)),
      sum_by-cons (λ p. f p.0 p.1) (a, b) (zip xs ys),
      zip_sum f xs ys t x y d at (omega arith),
    )
