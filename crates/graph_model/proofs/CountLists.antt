-- The lists of numbers after one of them was set.
use Rattle.std.proofs.Common.{◌≡◌, ◌≢◌, ℕ, zero, suc, ◌+◌, ◌<◌, ◌≤◌, Bool, true, false, ◌&&◌, ◌==◌, List, [], ◌∷◌, ◌++◌, length, get_or, set, refl, ap, sym, ◌∙◌, subst, arith, replicate}
use Rattle.std.specs.Prelude.{nat_lt}
use Rattle.std.proofs.lemmas.Bool.Decides.{nat_tests}
use Rattle.std.proofs.lemmas.List.{get_or_past, get_or-set_same, get_or-set_other, length-set}
use Rattle.graph_model.specs.declared.ends.Ends.{Ends}
use Rattle.graph_model.specs.Counts.{one_if, ends_there, counts_of, count_at, with_count, CountsOne, CountsGrow, CountsEnds}

-- ---- numbers that are there

pub table_there : (counts : List (List ℕ)) (t i : ℕ) → 1 ≤ count_at counts t i → t < length counts
table_there [] t i h = absurd (omega (arith, h))
table_there (x ∷ counts) zero i h = omega arith
table_there (x ∷ counts) (suc t) i h = omega (arith, table_there counts t i h)

item_there : (xs : List ℕ) (i : ℕ) → 1 ≤ get_or xs i 0 → i < length xs
item_there [] i h = absurd (omega (arith, h))
item_there (x ∷ xs) zero h = omega arith
item_there (x ∷ xs) (suc i) h = omega (arith, item_there xs i h)

pub seat_there : (counts : List (List ℕ)) (t i : ℕ) → 1 ≤ count_at counts t i → i < length (counts_of counts t)
seat_there counts t i h = item_there (counts_of counts t) i h

pub none_at : (n t i : ℕ) → count_at (replicate n []) t i ≡ 0
none_at zero t i = refl
none_at (suc n) zero i = refl
none_at (suc n) (suc t) i = none_at n t i

-- a number 0 more
pub zero_more : (xs : List ℕ) (i : ℕ) → get_or (xs ++ 0 ∷ []) i 0 ≡ get_or xs i 0
zero_more [] zero = refl
zero_more [] (suc i) = refl
zero_more (x ∷ xs) zero = refl
zero_more (x ∷ xs) (suc i) = zero_more xs i

-- ---- a number that was set

module _ (counts : List (List ℕ)) (t i n : ℕ) where
  pub with_lists : length (with_count counts t i n) ≡ length counts
  with_lists = length-set counts t (set (counts_of counts t) i n)

  module _ (table : t < length counts) where
    list_here : counts_of (with_count counts t i n) t ≡ set (counts_of counts t) i n
    list_here = get_or-set_same counts t (set (counts_of counts t) i n) [] table

    list_other : (w : ℕ) → w ≢ t → counts_of (with_count counts t i n) w ≡ counts_of counts w
    list_other w apart = get_or-set_other counts t w (set (counts_of counts t) i n) [] apart

    long_by : (w : ℕ) (b : Bool) → (t == w) ≡ b → length (counts_of (with_count counts t i n) w) ≡ length (counts_of counts w)
    long_by w true e =
        let same : t ≡ w = grind (arith, nat_tests) in
        subst (λ x. length (counts_of (with_count counts t i n) x) ≡ length (counts_of counts x)) same (ap length list_here ∙ length-set (counts_of counts t) i n)
    long_by w false e =
        let apart : w ≢ t = grind (arith, nat_tests) in
        ap length (list_other w apart)

    pub with_long : (w : ℕ) → length (counts_of (with_count counts t i n) w) ≡ length (counts_of counts w)
    with_long w = long_by w (t == w) refl

    module _ (seat : i < length (counts_of counts t)) where
      put_here : count_at (with_count counts t i n) t i ≡ n
      put_here = ap (λ l. get_or l i 0) list_here ∙ get_or-set_same (counts_of counts t) i n 0 seat

      put_beside : (j : ℕ) → j ≢ i → count_at (with_count counts t i n) t j ≡ count_at counts t j
      put_beside j apart = ap (λ l. get_or l j 0) list_here ∙ get_or-set_other (counts_of counts t) i j n 0 apart

      put_away : (w j : ℕ) → w ≢ t → count_at (with_count counts t i n) w j ≡ count_at counts w j
      put_away w j apart = ap (λ l. get_or l j 0) (list_other w apart)

      raised_by : (w j : ℕ) (b c : Bool) → (t == w) ≡ b → (i == j) ≡ c → n ≡ count_at counts t i + 1 → count_at (with_count counts t i n) w j ≡ count_at counts w j + one_if (b && c)
      raised_by w j true true e f more =
          let table_same : t ≡ w = grind (arith, nat_tests) in
          let seat_same : i ≡ j = grind (arith, nat_tests) in
          subst (λ x. count_at (with_count counts t i n) x j ≡ count_at counts x j + 1) table_same
          (subst (λ x. count_at (with_count counts t i n) t x ≡ count_at counts t x + 1) seat_same (put_here ∙ more))
      raised_by w j true false e f more =
          let table_same : t ≡ w = grind (arith, nat_tests) in
          let apart : j ≢ i = grind (arith, nat_tests) in
          subst (λ x. count_at (with_count counts t i n) x j ≡ count_at counts x j + 0) table_same (omega (arith, put_beside j apart))
      raised_by w j false c e f more =
          let apart : w ≢ t = grind (arith, nat_tests) in
          omega (arith, put_away w j apart)

      pub raised : n ≡ count_at counts t i + 1 → (w j : ℕ) → count_at (with_count counts t i n) w j ≡ count_at counts w j + one_if (t == w && i == j)
      raised more w j = raised_by w j (t == w) (i == j) refl refl more

      lowered_by : (w j : ℕ) (b c : Bool) → (t == w) ≡ b → (i == j) ≡ c → count_at counts t i ≡ n + 1 → count_at counts w j ≡ count_at (with_count counts t i n) w j + one_if (b && c)
      lowered_by w j true true e f more =
          let table_same : t ≡ w = grind (arith, nat_tests) in
          let seat_same : i ≡ j = grind (arith, nat_tests) in
          subst (λ x. count_at counts x j ≡ count_at (with_count counts t i n) x j + 1) table_same
          (subst (λ x. count_at counts t x ≡ count_at (with_count counts t i n) t x + 1) seat_same (omega (arith, put_here, more)))
      lowered_by w j true false e f more =
          let table_same : t ≡ w = grind (arith, nat_tests) in
          let apart : j ≢ i = grind (arith, nat_tests) in
          subst (λ x. count_at counts x j ≡ count_at (with_count counts t i n) x j + 0) table_same (omega (arith, put_beside j apart))
      lowered_by w j false c e f more =
          let apart : w ≢ t = grind (arith, nat_tests) in
          omega (arith, put_away w j apart)

      pub lowered : count_at counts t i ≡ n + 1 → (w j : ℕ) → count_at counts w j ≡ count_at (with_count counts t i n) w j + one_if (t == w && i == j)
      lowered more w j = lowered_by w j (t == w) (i == j) refl refl more

-- ---- both ends

pub one_few : (b : Bool) → one_if b ≤ 1
one_few true = omega arith
one_few false = omega arith

self : (t : ℕ) → (t == t) ≡ true
self t = grind (arith, nat_tests)

one_here : (t i : ℕ) → one_if (t == t && i == i) ≡ 1
one_here t i = ap (λ b. one_if (b && i == i)) (self t) ∙ ap one_if (self i)

pub source_counted : (from to : ℕ) (e : Ends) → 1 ≤ ends_there from to from e.source e
source_counted from to e = omega (arith, one_here from e.source)

pub both_counted : (from to : ℕ) (e : Ends) → ends_there from to to e.destination e ≡ one_if (from == to && e.source == e.destination) + 1
both_counted from to e = omega (arith, one_here to e.destination)

pub grows : (before between after : List (List ℕ)) → CountsGrow before between → CountsGrow between after → CountsGrow before after
grows before between after a b = record {
  lists = b.lists ∙ a.lists;
  long = λ t. omega (arith, a.long t, b.long t);
  each = λ t i. b.each t i ∙ a.each t i;
}

grows_by : (counts : List (List ℕ)) (t : ℕ) (list : List ℕ) → t < length counts → length (counts_of counts t) ≤ length list → ((i : ℕ) → get_or list i 0 ≡ count_at counts t i) → (w : ℕ) (b : Bool) → (t == w) ≡ b → (length (counts_of counts w) ≤ length (counts_of (set counts t list) w)) × ((i : ℕ) → count_at (set counts t list) w i ≡ count_at counts w i)
grows_by counts t list table long each w true e =
    let same : t ≡ w = grind (arith, nat_tests) in
    let here : counts_of (set counts t list) t ≡ list = get_or-set_same counts t list [] table in
    subst (λ x. (length (counts_of counts x) ≤ length (counts_of (set counts t list) x)) × ((i : ℕ) → count_at (set counts t list) x i ≡ count_at counts x i)) same
    (omega (arith, long, ap length here), λ i. ap (λ l. get_or l i 0) here ∙ each i)
grows_by counts t list table long each w false e =
    let apart : w ≢ t = grind (arith, nat_tests) in
    let there : counts_of (set counts t list) w ≡ counts_of counts w = get_or-set_other counts t w list [] apart in
    (omega (arith, ap length there), λ i. ap (λ l. get_or l i 0) there)

-- a longer list in a place
pub grows_at : (counts : List (List ℕ)) (t : ℕ) (list : List ℕ) → t < length counts → length (counts_of counts t) ≤ length list → ((i : ℕ) → get_or list i 0 ≡ count_at counts t i) → CountsGrow counts (set counts t list)
grows_at counts t list table long each = record {
  lists = length-set counts t list;
  long = λ w. (grows_by counts t list table long each w (t == w) refl).0;
  each = λ w i. (grows_by counts t list table long each w (t == w) refl).1 i;
}

pub raised_one : (counts new : List (List ℕ)) (t i n : ℕ) → t < length counts → i < length (counts_of counts t) → n ≡ count_at counts t i → new ≡ with_count counts t i (n + 1) → CountsOne t i counts new
raised_one counts new t i n table seat was is =
    subst (CountsOne t i counts) (sym is)
    (record {
      lists = with_lists counts t i (n + 1);
      long = with_long counts t i (n + 1) table;
      each = raised counts t i (n + 1) table seat (ap (λ m. m + 1) was);
    })

pub lowered_one : (counts new : List (List ℕ)) (t i n m : ℕ) → 1 ≤ count_at counts t i → n ≡ count_at counts t i → m + 1 ≡ n → new ≡ with_count counts t i m → CountsOne t i new counts
lowered_one counts new t i n m some was less is =
    let table = table_there counts t i some in
    let seat = seat_there counts t i some in
    subst (λ l. CountsOne t i l counts) (sym is)
    (record {
      lists = sym (with_lists counts t i m);
      long = λ w. sym (with_long counts t i m table w);
      each = lowered counts t i m table seat (sym was ∙ sym less);
    })
