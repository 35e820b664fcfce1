-- the place that is found of a key is the first that has it
use Rattle.std.proofs.Common.{◌≡◌, ℕ, ◌<◌, ◌≤◌, ℤ, Bool, true, false, List, Option, Some, None, length, get_or, slice_get, cond, refl, ap, subst, ◌∙◌, arith}
use Rattle.std.specs.Prelude.{nat_lt, position}
use Rattle.std.specs.List.{position_or_len}
use Rattle.std.specs.Ordering.{int_eq}
use Rattle.std.proofs.lemmas.Bool.Decides.{nat_tests, Decides-int_eq}
use Rattle.std.proofs.lemmas.List.Sums.{passes_at_first, fails_before_first}
use Rattle.std.proofs.lemmas.Option.{slice_get-get_or}
use Rattle.graph_model.proofs.Rows.{got}

place_by : (n m : ℕ) (b : Bool) (p : ℕ) → nat_lt n m ≡ b → cond b (Some n) None ≡ Some p → (n ≡ p) × (n < m)
place_by n m true p e f = (cc, grind (arith, nat_tests))
place_by n m false p e f = cc

past_by : (n m : ℕ) (b : Bool) → nat_lt n m ≡ b → ◌≡◌ {A = Option ℕ} (cond b (Some n) None) None → m ≤ n
past_by n m true e f = cc
past_by n m false e f = grind (arith, nat_tests)

-- the first place of a key: it has the key, and each place that has it is no earlier
pub record FirstPlace (keys : List ℤ) (key : ℤ) (p : ℕ) : Type 0 where
  pub has : slice_get keys p ≡ Some key
  pub first : (q : ℕ) → slice_get keys q ≡ Some key → p ≤ q

apart : (keys : List ℤ) (key : ℤ) (q : ℕ) → slice_get keys q ≡ Some key → q < position_or_len (λ k. int_eq k key) keys → ⊥
apart keys key q there before =
    let here = got keys q key key there in
    let fails = fails_before_first (λ k. int_eq k key) keys q key before in
    let passes = ap (λ k. int_eq k key) here.1 ∙ (Decides-int_eq key key).1 refl in
    cc

earlier : (p q : ℕ) (b : Bool) → nat_lt q p ≡ b → (q < p → ⊥) → p ≤ q
earlier p q true e f = absurd (f (grind (arith, nat_tests)))
earlier p q false e f = grind (arith, nat_tests)

pub place_is_first : (keys : List ℤ) (key : ℤ) (p : ℕ) → position (λ k. int_eq k key) keys ≡ Some p → FirstPlace keys key p
place_is_first keys key p e =
    let n = position_or_len (λ k. int_eq k key) keys in
    let is = place_by n (length keys) (nat_lt n (length keys)) p refl e in
    let passes = passes_at_first (λ k. int_eq k key) keys key is.1 in
    let same : get_or keys n key ≡ key = (Decides-int_eq (get_or keys n key) key).0 passes in
    subst (FirstPlace keys key) is.0
    (record {
      has = slice_get-get_or keys n key is.1 ∙ ap (λ k. Some k) same;
      first = λ q there. earlier n q (nat_lt q n) refl (apart keys key q there);
    })

pub nowhere : (keys : List ℤ) (key : ℤ) (q : ℕ) → position (λ k. int_eq k key) keys ≡ None → slice_get keys q ≡ Some key → ⊥
nowhere keys key q e there =
    let n = position_or_len (λ k. int_eq k key) keys in
    let past = past_by n (length keys) (nat_lt n (length keys)) refl e in
    let within = (got keys q key key there).0 in
    apart keys key q there (omega arith)
