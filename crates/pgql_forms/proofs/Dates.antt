-- A text that is a date is a day of the range.
use Rattle.std.proofs.Common.{◌≡◌, refl, sym, subst, ℕ, ◌+◌, ◌-◌, ◌*◌, ◌<◌, ◌≤◌, Bool, true, false, cond, ◌||◌, ◌&&◌, nat_lt, List, [], ◌∷◌, Option, Some, None, ℤ, pos, arith}
use Rattle.std.specs.Prelude.{◌==◌, nat_le}
use Rattle.std.proofs.lemmas.Bool.Decides.{nat_tests}
use Rattle.jiff_core.specs.declared.civil.date.Date.{Date}
use Rattle.jiff_core.specs.Calendar.{days_in_month, days_from_civil}
use Rattle.jiff_core.proofs.SignedLemmas.{signed_arith}
use Rattle.column_types.specs.Date.{is_day, two_of, day_of, date_of}
use Rattle.column_types.specs.Date as date
use Rattle.column_types.proofs.Days.{is_day-epoch_day}

none_or : {A : Type 0} (b : Bool) (x y : A) → cond b None (Some x) ≡ Some y → (b ≡ false) × (y ≡ x)
none_or true x y e = cc
none_or false x y e = (refl, cc)

some_or : {A : Type 0} (b : Bool) (x y : A) → cond b (Some x) None ≡ Some y → (b ≡ true) × (y ≡ x)
some_or true x y e = (refl, cc)
some_or false x y e = cc

when : (b : Bool) (o : Option ℤ) (z : ℤ) → cond b o None ≡ Some z → o ≡ Some z
when true o z e = e
when false o z e = cc

step : {A : Type 0} (o : Option A) (f : A → Option ℤ) (z : ℤ) → (date.◌>>=◌ o f) ≡ Some z → (x : A) × (o ≡ Some x) × (f x ≡ Some z)
step None f z e = cc
step (Some x) f z e = (x, refl, e)

two_small : (high low n : ℕ) → two_of high low ≡ Some n → n ≤ 99
two_small high low n e =
    let p = none_or (nat_lt high 48 || nat_lt 57 high || nat_lt low 48 || nat_lt 57 low) ((high - 48) * 10 + (low - 48)) n e in
    grind (arith, nat_tests, p.0, p.1)

tests_are : (m d n : ℕ) → (nat_le 1 m && (nat_le m 12 && (nat_le 1 d && nat_le d n))) ≡ true → (1 ≤ m) × (m ≤ 12) × (1 ≤ d) × (d ≤ n)
tests_are m d n e = grind (arith, nat_tests)

day_lies : (y m d : ℕ) (z : ℤ) → y < 10000 → day_of y m d ≡ Some z → is_day z ≡ true
day_lies y m d z small e =
    let p = some_or (nat_le 1 m && (nat_le m 12 && (nat_le 1 d && nat_le d (days_in_month (pos y) m)))) (days_from_civil (pos y) m d) z e in
    let q = tests_are m d (days_in_month (pos y) m) p.0 in
    let day : Date = record { year = pos y; month = m; day = d; year_in = (omega (arith, signed_arith), omega (arith, signed_arith)); month_in = (q.0, q.1); day_in = (q.2, q.3) } in
    subst (λ x. is_day x ≡ true) (sym p.1) (is_day-epoch_day day (omega (arith, signed_arith)))

-- a text that is a date is a day of the range
pub date_lies : (bs : List ℕ) (z : ℤ) → date_of bs ≡ Some z → is_day z ≡ true
unfolding date_of
date_lies [] z e = cc
date_lies (a ∷ []) z e = cc
date_lies (a ∷ b ∷ []) z e = cc
date_lies (a ∷ b ∷ c ∷ []) z e = cc
date_lies (a ∷ b ∷ c ∷ d ∷ []) z e = cc
date_lies (a ∷ b ∷ c ∷ d ∷ i ∷ []) z e = cc
date_lies (a ∷ b ∷ c ∷ d ∷ i ∷ x ∷ []) z e = cc
date_lies (a ∷ b ∷ c ∷ d ∷ i ∷ x ∷ f ∷ []) z e = cc
date_lies (a ∷ b ∷ c ∷ d ∷ i ∷ x ∷ f ∷ j ∷ []) z e = cc
date_lies (a ∷ b ∷ c ∷ d ∷ i ∷ x ∷ f ∷ j ∷ g ∷ []) z e = cc
date_lies (a ∷ b ∷ c ∷ d ∷ i ∷ x ∷ f ∷ j ∷ g ∷ h ∷ []) z e =
    let chain = when ((i == 45) && (j == 45)) _ z e in
    let century = step (two_of a b) _ z chain in
    let year = step (two_of c d) _ z century.2 in
    let month = step (two_of x f) _ z year.2 in
    let day = step (two_of g h) _ z month.2 in
    day_lies (century.0 * 100 + year.0) month.0 day.0 z (omega (arith, two_small a b century.0 century.1, two_small c d year.0 year.1)) day.2
date_lies (a ∷ b ∷ c ∷ d ∷ i ∷ x ∷ f ∷ j ∷ g ∷ h ∷ k ∷ bs) z e = cc
