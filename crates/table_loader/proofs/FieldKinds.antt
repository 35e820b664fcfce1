-- What a field is read as is of its kind.
use Rattle.std.proofs.Common.{◌≡◌, refl, sym, ap, subst, ℕ, suc, ◌+◌, ◌-◌, ◌*◌, ◌<◌, ◌≤◌, Bool, true, false, cond, ◌||◌, ◌&&◌, nat_lt, List, [], ◌∷◌, length, Option, Some, None, ℤ, pos, arith}
use Rattle.std.specs.Prelude.{◌==◌, nat_le, option_map, option_and_then}
use Rattle.std.proofs.lemmas.Bool.Decides.{nat_tests}
use Rattle.jiff_core.specs.declared.civil.date.Date.{Date}
use Rattle.jiff_core.specs.Calendar.{days_in_month, days_from_civil}
use Rattle.jiff_core.proofs.SignedLemmas.{signed_arith}
use Rattle.column_types.specs.declared.kind.Kind.{Kind}
use Rattle.column_types.specs.declared.kind.Kind.TheVariants as kind
use Rattle.column_types.specs.declared.value.Value.{Value}
use Rattle.column_types.specs.declared.value.Value.TheVariants.{Null, Integer, Long, Boolean, Text, Date as Day}
use Rattle.column_types.specs.Date.{is_day, two_of, day_of, date_of}
use Rattle.column_types.specs.Date as date
use Rattle.column_types.specs.Value.{fits_kind, is_text}
use Rattle.column_types.specs.Reading.{whole_of, truth_of, read_value}
use Rattle.column_types.proofs.Days.{is_day-epoch_day}
use Rattle.graph_schema.specs.declared.schema.Prop.{Prop}
use Rattle.graph_model.specs.Graph.{kinds_fit}
use Rattle.table_loader.specs.Record.{values_of}

-- ---- days

none_or : {A : Type 0} (b : Bool) (x y : A) → cond b None (Some x) ≡ Some y → (b ≡ false) × (y ≡ x)
none_or true x y e = cc
none_or false x y e = (refl, cc)

some_or : {A : Type 0} (b : Bool) (x y : A) → cond b (Some x) None ≡ Some y → (b ≡ true) × (y ≡ x)
some_or true x y e = (refl, cc)
some_or false x y e = cc

when : (b : Bool) (o : Option ℤ) (z : ℤ) → cond b o None ≡ Some z → o ≡ Some z
when true o z e = e
when false o z e = cc

step : {A : Type 0} (o : Option A) (f : A → Option ℤ) (z : ℤ) → (date.◌>>=◌ o f) ≡ Some z → (x : A) × (o ≡ Some x) × (f x ≡ Some z)
step None f z e = cc
step (Some x) f z e = (x, refl, e)

two_small : (high low n : ℕ) → two_of high low ≡ Some n → n ≤ 99
two_small high low n e =
    let p = none_or (nat_lt high 48 || nat_lt 57 high || nat_lt low 48 || nat_lt 57 low) ((high - 48) * 10 + (low - 48)) n e in
    grind (arith, nat_tests, p.0, p.1)

tests_are : (m d n : ℕ) → (nat_le 1 m && (nat_le m 12 && (nat_le 1 d && nat_le d n))) ≡ true → (1 ≤ m) × (m ≤ 12) × (1 ≤ d) × (d ≤ n)
tests_are m d n e = grind (arith, nat_tests)

day_lies : (y m d : ℕ) (z : ℤ) → y < 10000 → day_of y m d ≡ Some z → is_day z ≡ true
day_lies y m d z small e =
    let p = some_or (nat_le 1 m && (nat_le m 12 && (nat_le 1 d && nat_le d (days_in_month (pos y) m)))) (days_from_civil (pos y) m d) z e in
    let q = tests_are m d (days_in_month (pos y) m) p.0 in
    let day : Date = record { year = pos y; month = m; day = d; year_in = (omega (arith, signed_arith), omega (arith, signed_arith)); month_in = (q.0, q.1); day_in = (q.2, q.3) } in
    subst (λ x. is_day x ≡ true) (sym p.1) (is_day-epoch_day day (omega (arith, signed_arith)))

date_lies : (bs : List ℕ) (z : ℤ) → date_of bs ≡ Some z → is_day z ≡ true
unfolding date_of
date_lies [] z e = cc
date_lies (a ∷ []) z e = cc
date_lies (a ∷ b ∷ []) z e = cc
date_lies (a ∷ b ∷ c ∷ []) z e = cc
date_lies (a ∷ b ∷ c ∷ d ∷ []) z e = cc
date_lies (a ∷ b ∷ c ∷ d ∷ i ∷ []) z e = cc
date_lies (a ∷ b ∷ c ∷ d ∷ i ∷ x ∷ []) z e = cc
date_lies (a ∷ b ∷ c ∷ d ∷ i ∷ x ∷ f ∷ []) z e = cc
date_lies (a ∷ b ∷ c ∷ d ∷ i ∷ x ∷ f ∷ j ∷ []) z e = cc
date_lies (a ∷ b ∷ c ∷ d ∷ i ∷ x ∷ f ∷ j ∷ g ∷ []) z e = cc
date_lies (a ∷ b ∷ c ∷ d ∷ i ∷ x ∷ f ∷ j ∷ g ∷ h ∷ []) z e =
    let chain = when ((i == 45) && (j == 45)) _ z e in
    let century = step (two_of a b) _ z chain in
    let year = step (two_of c d) _ z century.2 in
    let month = step (two_of x f) _ z year.2 in
    let day = step (two_of g h) _ z month.2 in
    day_lies (century.0 * 100 + year.0) month.0 day.0 z (omega (arith, two_small a b century.0 century.1, two_small c d year.0 year.1)) day.2
date_lies (a ∷ b ∷ c ∷ d ∷ i ∷ x ∷ f ∷ j ∷ g ∷ h ∷ k ∷ bs) z e = cc

-- ---- values

mapped : {A : Type 0} (f : A → Value) (o : Option A) (v : Value) → option_map f o ≡ Some v → (x : A) × (o ≡ Some x) × (v ≡ f x)
mapped f None v e = cc
mapped f (Some x) v e = (x, refl, cc)

read_fits : (k : Kind) (bs : List ℕ) (v : Value) → read_value k bs ≡ Some v → fits_kind k v ≡ true
read_fits kind.Integer [] v e = let is : v ≡ Null = cc in rw is refl
read_fits kind.Long [] v e = let is : v ≡ Null = cc in rw is refl
read_fits kind.Boolean [] v e = let is : v ≡ Null = cc in rw is refl
read_fits kind.Text [] v e = let is : v ≡ Null = cc in rw is refl
read_fits kind.Date [] v e = let is : v ≡ Null = cc in rw is refl
read_fits kind.Integer (b ∷ bs) v e = let p = mapped Integer (whole_of 31 (b ∷ bs)) v e in rw p.2 refl
read_fits kind.Long (b ∷ bs) v e = let p = mapped Long (whole_of 63 (b ∷ bs)) v e in rw p.2 refl
read_fits kind.Boolean (b ∷ bs) v e = let p = mapped Boolean (truth_of (b ∷ bs)) v e in rw p.2 refl
read_fits kind.Text (b ∷ bs) v e = let p = some_or (is_text (b ∷ bs)) (Text (b ∷ bs)) v e in rw p.1 p.0
read_fits kind.Date (b ∷ bs) v e = let p = mapped Day (date_of (b ∷ bs)) v e in rw p.2 (date_lies (b ∷ bs) p.0 p.1)

both : (a b : Bool) → a ≡ true → b ≡ true → (a && b) ≡ true
both true b e f = f
both false b e f = cc

first_by : (p : Prop) (f : List ℕ) (rest : Option (List Value)) (o : Option Value) (vs : List Value) → read_value p.kind f ≡ o
    → option_and_then (λ v. option_map (λ ws. v ∷ ws) rest) o ≡ Some vs → (v : Value) × (read_value p.kind f ≡ Some v) × (option_map (λ ws. v ∷ ws) rest ≡ Some vs)
first_by p f rest None vs is e = cc
first_by p f rest (Some v) vs is e = (v, is, e)

rest_by : (v : Value) (o : Option (List Value)) (vs : List Value) → option_map (λ ws. v ∷ ws) o ≡ Some vs → (ws : List Value) × (o ≡ Some ws) × (vs ≡ v ∷ ws)
rest_by v None vs e = cc
rest_by v (Some ws) vs e = (ws, refl, cc)

-- as many values as properties, each of its property's kind
pub values_fit : (props : List Prop) (fields : List (List ℕ)) (vs : List Value) → values_of props fields ≡ Some vs → (length vs ≡ length props) × (kinds_fit props vs ≡ true)
unfolding values_of
values_fit [] [] vs e = let is : vs ≡ [] = cc in rw is (refl, refl)
values_fit [] (f ∷ fs) vs e = cc
values_fit (p ∷ ps) [] vs e = cc
values_fit (p ∷ ps) (f ∷ fs) vs e =
    let a = first_by p f (values_of ps fs) (read_value p.kind f) vs refl e in
    let b = rest_by a.0 (values_of ps fs) vs a.2 in
    let q = values_fit ps fs b.0 b.1 in
    rw b.2 (ap (λ n. suc n) q.0, both (fits_kind p.kind a.0) (kinds_fit ps b.0) (read_fits p.kind f a.0 a.1) q.1)
