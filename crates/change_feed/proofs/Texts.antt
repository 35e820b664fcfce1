-- The fields of a record are read one after another.
use Rattle.std.proofs.Common.{◌≡◌, ◌∙◌, sym, refl, ap, ℕ, zero, suc, ◌+◌, ◌<◌, ◌≤◌, Bool, true, false, List, [], ◌∷◌, ◌++◌, length, drop, get_or, Option, Some, None, Result, Ok, Err, arith, append_assoc, drop-cons, add-one, IsUtf8, Bor}
use Rattle.std.proofs.lemmas.List.{drop_all, append-nil}
use native.Mathlib.Numerals.{unary_clauses}
use Rattle.std.specs.Prelude.{option_map, option_and_then, ◌&&◌, MatchResult, is_ok}
use Rattle.std.specs.Result.{result_ok}
use Rattle.std.specs.List.{list_all}
use Rattle.std.specs.Str.{is_utf8}
use Rattle.std.proofs.lemmas.Str.{IsUtf8-from_is_utf8, is_utf8-from_IsUtf8}
use Rattle.csv.specs.Records.{field_at}
use Rattle.csv_records.proofs.Texts.{field-drop, field-end}
use Rattle.column_types.specs.declared.kind.Kind.{Kind}
use Rattle.column_types.specs.declared.value.Value.{Value}
use Rattle.column_types.specs.Reading.{read_value}
use Rattle.graph_schema.specs.declared.schema.Prop.{Prop}
use Rattle.change_feed.specs.declared.fault.RowFault.{RowFault}
use Rattle.change_feed.specs.declared.fault.RowFault.TheVariants as one
use Rattle.change_feed.specs.declared.fault.RowCause.{RowCause}
use Rattle.change_feed.specs.declared.fault.RowCause.TheVariants as cause
use Rattle.change_feed.specs.Fault.{IsCause}
use Rattle.change_feed.specs.Row.{or_cause, value_at, values_of}

item_drop : {A : Type 0} (xs : List A) (i : ℕ) (x : A) → i < length xs → x ≡ get_or xs i x → drop i xs ≡ x ∷ drop (i + 1) xs
item_drop xs i x h is = rw (add-one, drop-cons xs i x) (ap (λ y. y ∷ drop (suc i) xs) (sym is))

-- ---- values

abbrev pub with_front : List Value → Option (List Value) → Option (List Value)
with_front front rest = option_map (λ vs. front ++ vs) rest

more : (front : List Value) (v : Value) (rest : Option (List Value)) → with_front (front ++ v ∷ []) rest ≡ with_front front (option_map (λ vs. v ∷ vs) rest)
more front v None = refl
more front v (Some vs) = ap (λ x. Some x) (append_assoc front (v ∷ []) vs)

ok_is : {A : Type 0} (o : Option A) (x : A) → or_cause cause.Field o ≡ Ok x → o ≡ Some x
ok_is None x h = cc
ok_is (Some y) x h = cc

err_is : {A : Type 0} (o : Option A) (n : RowCause) → or_cause cause.Field o ≡ Err n → (o ≡ None) × (n ≡ cause.Field)
err_is None n h = (refl, cc)
err_is (Some y) n h = cc

-- a field that was read as a value is there
field_is : (k : Kind) (o : Option (List ℕ)) (v : Value) → option_and_then (read_value k) o ≡ Some v → (f : List ℕ) × (o ≡ Some f) × (read_value k f ≡ Some v)
field_is k None v h = cc
field_is k (Some f) v h = (f, refl, h)

first_is : (p : Prop) (ps : List Prop) (f : List ℕ) (fs : List (List ℕ)) (v : Value) → read_value p.kind f ≡ Some v → values_of (p ∷ ps) (f ∷ fs) ≡ option_map (λ vs. v ∷ vs) (values_of ps fs)
unfolding values_of
first_is p ps f fs v h = ap (option_and_then (λ w. option_map (λ vs. w ∷ vs) (values_of ps fs))) h

pub goes_on : (props : List Prop) (i : ℕ) (p : Prop) (fields : List (List ℕ)) (place next : ℕ) (front : List Value) (v : Value) (whole : Option (List Value))
    → i < length props → p ≡ get_or props i p → value_at p.kind fields place ≡ Ok v
    → next ≡ place + 1 → with_front front (values_of (drop i props) (drop place fields)) ≡ whole
    → with_front (front ++ v ∷ []) (values_of (drop (i + 1) props) (drop next fields)) ≡ whole
unfolding value_at
goes_on props i p fields place next front v whole within is read behind so =
    let at = field_is p.kind (field_at fields place) v (ok_is (option_and_then (read_value p.kind) (field_at fields place)) v read) in
    let split = rw (item_drop props i p within is, field-drop fields place at.0 at.1) at so in
    ap (λ n. with_front (front ++ v ∷ []) (values_of (drop (i + 1) props) (drop n fields))) behind
    ∙ more front v (values_of (drop (i + 1) props) (drop (place + 1) fields))
    ∙ sym (ap (with_front front) (first_is p (drop (i + 1) props) at.0 (drop (place + 1) fields) v at.2))
    ∙ split

none_first : (p : Prop) (ps : List Prop) (fields : List (List ℕ)) (o : Option (List ℕ)) (place : ℕ) → field_at fields place ≡ o → option_and_then (read_value p.kind) o ≡ None → values_of (p ∷ ps) (drop place fields) ≡ None
unfolding values_of
none_first p ps fields None place is none = rw (field-end fields place is) refl
none_first p ps fields (Some f) place is none = rw (field-drop fields place f is) (ap (option_and_then (λ w. option_map (λ vs. w ∷ vs) (values_of ps (drop (place + 1) fields)))) none)

pub stops : (props : List Prop) (i : ℕ) (p : Prop) (fields : List (List ℕ)) (place : ℕ) (front : List Value) (whole : Option (List Value)) (fault : RowFault)
    → i < length props → p ≡ get_or props i p → IsCause (value_at p.kind fields place) fault
    → with_front front (values_of (drop i props) (drop place fields)) ≡ whole
    → IsCause (or_cause cause.Field whole) fault
unfolding value_at
stops props i p fields place front whole one.NoMemory within is read so = tt
stops props i p fields place front whole (one.Bad n) within is read so =
    let bad = err_is (option_and_then (read_value p.kind) (field_at fields place)) n read in
    let split = rw (item_drop props i p within is) at so in
    let none : whole ≡ None = sym split ∙ ap (with_front front) (none_first p (drop (i + 1) props) fields (field_at fields place) place refl bad.0) in
    rw (none, bad.1) refl

pub ends : (props : List Prop) (fields : List (List ℕ)) (i first : ℕ) (front : List Value) (whole : Option (List Value))
    → length fields ≡ length props + first → length props ≤ i → with_front front (values_of (drop i props) (drop (first + i) fields)) ≡ whole → or_cause cause.Field whole ≡ Ok front
unfolding values_of
ends props fields i first front whole n m h =
    let a : drop i props ≡ [] = drop_all i props m in
    let b : drop (first + i) fields ≡ [] = drop_all (first + i) fields (omega arith) in
    ap (λ (o : Option (List Value)). or_cause cause.Field o) (sym (rw (a, b) at h)) ∙ ap (λ x. Ok x) (append-nil front)
