-- A key is the text that is printed of its number.
use Rattle.std.proofs.Common.{◌≡◌, ◌∙◌, sym, refl, ap, ℕ, suc, zero, neg_ℤ, ◌<◌, ◌≤◌, ◌^◌, List, [], ◌∷◌, length, get_or, Bool, true, false, if◌then◌else◌, Option, Some, None, Result, Ok, Err, ℤ, pos, negsuc, arith, rules}
use Rattle.std.specs.Prelude.{◌==◌, ◌&&◌, ◌||◌, not, nat_le, nat_lt, codes, is_some, unwrap_or, IsTrue, OkIff}
use Rattle.std.specs.List.{list_all}
use Rattle.std.specs.Result.{result_ok}
use Rattle.std.specs.Str.Parse.{ParsesUnsigned, digits_value, signed_digits_value}
use Rattle.std.specs.Fmt.{decimal, signed_decimal}
use Rattle.std.proofs.lemmas.Fmt.{decimal-digits_value, decimal_digit, digits_decimal, decimal_nonempty, first_decimal}
use Rattle.column_types.proofs.Whole.{whole_of-signed_decimal}
use mir.Syntax.{w64}
use mir.Val.{SFits}
use lib.Signed.{mag}
use Rattle.std.proofs.lemmas.Bool.{eqb-true, eq-eqb, leb-true, ltb-true, lt-ltb, false≢true}
use Rattle.std.proofs.lemmas.Bool.Decides.{nat_tests}
use Rattle.std.proofs.lemmas.Str.Parse.{IsNumeralModel, numerals_by_value, parse_digits}
use Rattle.column_types.specs.Reading.{fits_bits, whole_of}
use Rattle.script_read.specs.declared.fault.LineWhy.TheVariants as why
use Rattle.script_read.specs.Meaning.{IsFrom}
use Rattle.script_read.specs.Words.{same, is_digit, is_decimal, decimal_number, within, number, is_key, key_number, or_number, key}
use Rattle.script_read.proofs.Inversions.{err_ok, carried}

own : IsNumeralModel (λ ds. list_all is_digit ds ≡ true) (digits_value 10)
own = numerals_by_value _ (search rules)

and_parts : (a b : Bool) → (a && b) ≡ true → (a ≡ true) × (b ≡ true)
and_parts true b h = (refl, h)
and_parts false b h = cc

lead_alone : (a b : Bool) → (a || not b) ≡ true → b ≡ true → a ≡ true
lead_alone true b h e = refl
lead_alone false true h e = cc
lead_alone false false h e = cc

decimal_is : (cs : List ℕ) (d : ℕ) → digits_value 10 cs ≡ d → is_decimal cs ≡ true → d < 2 ^ 64 → decimal d ≡ cs
decimal_is [] d e p lt = cc
decimal_is (c ∷ cs) d e p lt =
    let a = and_parts _ _ p in
    let lead : c ≡ 48 → length (c ∷ cs) ≡ 1 = λ k. eqb-true (length (c ∷ cs)) 1 (lead_alone _ _ a.1 (eq-eqb c 48 k)) in
    ap decimal (sym e) ∙ decimal-digits_value own (c ∷ cs) a.0 (omega arith) lead (rw e lt)

not_same : (cs : List ℕ) → cs ≡ codes "0" → same cs (codes "0") ≡ false → ⊥
not_same cs e h = false≢true (sym (rw e at h))

not_false : (b : Bool) → not b ≡ true → b ≡ false
not_false true h = cc
not_false false h = refl

minus : (cs : List ℕ) (d : ℕ) → digits_value 10 cs ≡ d → is_decimal cs ≡ true → same cs (codes "0") ≡ false → fits_bits 63 (neg_ℤ (pos d)) ≡ true → 45 ∷ cs ≡ signed_decimal (neg_ℤ (pos d))
minus cs zero e p n f =
    let zero_is : cs ≡ codes "0" = sym (decimal_is cs 0 e p (omega arith)) ∙ decimal_digit 0 (omega arith) in
    absurd (not_same cs zero_is n)
minus cs (suc n) e p s f =
    let lt = ltb-true n (2 ^ 63) f in
    ap (λ (ds : List ℕ). 45 ∷ ds) (sym (decimal_is cs (suc n) e p (omega (arith, lt))))

minus_line : (c : ℕ) (cs : List ℕ) (z : ℤ) → c ≡ 45 → is_decimal cs ≡ true → same cs (codes "0") ≡ false
    → fits_bits 63 (signed_digits_value 10 (c ∷ cs)) ≡ true → signed_digits_value 10 (c ∷ cs) ≡ z → c ∷ cs ≡ signed_decimal z
minus_line c cs z e p n f v =
    let f' : fits_bits 63 (neg_ℤ (pos (digits_value 10 cs))) ≡ true = rw e at f in
    let v' : neg_ℤ (pos (digits_value 10 cs)) ≡ z = rw e at v in
    ap (λ (x : ℕ). x ∷ cs) e ∙ (minus cs (digits_value 10 cs) refl p n f' ∙ ap signed_decimal v')

plain : (cs : List ℕ) (d : ℕ) → digits_value 10 cs ≡ d → is_decimal cs ≡ true → fits_bits 63 (pos d) ≡ true → cs ≡ signed_decimal (pos d)
plain cs d e p f = let lt = ltb-true d (2 ^ 63) f in sym (decimal_is cs d e p (omega (arith, lt)))

key_parts : (b : Bool) (o : Option ℤ) (z : ℤ) → or_number (if b then o else None) ≡ Ok z → (b ≡ true) × (o ≡ Some z)
key_parts true (Some y) z h = carried (λ x. (true ≡ true) × (Some y ≡ Some x)) y z h (refl, refl)
key_parts true None z h = absurd (err_ok why.Number z h)
key_parts false o z h = absurd (err_ok why.Number z h)

whole_parts : (a f : Bool) (v z : ℤ) → (if a && f then Some v else None) ≡ Some z → (f ≡ true) × (v ≡ z)
whole_parts true true v z h = (refl, cc)
whole_parts true false v z h = cc
whole_parts false f v z h = cc

digit_first : (c : ℕ) (cs : List ℕ) → is_decimal (c ∷ cs) ≡ true → 48 ≤ c
digit_first c cs p = leb-true 48 c (and_parts _ _ (and_parts _ _ (and_parts _ _ p).0).0).0

plain_value : (c : ℕ) (cs : List ℕ) → 48 ≤ c → signed_digits_value 10 (c ∷ cs) ≡ pos (digits_value 10 (c ∷ cs))
plain_value c cs h = grind (arith, nat_tests)

spelled_by : (minus_first : Bool) (c : ℕ) (cs : List ℕ) (z : ℤ) → (c == 45) ≡ minus_first
    → (if minus_first then is_decimal cs && not (same cs (codes "0")) else is_decimal (c ∷ cs)) ≡ true
    → fits_bits 63 (signed_digits_value 10 (c ∷ cs)) ≡ true → signed_digits_value 10 (c ∷ cs) ≡ z → c ∷ cs ≡ signed_decimal z
spelled_by true c cs z m p f v =
    let a = and_parts _ _ p in
    let e = eqb-true c 45 m in
    minus_line c cs z e a.0 (not_false _ a.1) f v
spelled_by false c cs z m p f v =
    let w = plain_value c cs (digit_first c cs p) in
    plain (c ∷ cs) (digits_value 10 (c ∷ cs)) refl p (rw w at f) ∙ ap signed_decimal (sym w ∙ v)

-- a word that is read as a key is the text that is printed of its number
pub key_spelled : (word : List ℕ) (z : ℤ) → key word ≡ Ok z → word ≡ signed_decimal z
unfolding key key_number
key_spelled [] z h = absurd (err_ok why.Number z h)
key_spelled (c ∷ cs) z h =
    let a = key_parts (is_key (c ∷ cs)) (whole_of 63 (c ∷ cs)) z h in
    let b = whole_parts _ _ _ z a.1 in
    spelled_by (c == 45) c cs z refl a.0 b.0 b.1

or_lead : (a b : Bool) → (b ≡ true → a ≡ true) → (a || not b) ≡ true
or_lead true b h = refl
or_lead false true h = h refl
or_lead false false h = refl

decimal_from : (ds : List ℕ) → list_all is_digit ds ≡ true → 0 < length ds → (get_or ds 0 0 ≡ 48 → length ds ≡ 1) → is_decimal ds ≡ true
decimal_from [] p filled lead = absurd (omega (arith, filled))
decimal_from (c ∷ cs) p filled lead =
    rw p (or_lead (length (c ∷ cs) == 1) (c == 48) (λ e. eq-eqb (length (c ∷ cs)) 1 (lead (eqb-true c 48 e))))

one_zero : (n : ℕ) → n < 2 ^ 64 → get_or (decimal n) 0 0 ≡ 48 → length (decimal n) ≡ 1
one_zero zero h e = ap length (decimal_digit 0 (omega arith))
one_zero (suc n) h e = let f = first_decimal (suc n) (omega arith) h in absurd (omega (arith, f, e))

printed_is_decimal : (n : ℕ) → n < 2 ^ 64 → is_decimal (decimal n) ≡ true
printed_is_decimal n h = decimal_from (decimal n) (digits_decimal own n h) (decimal_nonempty n h) (one_zero n h)

no_minus : (c : ℕ) → 48 ≤ c → (c == 45) ≡ false
no_minus c h = grind (arith, nat_tests)

plain_is_key : (ds : List ℕ) → is_decimal ds ≡ true → is_key ds ≡ true
plain_is_key [] p = cc
plain_is_key (c ∷ cs) p = rw (no_minus c (digit_first c cs p)) p

no_zero : (c : ℕ) → 48 < c → (c == 48) ≡ false
no_zero c h = grind (arith, nat_tests)

not_zero_text : (ds : List ℕ) → 48 < get_or ds 0 0 → not (same ds (codes "0")) ≡ true
not_zero_text [] h = refl
not_zero_text (c ∷ cs) h = rw (no_zero c h) refl

printed_is_key : (z : ℤ) → mag z < 2 ^ 63 → is_key (signed_decimal z) ≡ true
printed_is_key (pos n) h = plain_is_key (decimal n) (printed_is_decimal n (omega (arith, h)))
printed_is_key (negsuc n) h =
    let small : suc n < 2 ^ 64 = omega (arith, h) in
    rw (printed_is_decimal (suc n) small) (not_zero_text (decimal (suc n)) (first_decimal (suc n) (omega arith) small))

-- the text that is printed of a number is read as a key of that number
pub key_again : (z : ℤ) → SFits w64 z → mag z < 2 ^ 63 → key (signed_decimal z) ≡ Ok z
unfolding key key_number
key_again z fits small = rw (printed_is_key z small, whole_of-signed_decimal w64 z fits small) refl

-- ---- numbers without sign

not_less : (v : ℕ) (b : Bool) → nat_lt v (2 ^ 64) ≡ b → (v < 2 ^ 64 → ⊥) → b ≡ false
not_less v true e h = absurd (h (ltb-true v (2 ^ 64) e))
not_less v false e h = refl

digits_read : {E : Type 0} (bs : List ℕ) (r : Result ℕ E) → 0 < length bs → OkIff r ((0 < length bs) × (digits_value 10 bs < 2 ^ 64)) (digits_value 10 bs)
    → result_ok r ≡ (if nat_lt (digits_value 10 bs) (2 ^ 64) then Some (digits_value 10 bs) else None)
digits_read bs (Ok v) filled h = rw (lt-ltb (digits_value 10 bs) (2 ^ 64) h.0.1) (ap (λ (n : ℕ). Some n) h.1)
digits_read bs (Err e) filled h = rw (not_less (digits_value 10 bs) _ refl (λ l. h (filled, l))) refl

decimal_read : {E : Type 0} (bs : List ℕ) (r : Result ℕ E) → ParsesUnsigned 64 10 bs r → is_decimal bs ≡ true
    → result_ok r ≡ (if nat_lt (digits_value 10 bs) (2 ^ 64) then Some (digits_value 10 bs) else None)
decimal_read [] r h p = cc
decimal_read (c ∷ cs) r h p = digits_read (c ∷ cs) r (omega arith) (parse_digits own 64 (c ∷ cs) r h (and_parts _ _ p).0)

-- what `parse` reads of decimal digits is their number
pub parsed_number : {E : Type 0} (bs : List ℕ) (r : Result ℕ E) → ParsesUnsigned 64 10 bs r → is_decimal bs ≡ true → result_ok r ≡ decimal_number bs
unfolding decimal_number
parsed_number bs r h p = rw p (decimal_read bs r h p)

-- a word that writes a number from one to another is what is printed of it
record IsNumber (least most : ℕ) (word : List ℕ) (n : ℕ) : Type 0 where
  written : decimal n ≡ word
  from : IsFrom least most n

within_is : (b : Bool) (least most : ℕ) (word : List ℕ) (n : ℕ) → (nat_le least n && nat_le n most) ≡ b → decimal n ≡ word → IsTrue (is_some (if b then Some n else None))
    → IsNumber least most word (unwrap_or (if b then Some n else None) 0)
within_is true least most word n e w h =
    let a = and_parts _ _ e in
    record { written = w; from = record { low = leb-true least n a.0; high = leb-true n most a.1 } }
within_is false least most word n e w h = cc

number_by : (b : Bool) (least most : ℕ) (word : List ℕ) → (is_decimal word && nat_lt (digits_value 10 word) (2 ^ 64)) ≡ b
    → IsTrue (is_some (within least most (if b then Some (digits_value 10 word) else None)))
    → IsNumber least most word (unwrap_or (within least most (if b then Some (digits_value 10 word) else None)) 0)
number_by true least most word e h =
    let a = and_parts _ _ e in
    within_is _ least most word (digits_value 10 word) refl (decimal_is word (digits_value 10 word) refl a.0 (ltb-true (digits_value 10 word) (2 ^ 64) a.1)) h
number_by false least most word e h = cc

-- a word that is read as a number is printed of that number, which lies in its limits
pub number_is : (least most : ℕ) (word : List ℕ) → IsTrue (is_some (number least most word))
    → (decimal (unwrap_or (number least most word) 0) ≡ word) × IsFrom least most (unwrap_or (number least most word) 0)
unfolding number decimal_number
number_is least most word h = let a = number_by _ least most word refl h in (a.written, a.from)
