-- The fields of a record, one after another.
use Rattle.std.proofs.Common.{◌≡◌, ◌∙◌, sym, refl, ap, ℕ, zero, suc, ◌+◌, ◌≤◌, Bool, true, false, List, [], ◌∷◌, length, drop, Option, Some, None, Result, Ok, Err, arith, IsUtf8, Bor}
use native.Mathlib.Numerals.{unary_clauses}
use Rattle.std.specs.Prelude.{option_map, ◌&&◌, MatchResult, is_ok}
use Rattle.std.specs.Result.{result_ok}
use Rattle.std.specs.List.{list_all}
use Rattle.std.specs.Str.{is_utf8}
use Rattle.std.proofs.lemmas.Str.{IsUtf8-from_is_utf8, is_utf8-from_IsUtf8}
use Rattle.csv.specs.Records.{field_at}
use Rattle.csv_records.specs.Texts.{are_texts}

-- ---- the field at a place

-- the fields from a place on, with the one there in front
pub field-drop : (fields : List (List ℕ)) (i : ℕ) (f : List ℕ) → field_at fields i ≡ Some f → drop i fields ≡ f ∷ drop (i + 1) fields
unfolding field_at
field-drop [] i f h = cc
field-drop (x ∷ xs) zero f h = let e : x ≡ f = cc in rw e refl
field-drop (x ∷ xs) (suc i) f h = simp unary_clauses (simp unary_clauses at (field-drop xs i f h))

pub field-end : (fields : List (List ℕ)) (i : ℕ) → field_at fields i ≡ None → drop i fields ≡ []
unfolding field_at
field-end [] zero h = refl
field-end [] (suc i) h = refl
field-end (x ∷ xs) zero h = cc
field-end (x ∷ xs) (suc i) h = field-end xs i h

pub field-all : (fields : List (List ℕ)) (i : ℕ) → length fields ≤ i → field_at fields i ≡ None
unfolding field_at
field-all [] i h = refl
field-all (x ∷ xs) zero h = absurd (omega arith)
field-all (x ∷ xs) (suc i) h = field-all xs i (omega arith)

-- ---- texts

and-true : (a b : Bool) → (a && b) ≡ true → (a ≡ true) × (b ≡ true)
and-true true b h = (refl, h)
and-true false b h = cc

false_from : (b : Bool) → (b ≡ true → ⊥) → false ≡ b
false_from true h = absurd (h refl)
false_from false h = refl

-- what `from_utf8` tells of bytes
pub is_text_by : {E : Type 0} (N : E → Type 0) (bs : List ℕ) (r : Result (Bor (List ℕ)) E) → MatchResult r (λ s. (s.now ≡ bs) × IsUtf8 bs) (λ e. ¬ (IsUtf8 bs) × N e) → is_ok r ≡ is_utf8 bs
is_text_by N bs (Ok s) h = sym (is_utf8-from_IsUtf8 bs h.1)
is_text_by N bs (Err e) h = false_from (is_utf8 bs) (λ t. h.0 (IsUtf8-from_is_utf8 bs t))

pub text_by : {E : Type 0} (N : E → Type 0) (bs : List ℕ) (r : Result (Bor (List ℕ)) E) → MatchResult r (λ s. (s.now ≡ bs) × IsUtf8 bs) (λ e. ¬ (IsUtf8 bs) × N e) → IsUtf8 bs → option_map (λ s. s.now) (result_ok r) ≡ Some bs
text_by N bs (Ok s) h text = ap (λ t. Some t) h.0
text_by N bs (Err e) h text = absurd (h.0 text)

-- the fields from one on are texts where it is one and those behind it are
pub texts_more : (fields : List (List ℕ)) (i : ℕ) (f : List ℕ) (whole : Bool) → Some f ≡ field_at fields i → is_utf8 f ≡ true → list_all is_utf8 (drop i fields) ≡ whole → list_all is_utf8 (drop (i + 1) fields) ≡ whole
texts_more fields i f whole at this so = sym (rw (field-drop fields i f (sym at)) (rw this refl)) ∙ so

pub texts_less : (fields : List (List ℕ)) (i : ℕ) (f : List ℕ) (whole : Bool) → Some f ≡ field_at fields i → is_utf8 f ≡ false → list_all is_utf8 (drop i fields) ≡ whole → false ≡ whole
texts_less fields i f whole at this so = sym (rw (field-drop fields i f (sym at)) (rw this refl)) ∙ so

pub texts_end : (fields : List (List ℕ)) (i : ℕ) (whole : Bool) → None ≡ field_at fields i → list_all is_utf8 (drop i fields) ≡ whole → true ≡ whole
texts_end fields i whole at so = sym (rw (field-end fields i (sym at)) refl) ∙ so

-- a field of texts is UTF-8
pub text-at : (fields : List (List ℕ)) (i : ℕ) (f : List ℕ) → are_texts fields ≡ true → field_at fields i ≡ Some f → IsUtf8 f
unfolding field_at
text-at [] i f t h = cc
text-at (x ∷ xs) zero f t h = let e : x ≡ f = cc in rw (← e) (IsUtf8-from_is_utf8 x (and-true (is_utf8 x) (list_all is_utf8 xs) t).0)
text-at (x ∷ xs) (suc i) f t h = text-at xs i f (and-true (is_utf8 x) (list_all is_utf8 xs) t).1 h
