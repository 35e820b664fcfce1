-- What a step without a fault, and a step with one, come from.
use Rattle.std.proofs.Common.{◌≡◌, ◌∙◌, sym, refl, ℕ, List, [], ◌∷◌, ◌++◌, length, Bool, true, false, if◌then◌else◌, Result, Ok, Err, arith}
use Rattle.std.specs.Prelude.{◌==◌, ◌&&◌, not, IsTrue, slice_get, unwrap_or}
use Rattle.std.specs.List.{join_with_byte}
use Rattle.std.proofs.lemmas.Result.{IfOk-at_ok, IfErr-at_err}
use Rattle.std.proofs.lemmas.Bool.{eqb-true}
use Rattle.std.proofs.lemmas.Slice.Eq.{bytes_eq-Decides}
use Rattle.std.proofs.lemmas.List.Splits.{join_with_byte-slice_split}
use Rattle.std.proofs.Math.Logic.{◌⊎◌, inl, inr}
use Rattle.script_read.specs.declared.fault.LineWhy.{LineWhy}
use Rattle.script_read.specs.declared.fault.LineWhy.TheVariants as why
use Rattle.script_read.specs.Script.{at_line}
use Rattle.script_read.specs.Faults.{◌>>=◌}
use Rattle.script_read.specs.Words.{same, words_of, word_count, word_at, is_name, name, is_file_name, file_name}

-- a fault is no answer
pub err_ok : {A E : Type 0} (w : E) (t : A) → Err w ≡ Ok t → ⊥
err_ok w t h = cc

-- an answer is no fault
pub ok_err : {A E : Type 0} (e : E) (t : A) → Ok t ≡ Err e → ⊥
ok_err e t h = cc

abbrev pub err_of : {E : Type 0} (A : Type 0) → E → Result A E
err_of A e = Err e

abbrev pub ok_of : {A : Type 0} (E : Type 0) → A → Result A E
ok_of E x = Ok x

-- what holds of an answer holds of the same answer
pub carried : {A E : Type 0} (P : A → Type 0) (x t : A) → ok_of E x ≡ Ok t → P x → P t
carried P x t h p = IfOk-at_ok P h p

-- a test that would find a fault did not
pub passed : {A : Type 0} (b : Bool) (w : LineWhy) (r : Result A LineWhy) (t : A) → (if b then Err w else r) ≡ Ok t → (b ≡ false) × (r ≡ Ok t)
passed true w r t h = absurd (err_ok w t h)
passed false w r t h = (refl, h)

-- a choice of two steps
pub either : {A : Type 0} (b : Bool) (x y : Result A LineWhy) (t : A) (P : Type 0) → (b ≡ true → x ≡ Ok t → P) → (y ≡ Ok t → P) → (if b then x else y) ≡ Ok t → P
either true x y t P f g h = f refl h
either false x y t P f g h = g h

-- the first of two steps
pub first : {A B : Type 0} (r : Result A LineWhy) (f : A → Result B LineWhy) (t : B) → (r >>= f) ≡ Ok t → (x : A) × (r ≡ Ok x) × (f x ≡ Ok t)
first (Ok x) f t h = (x, refl, h)
first (Err w) f t h = absurd (err_ok w t h)

name_by : (b : Bool) (word x : List ℕ) → is_name word ≡ b → (if b then Ok word else Err why.Name) ≡ Ok x → (word ≡ x) × IsTrue (is_name x)
name_by true word x e h = carried (λ y. (word ≡ y) × IsTrue (is_name y)) word x h (refl, e)
name_by false word x e h = absurd (err_ok why.Name x h)

-- a word that is read as a name is that name
pub named : (word x : List ℕ) → name word ≡ Ok x → (word ≡ x) × IsTrue (is_name x)
unfolding name
named word x h = name_by (is_name word) word x refl h

file_by : (b : Bool) (word x : List ℕ) → is_file_name word ≡ b → (if b then Ok word else Err why.Name) ≡ Ok x → (word ≡ x) × IsTrue (is_file_name x)
file_by true word x e h = carried (λ y. (word ≡ y) × IsTrue (is_file_name y)) word x h (refl, e)
file_by false word x e h = absurd (err_ok why.Name x h)

-- a word that is read as a file name is that file name
pub file_named : (word x : List ℕ) → file_name word ≡ Ok x → (word ≡ x) × IsTrue (is_file_name x)
unfolding file_name
file_named word x h = file_by (is_file_name word) word x refl h

-- a test that did not fail
pub not_not : (b : Bool) → not b ≡ false → b ≡ true
not_not true h = refl
not_not false h = cc

abbrev word_in : List (List ℕ) → ℕ → List ℕ
word_in words i = unwrap_or (slice_get words i) []

one_word : (words : List (List ℕ)) → (length words == 1) ≡ true → join_with_byte 32 words ≡ word_in words 0
one_word [] h = cc
one_word (x ∷ []) h = refl
one_word (x ∷ y ∷ words) h = absurd (omega (arith, eqb-true (length (x ∷ y ∷ words)) 1 h))

two_words : (words : List (List ℕ)) → (length words == 2) ≡ true → join_with_byte 32 words ≡ word_in words 0 ++ (32 ∷ word_in words 1)
two_words [] h = cc
two_words (x ∷ []) h = cc
two_words (x ∷ y ∷ []) h = refl
two_words (x ∷ y ∷ z ∷ words) h = absurd (omega (arith, eqb-true (length (x ∷ y ∷ z ∷ words)) 2 h))

three_words : (words : List (List ℕ)) → (length words == 3) ≡ true → join_with_byte 32 words ≡ word_in words 0 ++ (32 ∷ (word_in words 1 ++ (32 ∷ word_in words 2)))
three_words [] h = cc
three_words (x ∷ []) h = cc
three_words (x ∷ y ∷ []) h = absurd (omega (arith, eqb-true (length (x ∷ y ∷ [])) 3 h))
three_words (x ∷ y ∷ z ∷ []) h = refl
three_words (x ∷ y ∷ z ∷ u ∷ words) h = absurd (omega (arith, eqb-true (length (x ∷ y ∷ z ∷ u ∷ words)) 3 h))

four_words : (words : List (List ℕ)) → (length words == 4) ≡ true → join_with_byte 32 words ≡ word_in words 0 ++ (32 ∷ (word_in words 1 ++ (32 ∷ (word_in words 2 ++ (32 ∷ word_in words 3)))))
four_words [] h = cc
four_words (x ∷ []) h = cc
four_words (x ∷ y ∷ []) h = absurd (omega (arith, eqb-true (length (x ∷ y ∷ [])) 4 h))
four_words (x ∷ y ∷ z ∷ []) h = absurd (omega (arith, eqb-true (length (x ∷ y ∷ z ∷ [])) 4 h))
four_words (x ∷ y ∷ z ∷ u ∷ []) h = refl
four_words (x ∷ y ∷ z ∷ u ∷ v ∷ words) h = absurd (omega (arith, eqb-true (length (x ∷ y ∷ z ∷ u ∷ v ∷ words)) 4 h))

-- a line is its words with a space between each two
pub one_spelled : (line : List ℕ) → not (word_count line == 1) ≡ false → line ≡ word_at line 0
unfolding word_count word_at
one_spelled line h = sym (join_with_byte-slice_split 32 line) ∙ one_word (words_of line) (not_not _ h)

pub two_spelled : (line : List ℕ) → not (word_count line == 2) ≡ false → line ≡ word_at line 0 ++ (32 ∷ word_at line 1)
unfolding word_count word_at
two_spelled line h = sym (join_with_byte-slice_split 32 line) ∙ two_words (words_of line) (not_not _ h)

pub three_spelled : (line : List ℕ) → (word_count line == 3) ≡ true → line ≡ word_at line 0 ++ (32 ∷ (word_at line 1 ++ (32 ∷ word_at line 2)))
unfolding word_count word_at
three_spelled line h = sym (join_with_byte-slice_split 32 line) ∙ three_words (words_of line) h

pub four_spelled : (line : List ℕ) → (word_count line == 4) ≡ true → line ≡ word_at line 0 ++ (32 ∷ (word_at line 1 ++ (32 ∷ (word_at line 2 ++ (32 ∷ word_at line 3)))))
unfolding word_count word_at
four_spelled line h = sym (join_with_byte-slice_split 32 line) ∙ four_words (words_of line) h

pub both : (a b : Bool) → not (a && b) ≡ false → (a ≡ true) × (b ≡ true)
both true true h = (refl, refl)
both true false h = cc
both false b h = cc

-- a fault at a line is a fault of the step there, or comes after it
pub at_line_err : {A B : Type 0} (n : ℕ) (r : Result A LineWhy) (f : A → Result B (ℕ × LineWhy)) (m : ℕ) (w : LineWhy) → at_line n r f ≡ Err (m, w)
    → ((r ≡ Err w) × (m ≡ n)) ⊎ ((x : A) × (r ≡ Ok x) × (f x ≡ Err (m, w)))
at_line_err n (Ok x) f m w h = inr (x, refl, h)
at_line_err {A} n (Err y) f m w h = inl (IfErr-at_err (λ (p : ℕ × LineWhy). (err_of A y ≡ Err p.1) × (p.0 ≡ n)) h (refl, refl))

-- an answer at a line comes from an answer of the step there
pub at_line_ok : {A B : Type 0} (n : ℕ) (r : Result A LineWhy) (f : A → Result B (ℕ × LineWhy)) (t : B) → at_line n r f ≡ Ok t
    → (x : A) × (r ≡ Ok x) × (f x ≡ Ok t)
at_line_ok n (Ok x) f t h = (x, refl, h)
at_line_ok n (Err y) f t h = cc

-- texts that are the same
pub same_is : (a b : List ℕ) → same a b ≡ true → a ≡ b
same_is a b h = (bytes_eq-Decides a b).0 h

pub is_same : (a b : List ℕ) → a ≡ b → same a b ≡ true
is_same a b e = (bytes_eq-Decides a b).1 e
