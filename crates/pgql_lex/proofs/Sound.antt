-- What is found at the front of a text is a token.
use Rattle.std.proofs.Common.{◌≡◌, ◌≢◌, ℕ, ◌+◌, ◌<◌, ◌≤◌, arith, Bool, true, false, not, ◌&&◌, ◌||◌, ◌==◌, cond, nat_le, [], ◌∷◌, ◌++◌, length, take, drop, slice_index, Option, Some, None, refl, sym, ap, ◌∙◌, subst, inl, inr, append_assoc, length-append, add-one}
use Rattle.std.specs.List.{prefix_len}
use Rattle.std.proofs.lemmas.Bool.{leb-true, eqb-true, eqb-false, and_parts, or_cases, or_parts, not-false}
use Rattle.std.proofs.lemmas.Bool.Decides.{nat_tests}
use Rattle.pgql_ast.specs.declared.token.TokenKind.TheVariants.{Keyword, Word, Quoted, Number, Chars, Sign}
use Rattle.pgql_lex.specs.Bytes.{Text, next, is_letter, is_word_byte, is_digit, is_sign, is_long_sign, is_keyword}
use Rattle.pgql_lex.specs.Spelling.{IsWholeWord, Begins, decimal, doubled}
use Rattle.pgql_lex.specs.Tokens.{Found, word, number, fits, closing, with_kind, chars, quoted, sign, token}
use Rattle.pgql_lex.proofs.Facts.{Split, split, take-parts, index-parts, next-parts, next-true}
use Rattle.pgql_lex.proofs.Steps.{first_passes}

-- What is found begins the text.
abbrev pub Told : Text → Found → Type 0
Told z None = Unit {0}
Told z (Some t) = Begins z t.0 t.1

told-if : (z : Text) (v : Bool) (x y : Found) → (v ≡ true → Told z x) → (v ≡ false → Told z y) → Told z (cond v x y)
told-if z true x y f g = f refl
told-if z false x y f g = g refl

pub letter_is_word : (b : ℕ) → is_letter b ≡ true → is_word_byte b ≡ true
letter_is_word b e = grind (arith, nat_tests)

next-split : (p : ℕ → Bool) (z : Text) (s : Split p z) → p (next z) ≡ true → p 0 ≡ false → next s.front ≡ next z
next-split p z s e none =
    let some : 0 < length z = next-true p none z e in
    let moves : 1 ≤ length s.front = omega (arith, first_passes p z some e, s.len) in
    sym (ap next s.parts ∙ next-parts s.front s.behind moves)

take-split : (p : ℕ → Bool) (z : Text) (s : Split p z) → take (prefix_len p z) z ≡ s.front
take-split p z s = ap (λ n. take n z) s.len ∙ ap (take (length s.front)) s.parts ∙ take-parts s.front s.behind

index-split : (p : ℕ → Bool) (z : Text) (s : Split p z) → slice_index z (prefix_len p z) ≡ next s.behind
index-split p z s = ap (slice_index z) s.len ∙ ap (λ l. slice_index l (length s.front)) s.parts ∙ index-parts s.front s.behind

kind-told : (z front behind : Text) (n : ℕ) (key : Bool) → z ≡ front ++ behind → n ≡ length front → IsWholeWord front behind → is_keyword front ≡ key
    → Begins z (cond key Keyword Word) n
kind-told z front behind n true parts len whole e = record { bytes = front; behind = behind; parts = parts; len = len; spelled = (whole, e) }
kind-told z front behind n false parts len whole e = record { bytes = front; behind = behind; parts = parts; len = len; spelled = (whole, e) }

word-told : (z : Text) → is_letter (next z) ≡ true → Told z (word z)
unfolding word
word-told z first =
    let s : Split is_word_byte z = split is_word_byte refl z in
    let n : ℕ = prefix_len is_word_byte z in
    let front_next : next s.front ≡ next z = next-split is_word_byte z s (letter_is_word (next z) first) refl in
    told-if z (nat_le n 64) (Some (cond (is_keyword (take n z)) Keyword Word, n)) None
    (λ short.
    let few : length s.front ≤ 64 = omega (arith, leb-true n 64 short, s.len) in
    let whole : IsWholeWord s.front s.behind =
    record { word = record { begins = ap is_letter front_next ∙ first; bytes = s.passes; short = few }; ends = s.ends } in
    kind-told z s.front s.behind n (is_keyword (take n z)) s.parts s.len whole (ap is_keyword (sym (take-split is_word_byte z s))))
    (λ _. tt)

number-told : (z : Text) → is_digit (next z) ≡ true → Told z (number z)
unfolding number fits
number-told z first =
    let s : Split is_digit z = split is_digit refl z in
    let n : ℕ = prefix_len is_digit z in
    told-if z (is_letter (slice_index z n) || not (nat_le (decimal (take n z)) 9223372036854775807)) None (Some (Number, n)) (λ _. tt)
    (λ e.
    let both = or_parts (is_letter (slice_index z n)) (not (nat_le (decimal (take n z)) 9223372036854775807)) e in
    let small : decimal (take n z) ≤ 9223372036854775807 = leb-true (decimal (take n z)) 9223372036854775807 (not-false (nat_le (decimal (take n z)) 9223372036854775807) both.1) in
    let some : 0 < length z = next-true is_digit refl z first in
    record {
      bytes = s.front;
      behind = s.behind;
      parts = s.parts;
      len = s.len;
      spelled = record {
        some = omega (arith, first_passes is_digit z some first, s.len);
        digits = s.passes;
        fits = subst (λ l. decimal l ≤ 9223372036854775807) (take-split is_digit z s) small;
        ends = s.ends;
        apart = ap is_letter (sym (index-split is_digit z s)) ∙ both.0;
      };
    })

-- The quote that closes stands behind a doubled text, and no quote behind it.
pub record Shut (at : ℕ) (z : Text) (n : ℕ) : Type 0 where
  pub text : Text
  pub behind : Text
  pub parts : z ≡ doubled text ++ 39 ∷ behind
  pub len : n ≡ at + length (doubled text) + 1
  pub ends : next behind ≢ 39

abbrev pub ShutAt : ℕ → Text → Option ℕ → Type 0
ShutAt at z None = Unit {0}
ShutAt at z (Some n) = Shut at z n

quote-in : (at : ℕ) (z : Text) (n : ℕ) → Shut (at + 1 + 1) z n → Shut at (39 ∷ 39 ∷ z) n
quote-in at z n s = record {
  text = 39 ∷ s.text;
  behind = s.behind;
  parts = ap (λ (l : Text). 39 ∷ 39 ∷ l) s.parts;
  len = s.len ∙ omega arith;
  ends = s.ends;
}

quotes-in : (at : ℕ) (z : Text) (o : Option ℕ) → ShutAt (at + 1 + 1) z o → ShutAt at (39 ∷ 39 ∷ z) o
quotes-in at z None s = tt
quotes-in at z (Some n) s = quote-in at z n s

byte-in : (at b : ℕ) (z : Text) (n : ℕ) → (b == 39) ≡ false → Shut (at + 1) z n → Shut at (b ∷ z) n
byte-in at b z n e s =
    let whole : doubled (b ∷ s.text) ≡ b ∷ doubled s.text = ap (λ v. cond v (39 ∷ 39 ∷ doubled s.text) (b ∷ doubled s.text)) e in
    record {
      text = b ∷ s.text;
      behind = s.behind;
      parts = ap (λ (l : Text). b ∷ l) s.parts ∙ ap (λ l. l ++ 39 ∷ s.behind) (sym whole);
      len = s.len ∙ omega (arith, ap length whole);
      ends = s.ends;
    }

bytes-in : (at b : ℕ) (z : Text) (o : Option ℕ) → (b == 39) ≡ false → ShutAt (at + 1) z o → ShutAt at (b ∷ z) o
bytes-in at b z None e s = tt
bytes-in at b z (Some n) e s = byte-in at b z n e s

shut-here : (at : ℕ) (z : Text) → next z ≢ 39 → Shut at (39 ∷ z) (at + 1)
shut-here at z e = record { text = []; behind = z; parts = refl; len = omega arith; ends = e }

ne_quote : next [] ≢ 39
ne_quote = omega arith

shut : (at : ℕ) (z : Text) → ShutAt at z (closing false at z)
shut at [] = tt
shut at (b ∷ []) =
    let none : next [] ≢ 39 = ne_quote in
    let at_test : (v : Bool) → (b == 39) ≡ v → ShutAt at (b ∷ []) (cond (v && not (0 == 39)) (Some (at + 1)) (closing v (at + 1) [])) =
    λ v. elim v as (λ u. (b == 39) ≡ u → ShutAt at (b ∷ []) (cond (u && not (0 == 39)) (Some (at + 1)) (closing u (at + 1) []))) [
      | true ↦ λ e. subst (λ k. ShutAt at (k ∷ []) (Some (at + 1))) (sym (eqb-true b 39 e)) (shut-here at [] none)
      | false ↦ λ e. tt
    ] in
    at_test (b == 39) refl
shut at (b ∷ c ∷ z) =
    let at_test : (v w : Bool) → (b == 39) ≡ v → (c == 39) ≡ w → ShutAt at (b ∷ c ∷ z) (cond (v && not w) (Some (at + 1)) (closing v (at + 1) (c ∷ z))) =
    λ v. elim v as (λ u. (w : Bool) → (b == 39) ≡ u → (c == 39) ≡ w → ShutAt at (b ∷ c ∷ z) (cond (u && not w) (Some (at + 1)) (closing u (at + 1) (c ∷ z)))) [
      | true ↦ λ w. elim w as (λ x. (b == 39) ≡ true → (c == 39) ≡ x → ShutAt at (b ∷ c ∷ z) (cond (true && not x) (Some (at + 1)) (closing true (at + 1) (c ∷ z)))) [
        | true ↦ λ e f. subst (λ k. ShutAt at (k ∷ c ∷ z) (closing false (at + 1 + 1) z)) (sym (eqb-true b 39 e))
            (subst (λ k. ShutAt at (39 ∷ k ∷ z) (closing false (at + 1 + 1) z)) (sym (eqb-true c 39 f)) (quotes-in at z (closing false (at + 1 + 1) z) (shut (at + 1 + 1) z)))
        | false ↦ λ e f. subst (λ k. ShutAt at (k ∷ c ∷ z) (Some (at + 1))) (sym (eqb-true b 39 e)) (shut-here at (c ∷ z) (eqb-false c 39 f))
      ]
      | false ↦ λ w e f. bytes-in at b (c ∷ z) (closing false (at + 1) (c ∷ z)) e (shut (at + 1) (c ∷ z))
    ] in
    at_test (b == 39) (c == 39) refl refl

chars-of : (z : Text) (o : Option ℕ) → ShutAt 1 z o → Told (39 ∷ z) (with_kind Chars o)
chars-of z None s = tt
chars-of z (Some n) s = record {
  bytes = 39 ∷ (doubled s.text ++ 39 ∷ []);
  behind = s.behind;
  parts = ap (λ (l : Text). 39 ∷ l) (s.parts ∙ sym (append_assoc (doubled s.text) (39 ∷ []) s.behind));
  len = s.len ∙ omega (arith, length-append (doubled s.text) (39 ∷ []));
  spelled = record { text = s.text; whole = refl; ends = s.ends };
}

chars-told : (z : Text) → Told (39 ∷ z) (chars (39 ∷ z))
unfolding chars
chars-told z = chars-of z (closing false 1 z) (shut 1 z)

head_is : (z : Text) (k : ℕ) → 0 < k → next z ≡ k → z ≡ k ∷ drop 1 z
head_is [] k h e = absurd (omega (arith, e))
head_is (b ∷ z) k h e = ap (λ (n : ℕ). n ∷ z) e

quoted-told : (z : Text) → Told (34 ∷ z) (quoted (34 ∷ z))
unfolding quoted
quoted-told z =
    let s : Split is_word_byte z = split is_word_byte refl z in
    let n : ℕ = prefix_len is_word_byte z in
    told-if (34 ∷ z) (is_letter (next z) && nat_le n 64 && slice_index (34 ∷ z) (n + 1) == 34) (Some (Quoted, n + 2)) None
    (λ e.
    let outer = and_parts (is_letter (next z) && nat_le n 64) (slice_index (34 ∷ z) (n + 1) == 34) e in
    let inner = and_parts (is_letter (next z)) (nat_le n 64) outer.0 in
    let front_next : next s.front ≡ next z = next-split is_word_byte z s (letter_is_word (next z) inner.0) refl in
    let few : length s.front ≤ 64 = omega (arith, leb-true n 64 inner.1, s.len) in
    let closes : next s.behind ≡ 34 =
    sym (index-split is_word_byte z s) ∙ ap (slice_index (34 ∷ z)) (sym (add-one n)) ∙ eqb-true (slice_index (34 ∷ z) (n + 1)) 34 outer.1 in
    let rest : s.behind ≡ 34 ∷ drop 1 s.behind = head_is s.behind 34 (omega arith) closes in
    record {
      bytes = 34 ∷ (s.front ++ 34 ∷ []);
      behind = drop 1 s.behind;
      parts = ap (λ (l : Text). 34 ∷ l) (s.parts ∙ ap (λ l. s.front ++ l) rest ∙ sym (append_assoc s.front (34 ∷ []) (drop 1 s.behind)));
      len = omega (arith, s.len, length-append s.front (34 ∷ []));
      spelled = record { text = s.front; whole = refl; word = record { begins = ap is_letter front_next ∙ inner.0; bytes = s.passes; short = few } };
    })
    (λ _. tt)

-- A sign of two bytes has a second byte.
not_long : (b : ℕ) → is_long_sign b 0 ≡ true → ⊥
not_long b e =
    elim (or_cases (b == 60 && (0 == 62 || 0 == 61)) (b == 62 && 0 == 61) e) [
      | inl h ↦ cc (and_parts (b == 60) (0 == 62 || 0 == 61) h).1
      | inr h ↦ cc (and_parts (b == 62) (0 == 61) h).1
    ]

sign-told : (z : Text) → Told z (sign z)
unfolding sign
sign-told [] = tt
sign-told (b ∷ []) =
    told-if (b ∷ []) (is_long_sign b 0) (Some (Sign, 2)) (cond (is_sign b) (Some (Sign, 1)) None)
    (λ e. absurd (not_long b e))
    (λ long. told-if (b ∷ []) (is_sign b) (Some (Sign, 1)) None
    (λ e. record { bytes = b ∷ []; behind = []; parts = refl; len = refl; spelled = (e, long) })
    (λ _. tt))
sign-told (b ∷ c ∷ z) =
    told-if (b ∷ c ∷ z) (is_long_sign b c) (Some (Sign, 2)) (cond (is_sign b) (Some (Sign, 1)) None)
    (λ e. record { bytes = b ∷ c ∷ []; behind = z; parts = refl; len = refl; spelled = e })
    (λ long. told-if (b ∷ c ∷ z) (is_sign b) (Some (Sign, 1)) None
    (λ e. record { bytes = b ∷ []; behind = c ∷ z; parts = refl; len = refl; spelled = (e, long) })
    (λ _. tt))

at_byte : (z : Text) (k : ℕ) (f : Text → Found) → 0 < k → next z ≡ k → ((y : Text) → Told (k ∷ y) (f (k ∷ y))) → Told z (f z)
at_byte z k f h e told = subst (λ l. Told l (f l)) (sym (head_is z k h e)) (told (drop 1 z))

-- What is found at the front of a text begins it.
pub token-told : (z : Text) → Told z (token z)
unfolding token
token-told z =
    let b : ℕ = next z in
    told-if z (is_letter b) (word z) (cond (is_digit b) (number z) (cond (b == 39) (chars z) (cond (b == 34) (quoted z) (sign z)))) (λ e. word-told z e)
    (λ _. told-if z (is_digit b) (number z) (cond (b == 39) (chars z) (cond (b == 34) (quoted z) (sign z))) (λ e. number-told z e)
    (λ _. told-if z (b == 39) (chars z) (cond (b == 34) (quoted z) (sign z)) (λ e. at_byte z 39 chars (omega arith) (eqb-true b 39 e) chars-told)
    (λ _. told-if z (b == 34) (quoted z) (sign z) (λ e. at_byte z 34 quoted (omega arith) (eqb-true b 34 e) quoted-told)
    (λ _. sign-told z))))
