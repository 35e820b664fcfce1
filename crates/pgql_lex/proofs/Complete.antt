-- Each token is found at the front of a text that it begins.
use Rattle.std.proofs.Common.{◌≡◌, ◌≢◌, ℕ, ◌+◌, ◌<◌, arith, Bool, true, false, not, ◌&&◌, ◌||◌, ◌==◌, cond, nat_le, List, [], ◌∷◌, ◌++◌, length, take, slice_index, Some, None, refl, sym, ap, ◌∙◌, subst, inl, inr, append_assoc, length-append, add-one}
use Rattle.std.specs.List.{prefix_len, AllByRecursion}
use Rattle.std.proofs.lemmas.Bool.{le-leb, eqb-true, ne_eqb, and_parts, or_cases, false_from_ne_true}
use Rattle.std.proofs.lemmas.Bool.Decides.{nat_tests}
use Rattle.pgql_ast.specs.declared.token.TokenKind.{TokenKind}
use Rattle.pgql_ast.specs.declared.token.TokenKind.TheVariants.{Keyword, Word, Quoted, Number, Chars, Sign}
use Rattle.pgql_lex.specs.Bytes.{Text, next, is_blank, is_letter, is_word_byte, is_digit, is_sign, is_long_sign, is_keyword}
use Rattle.pgql_lex.specs.Spelling.{IsWord, IsWholeWord, IsNumber, IsChars, IsQuoted, IsSign, Spelled, Begins, decimal, doubled}
use Rattle.pgql_lex.specs.Tokens.{Found, word, number, fits, closing, with_kind, chars, quoted, sign, token}
use Rattle.pgql_lex.proofs.Facts.{prefix_len-parts, take-parts, index-parts, next-parts, next-true}
use Rattle.pgql_lex.proofs.Sound.{Told, token-told}

-- a byte that is one of these
abbrev any_of : List ℕ → Bool → ℕ → Bool
any_of [] v b = v
any_of (k ∷ ks) v b = any_of ks (v || b == k) b

any-cases : (P : ℕ → Type 0) (b : ℕ) (ks : List ℕ) (v : Bool) → (v ≡ true → P b) → AllByRecursion P ks → any_of ks v b ≡ true → P b
any-cases P b [] v f p e = f e
any-cases P b (k ∷ ks) v f p e =
    any-cases P b ks (v || b == k) (λ h. elim (or_cases v (b == k) h) [ inl g ↦ f g | inr g ↦ subst P (sym (eqb-true b k g)) p.0 ]) p.1 e

-- White space begins no token.
pub blank-none : (b : ℕ) (z : Text) → is_blank b ≡ true → token (b ∷ z) ≡ None
unfolding token sign
blank-none b z e =
    any-cases (λ k. token (k ∷ z) ≡ None) b (9 ∷ 13 ∷ 10 ∷ []) (b == 32) (λ h. subst (λ k. token (k ∷ z) ≡ None) (sym (eqb-true b 32 h)) refl) (refl, (refl, (refl, tt))) e

-- a byte that begins no token but a sign
record Other (b : ℕ) : Type 0 where
  letter : is_letter b ≡ false
  digit : is_digit b ≡ false
  single : (b == 39) ≡ false
  double : (b == 34) ≡ false

other : (b : ℕ) → is_letter b ≡ false → is_digit b ≡ false → (b == 39) ≡ false → (b == 34) ≡ false → Other b
other b letter digit single double = record { letter = letter; digit = digit; single = single; double = double }

pub sign-cases : (P : ℕ → Type 0) (b : ℕ) → is_sign b ≡ true → P 40
    → AllByRecursion P (41 ∷ 91 ∷ 93 ∷ 44 ∷ 46 ∷ 58 ∷ 124 ∷ 61 ∷ 60 ∷ 62 ∷ 43 ∷ 45 ∷ 42 ∷ 47 ∷ 37 ∷ 63 ∷ []) → P b
sign-cases P b e first others =
    any-cases P b (41 ∷ 91 ∷ 93 ∷ 44 ∷ 46 ∷ 58 ∷ 124 ∷ 61 ∷ 60 ∷ 62 ∷ 43 ∷ 45 ∷ 42 ∷ 47 ∷ 37 ∷ 63 ∷ []) (b == 40) (λ h. subst P (sym (eqb-true b 40 h)) first) others e

sign-other : (b : ℕ) → is_sign b ≡ true → Other b
sign-other b e =
    sign-cases Other b e (other 40 refl refl refl refl) (
      other 41 refl refl refl refl,
      (
        other 91 refl refl refl refl,
        (
          other 93 refl refl refl refl,
          (
            other 44 refl refl refl refl,
            (
              other 46 refl refl refl refl,
              (
                other 58 refl refl refl refl,
                (
                  other 124 refl refl refl refl,
                  (
                    other 61 refl refl refl refl,
                    (
                      other 60 refl refl refl refl,
                      (
                        other 62 refl refl refl refl,
                        (
                          other 43 refl refl refl refl,
                          (
                            other 45 refl refl refl refl,
                            (
                              other 42 refl refl refl refl,
                              (
                                other 47 refl refl refl refl,
                                (
                                  other 37 refl refl refl refl,
                                  (other 63 refl refl refl refl, tt),
                                ),
                              ),
                            ),
                          ),
                        ),
                      ),
                    ),
                  ),
                ),
              ),
            ),
          ),
        ),
      ),
    )

long-other : (b c : ℕ) → is_long_sign b c ≡ true → Other b
long-other b c e =
    elim (or_cases (b == 60 && (c == 62 || c == 61)) (b == 62 && c == 61) e) [
      | inl h ↦ subst Other (sym (eqb-true b 60 (and_parts (b == 60) (c == 62 || c == 61) h).0)) (record { letter = refl; digit = refl; single = refl; double = refl })
      | inr h ↦ subst Other (sym (eqb-true b 62 (and_parts (b == 62) (c == 61) h).0)) (record { letter = refl; digit = refl; single = refl; double = refl })
    ]

other-token : (z : Text) → Other (next z) → token z ≡ sign z
unfolding token
other-token z o =
    ap (λ u. cond u (word z) (cond (is_digit (next z)) (number z) (cond (next z == 39) (chars z) (cond (next z == 34) (quoted z) (sign z))))) o.letter
    ∙ ap (λ u. cond u (number z) (cond (next z == 39) (chars z) (cond (next z == 34) (quoted z) (sign z)))) o.digit
    ∙ ap (λ u. cond u (chars z) (cond (next z == 34) (quoted z) (sign z))) o.single
    ∙ ap (λ u. cond u (quoted z) (sign z)) o.double

letter-token : (z : Text) → is_letter (next z) ≡ true → token z ≡ word z
unfolding token
letter-token z e = ap (λ u. cond u (word z) (cond (is_digit (next z)) (number z) (cond (next z == 39) (chars z) (cond (next z == 34) (quoted z) (sign z))))) e

digit-letter : (b : ℕ) → is_digit b ≡ true → is_letter b ≡ false
digit-letter b e = grind (arith, nat_tests)

digit-token : (z : Text) → is_digit (next z) ≡ true → token z ≡ number z
unfolding token
digit-token z e =
    ap (λ u. cond u (word z) (cond (is_digit (next z)) (number z) (cond (next z == 39) (chars z) (cond (next z == 34) (quoted z) (sign z))))) (digit-letter (next z) e)
    ∙ ap (λ u. cond u (number z) (cond (next z == 39) (chars z) (cond (next z == 34) (quoted z) (sign z)))) e

abbrev worded : Bool → Bool → ℕ → Found
worded short key n = cond short (Some (cond key Keyword Word, n)) None

word-spelled : (w behind : Text) (key : Bool) → IsWholeWord w behind → is_keyword w ≡ key → token (w ++ behind) ≡ Some (cond key Keyword Word, length w)
unfolding word
word-spelled w behind key whole e =
    let z : Text = w ++ behind in
    let some : 0 < length w = next-true is_letter refl w whole.word.begins in
    let len : prefix_len is_word_byte z ≡ length w = prefix_len-parts is_word_byte w behind whole.word.bytes whole.ends in
    letter-token z (ap is_letter (next-parts w behind some) ∙ whole.word.begins)
    ∙ ap (λ n. worded (nat_le n 64) (is_keyword (take n z)) n) len
    ∙ ap (λ v. worded v (is_keyword (take (length w) z)) (length w)) (le-leb (length w) 64 whole.word.short)
    ∙ ap (λ l. worded true (is_keyword l) (length w)) (take-parts w behind)
    ∙ ap (λ k. worded true k (length w)) e

abbrev numbered : Bool → Bool → ℕ → Found
numbered letter small n = cond (letter || not small) None (Some (Number, n))

number-spelled : (w behind : Text) → IsNumber w behind → token (w ++ behind) ≡ Some (Number, length w)
unfolding number fits
number-spelled [] behind h = absurd (omega (arith, h.some))
number-spelled (b ∷ w) behind h =
    let z : Text = b ∷ w ++ behind in
    let len : prefix_len is_digit z ≡ length (b ∷ w) = prefix_len-parts is_digit (b ∷ w) behind h.digits h.ends in
    digit-token z h.digits.0
    ∙ ap (λ n. numbered (is_letter (slice_index z n)) (nat_le (decimal (take n z)) 9223372036854775807) n) len
    ∙ ap (λ x. numbered (is_letter x) (nat_le (decimal (take (length (b ∷ w)) z)) 9223372036854775807) (length (b ∷ w))) (index-parts (b ∷ w) behind)
    ∙ ap (λ v. numbered v (nat_le (decimal (take (length (b ∷ w)) z)) 9223372036854775807) (length (b ∷ w))) h.apart
    ∙ ap (λ l. numbered false (nat_le (decimal l) 9223372036854775807) (length (b ∷ w))) (take-parts (b ∷ w) behind)
    ∙ ap (λ v. numbered false v (length (b ∷ w))) (le-leb (decimal (b ∷ w)) 9223372036854775807 h.fits)

abbrev Closes : ℕ → Text → Text → Type 0
Closes at z behind = closing false at (z ++ 39 ∷ behind) ≡ Some (at + length z + 1)

closing-doubled : (t : Text) (at : ℕ) (behind : Text) → next behind ≢ 39 → Closes at (doubled t) behind
closing-doubled [] at behind e =
    let len : at + 1 ≡ at + 0 + 1 = omega arith in
    ap (λ v. cond (not v) (Some (at + 1)) (closing true (at + 1) behind)) (ne_eqb (next behind) 39 e) ∙ ap (λ (n : ℕ). Some n) len
closing-doubled (b ∷ t) at behind e =
    let at_test : (v : Bool) → (b == 39) ≡ v → Closes at (cond v (39 ∷ 39 ∷ doubled t) (b ∷ doubled t)) behind =
    λ v. elim v as (λ u. (b == 39) ≡ u → Closes at (cond u (39 ∷ 39 ∷ doubled t) (b ∷ doubled t)) behind) [
      | true ↦ λ f. let len : at + 1 + 1 + length (doubled t) + 1 ≡ at + (1 + (1 + length (doubled t))) + 1 = omega arith in
          closing-doubled t (at + 1 + 1) behind e ∙ ap (λ (n : ℕ). Some n) (len ∙ omega arith)
      | false ↦ λ f. let len : at + 1 + length (doubled t) + 1 ≡ at + length (b ∷ doubled t) + 1 = omega arith in
          ap (λ u. cond (u && not (slice_index (doubled t ++ 39 ∷ behind) 0 == 39)) (Some (at + 1)) (closing u (at + 1) (doubled t ++ 39 ∷ behind))) f
          ∙ closing-doubled t (at + 1) behind e ∙ ap (λ (n : ℕ). Some n) len
    ] in
    at_test (b == 39) refl

quote-token : (y : Text) → token (39 ∷ y) ≡ with_kind Chars (closing false 1 y)
unfolding token chars
quote-token y = refl

abbrev some_chars : ℕ → Found
some_chars n = Some (Chars, n)

chars-spelled : (w behind : Text) → IsChars w behind → token (w ++ behind) ≡ Some (Chars, length w)
chars-spelled w behind h =
    let t : Text = h.text in
    let len : 1 + length (doubled t) + 1 ≡ length w = omega (arith, length-append (doubled t) (39 ∷ []), ap length h.whole) in
    ap (λ l. token (l ++ behind)) h.whole
    ∙ quote-token ((doubled t ++ 39 ∷ []) ++ behind)
    ∙ ap (λ l. with_kind Chars (closing false 1 l)) (append_assoc (doubled t) (39 ∷ []) behind)
    ∙ ap (with_kind Chars) (closing-doubled t 1 behind h.ends)
    ∙ ap some_chars len

double-token : (y : Text) → token (34 ∷ y) ≡ quoted (34 ∷ y)
unfolding token
double-token y = refl

abbrev quoting : Bool → Bool → ℕ → ℕ → Found
quoting letter short closes n = cond (letter && short && closes == 34) (Some (Quoted, n + 2)) None

abbrev some_quoted : ℕ → Found
some_quoted n = Some (Quoted, n)

quoted-word : (t behind : Text) → IsWord t → quoted (34 ∷ (t ++ 34 ∷ behind)) ≡ Some (Quoted, length t + 2)
unfolding quoted
quoted-word t behind h =
    let y : Text = t ++ 34 ∷ behind in
    let some : 0 < length t = next-true is_letter refl t h.begins in
    let len : prefix_len is_word_byte y ≡ length t = prefix_len-parts is_word_byte t (34 ∷ behind) h.bytes refl in
    let first : is_letter (next y) ≡ true = ap is_letter (next-parts t (34 ∷ behind) some) ∙ h.begins in
    let last : slice_index (34 ∷ y) (length t + 1) ≡ 34 = ap (slice_index (34 ∷ y)) (add-one (length t)) ∙ index-parts t (34 ∷ behind) in
    ap (λ n. quoting (is_letter (next y)) (nat_le n 64) (slice_index (34 ∷ y) (n + 1)) n) len
    ∙ ap (λ v. quoting v (nat_le (length t) 64) (slice_index (34 ∷ y) (length t + 1)) (length t)) first
    ∙ ap (λ v. quoting true v (slice_index (34 ∷ y) (length t + 1)) (length t)) (le-leb (length t) 64 h.short)
    ∙ ap (λ x. quoting true true x (length t)) last

quoted-spelled : (w behind : Text) → IsQuoted w → token (w ++ behind) ≡ Some (Quoted, length w)
quoted-spelled w behind h =
    let t : Text = h.text in
    let len : length t + 2 ≡ length w = omega (arith, length-append t (34 ∷ []), ap length h.whole) in
    ap (λ l. token (l ++ behind)) h.whole
    ∙ double-token ((t ++ 34 ∷ []) ++ behind)
    ∙ ap (λ l. quoted (34 ∷ l)) (append_assoc t (34 ∷ []) behind)
    ∙ quoted-word t behind h.word
    ∙ ap some_quoted len

abbrev signed : Bool → Bool → Found
signed long short = cond long (Some (Sign, 2)) (cond short (Some (Sign, 1)) None)

short-sign : (b : ℕ) (behind : Text) → is_sign b ≡ true → is_long_sign b (next behind) ≡ false → sign (b ∷ behind) ≡ Some (Sign, 1)
unfolding sign
short-sign b behind e long = ap (λ v. signed v (is_sign b)) long ∙ ap (signed false) e

long-sign : (b c : ℕ) (behind : Text) → is_long_sign b c ≡ true → sign (b ∷ c ∷ behind) ≡ Some (Sign, 2)
unfolding sign
long-sign b c behind e = ap (λ v. signed v (is_sign b)) e

sign-spelled : (w behind : Text) → IsSign w behind → token (w ++ behind) ≡ Some (Sign, length w)
sign-spelled [] behind h = absurd h
sign-spelled (b ∷ []) behind h = other-token (b ∷ behind) (sign-other b h.0) ∙ short-sign b behind h.0 h.1
sign-spelled (b ∷ c ∷ []) behind h = other-token (b ∷ c ∷ behind) (long-other b c h) ∙ long-sign b c behind h
sign-spelled (b ∷ c ∷ d ∷ w) behind h = absurd h

pub spelled-token : (kind : TokenKind) (w behind : Text) → Spelled kind w behind → token (w ++ behind) ≡ Some (kind, length w)
spelled-token Keyword w behind h = word-spelled w behind true h.0 h.1
spelled-token Word w behind h = word-spelled w behind false h.0 h.1
spelled-token Quoted w behind h = quoted-spelled w behind h
spelled-token Number w behind h = number-spelled w behind h
spelled-token Chars w behind h = chars-spelled w behind h
spelled-token Sign w behind h = sign-spelled w behind h

abbrev found_at : TokenKind → ℕ → Found
found_at kind n = Some (kind, n)

-- What begins a text is found there.
pub begins-token : (z : Text) (kind : TokenKind) (n : ℕ) → Begins z kind n → token z ≡ Some (kind, n)
begins-token z kind n h = ap token h.parts ∙ spelled-token kind h.bytes h.behind h.spelled ∙ ap (found_at kind) (sym h.len)

pub token-begins : (z : Text) (kind : TokenKind) (n : ℕ) → token z ≡ Some (kind, n) → Begins z kind n
token-begins z kind n e = subst (Told z) e (token-told z)

pub spelled-some : (kind : TokenKind) (w behind : Text) → Spelled kind w behind → 0 < length w
spelled-some Keyword w behind h = next-true is_letter refl w h.0.word.begins
spelled-some Word w behind h = next-true is_letter refl w h.0.word.begins
spelled-some Quoted w behind h = omega (arith, ap length h.whole)
spelled-some Number w behind h = h.some
spelled-some Chars w behind h = omega (arith, ap length h.whole)
spelled-some Sign [] behind h = absurd h
spelled-some Sign (b ∷ w) behind h = omega arith

pub none-some : {A : Type 0} (x : A) → None ≡ Some x → ⊥
none-some x e = cc

pub not-blank : (z : Text) (t : TokenKind × ℕ) → 0 < length z → token z ≡ Some t → is_blank (next z) ≡ false
not-blank [] t some e = absurd (omega arith)
not-blank (b ∷ z) t some e = false_from_ne_true (is_blank b) (λ blank. none-some t (sym (blank-none b z blank) ∙ e))
