-- The spans of the tokens that stand in a text.
use Rattle.std.proofs.Common.{◌≡◌, ℕ, zero, suc, ◌+◌, ◌-◌, ◌<◌, arith, Bool, true, ◌&&◌, ◌||◌, ◌==◌, List, [], ◌∷◌, ◌++◌, length, take, drop, slice_index, slice_range, get_or, refl, sym, ap, ◌∙◌, subst, inl, inr, append_assoc, append-nil, length-append, Ok, All, IsUtf8, IsCharBoundary}
use Rattle.std.proofs.lemmas.List.{get_or-append-add}
use Rattle.std.proofs.lemmas.List.Elements.{All-nil, All-cons}
use Rattle.std.proofs.lemmas.Bool.{eqb-true, and_parts, or_cases}
use Rattle.std.proofs.lemmas.Bool.Decides.{nat_tests}
use Rattle.std.proofs.lemmas.Str.{IsCharBoundary-before_ascii, IsCharBoundary-after_ascii}
use Rattle.std.proofs.Math.ListN.{get_or-append}
use Rattle.std.proofs.Math.Seq.{drop-append-add}
use Rattle.pgql_ast.specs.declared.token.Token.{Token}
use Rattle.pgql_ast.specs.declared.token.TokenKind.{TokenKind}
use Rattle.pgql_ast.specs.declared.token.TokenKind.TheVariants.{Keyword, Word, Quoted, Number, Chars, Sign}
use Rattle.pgql_lex.specs.Bytes.{Text, next, is_word_byte, is_digit, is_sign, is_long_sign}
use Rattle.pgql_lex.specs.Spelling.{IsSign, Spelled, doubled}
use Rattle.pgql_lex.specs.Standing.{Stand}
use Rattle.pgql_lex.specs.Spans.{IsAt, InOrder}
use Rattle.pgql_lex.proofs.Facts.{Passes, take-parts, drop-parts, index-parts, next-parts}
use Rattle.pgql_lex.specs.Tokens.{tokens, with_front}
use Rattle.pgql_lex.proofs.Cover.{spelled}
use Rattle.pgql_lex.proofs.Complete.{spelled-some, sign-cases}

-- The first and the last byte of a token are ASCII.
record Ends (w : Text) : Type 0 where
  first : next w < 128
  last : slice_index w (length w - 1) < 128

word-ascii : (b : ℕ) → is_word_byte b ≡ true → b < 128
word-ascii b e = grind (arith, nat_tests)

digit-ascii : (b : ℕ) → is_digit b ≡ true → b < 128
digit-ascii b e = grind (arith, nat_tests)

passes-at : (p : ℕ → Bool) (w : Text) (i : ℕ) → i < length w → Passes p w → p (slice_index w i) ≡ true
passes-at p [] i h a = absurd (omega arith)
passes-at p (b ∷ w) zero h a = a.0
passes-at p (b ∷ w) (suc i) h a = passes-at p w i (omega arith) a.1

ends-passes : (p : ℕ → Bool) → ((b : ℕ) → p b ≡ true → b < 128) → (w : Text) → 0 < length w → Passes p w → Ends w
ends-passes p small w some a =
    record { first = small (next w) (passes-at p w 0 some a); last = small (slice_index w (length w - 1)) (passes-at p w (length w - 1) (omega arith) a) }

ends-quotes : (q : ℕ) (t w : Text) → q < 128 → w ≡ q ∷ (t ++ q ∷ []) → Ends w
ends-quotes q t w small whole =
    let len : length w - 1 ≡ suc (length t) = omega (arith, ap length whole, length-append t (q ∷ [])) in
    let last : slice_index w (length w - 1) ≡ q = ap (slice_index w) len ∙ ap (λ l. slice_index l (suc (length t))) whole ∙ index-parts t (q ∷ []) in
    record { first = omega (arith, ap next whole); last = omega (arith, last) }

long-ascii : (b c : ℕ) → is_long_sign b c ≡ true → (b < 128) × (c < 128)
long-ascii b c e =
    elim (or_cases (b == 60 && (c == 62 || c == 61)) (b == 62 && c == 61) e) [
      | inl h ↦ (let parts = and_parts (b == 60) (c == 62 || c == 61) h in
          (omega (arith, eqb-true b 60 parts.0), elim (or_cases (c == 62) (c == 61) parts.1) [ inl k ↦ omega (arith, eqb-true c 62 k) | inr k ↦ omega (arith, eqb-true c 61 k) ]))
      | inr h ↦ (let parts = and_parts (b == 62) (c == 61) h in (omega (arith, eqb-true b 62 parts.0), omega (arith, eqb-true c 61 parts.1)))
    ]

sign-ascii : (b : ℕ) → is_sign b ≡ true → b < 128
sign-ascii b e =
    sign-cases (λ k. k < 128) b e (omega arith)
    (omega arith, (omega arith, (omega arith, (omega arith, (omega arith, (omega arith, (omega arith, (omega arith, (omega arith, (omega arith, (omega arith, (omega arith, (omega arith, (omega arith, (omega arith, (omega arith, tt))))))))))))))))

ends-sign : (w behind : Text) → IsSign w behind → Ends w
ends-sign [] behind h = absurd h
ends-sign (b ∷ []) behind h = record { first = sign-ascii b h.0; last = sign-ascii b h.0 }
ends-sign (b ∷ c ∷ []) behind h = record { first = (long-ascii b c h).0; last = (long-ascii b c h).1 }
ends-sign (b ∷ c ∷ d ∷ w) behind h = absurd h

spelled-ends : (kind : TokenKind) (w behind : Text) → Spelled kind w behind → Ends w
spelled-ends Keyword w behind h = ends-passes is_word_byte word-ascii w (spelled-some Keyword w behind h) h.0.word.bytes
spelled-ends Word w behind h = ends-passes is_word_byte word-ascii w (spelled-some Word w behind h) h.0.word.bytes
spelled-ends Quoted w behind h = ends-quotes 34 h.text w (omega arith) h.whole
spelled-ends Number w behind h = ends-passes is_digit digit-ascii w h.some h.digits
spelled-ends Chars w behind h = ends-quotes 39 (doubled h.text) w (omega arith) h.whole
spelled-ends Sign w behind h = ends-sign w behind h

at-token : (text front bytes behind : Text) (t : Token) → IsUtf8 text → text ≡ front ++ (bytes ++ behind) → t.from ≡ length front → t.to ≡ t.from + length bytes
    → Spelled t.kind bytes behind → IsAt text t
at-token text front bytes behind t utf8 parts from to spelled =
    let ascii : Ends bytes = spelled-ends t.kind bytes behind spelled in
    let some : 0 < length bytes = spelled-some t.kind bytes behind spelled in
    let len : length text ≡ length front + (length bytes + length behind) = omega (arith, ap length parts, length-append front (bytes ++ behind), length-append bytes behind) in
    let dropped : drop t.from text ≡ bytes ++ behind = ap (λ n. drop n text) from ∙ ap (drop (length front)) parts ∙ drop-parts front (bytes ++ behind) in
    let span : t.to - t.from ≡ length bytes = omega arith in
    let here : slice_range text t.from t.to ≡ bytes = ap (λ n. take n (drop t.from text)) span ∙ ap (take (length bytes)) dropped ∙ take-parts bytes behind in
    let sum : t.to ≡ length front + length bytes = omega arith in
    let rest : drop t.to text ≡ behind =
    ap (λ n. drop n text) sum ∙ ap (drop (length front + length bytes)) parts ∙ drop-append-add front (bytes ++ behind) (length bytes) ∙ drop-parts bytes behind in
    let first : get_or text t.from 0 ≡ next bytes =
    ap (λ n. slice_index text n) from ∙ ap (λ l. slice_index l (length front)) parts ∙ index-parts front (bytes ++ behind) ∙ next-parts bytes behind some in
    let before : t.to - 1 ≡ length front + (length bytes - 1) = omega arith in
    let last : get_or text (t.to - 1) 0 ≡ slice_index bytes (length bytes - 1) =
    ap (λ n. slice_index text n) before ∙ ap (λ l. slice_index l (length front + (length bytes - 1))) parts ∙ get_or-append-add front (bytes ++ behind) (length bytes - 1) 0
    ∙ get_or-append bytes behind 0 (length bytes - 1) (omega arith) in
    let back : t.to - 1 + 1 ≡ t.to = omega arith in
    record {
      some = omega arith;
      within = omega arith;
      spelled = subst (λ l. Spelled t.kind l (drop t.to text)) (sym here) (subst (λ l. Spelled t.kind bytes l) (sym rest) spelled);
      begins = IsCharBoundary-before_ascii text t.from (omega arith) (omega (arith, first, ascii.first));
      ends = subst (λ n. IsCharBoundary text n) back (IsCharBoundary-after_ascii text (t.to - 1) utf8 (omega arith) (omega (arith, last, ascii.last)));
    }

pub spans : (found : List Token) (text front z : Text) (at to : ℕ) (rest : Text) → IsUtf8 text → text ≡ front ++ z → at ≡ length front → Stand at z found to rest → All (IsAt text) found
spans [] text front z at to rest utf8 parts here s = All-nil (IsAt text)
spans (t ∷ more) text front z at to rest utf8 parts here s =
    let gap : Text = s.0 in
    let bytes : Text = s.1 in
    let behind : Text = s.2 in
    let before : Text = front ++ gap in
    let whole : text ≡ before ++ (bytes ++ behind) = parts ∙ ap (λ l. front ++ l) s.3 ∙ sym (append_assoc front gap (bytes ++ behind)) in
    let from : t.from ≡ length before = omega (arith, s.5, length-append front gap) in
    let further : text ≡ (before ++ bytes) ++ behind = whole ∙ sym (append_assoc before bytes behind) in
    let past : t.to ≡ length (before ++ bytes) = omega (arith, from, s.6, length-append before bytes) in
    All-cons (IsAt text) t more (at-token text before bytes behind t utf8 whole from s.6 s.7) (spans more text (before ++ bytes) behind t.to to rest utf8 further past s.8)

pub in-order : (found : List Token) (z : Text) (at to : ℕ) (rest : Text) → Stand at z found to rest → InOrder at found
in-order [] z at to rest s = tt
in-order (t ∷ more) z at to rest s = (omega (arith, s.5), in-order more s.2 t.to to rest s.8)

finished : (text found_rest : Text) (found : List Token) (at : ℕ) → length found_rest < 1 → tokens 0 0 text ≡ with_front found (tokens 0 at found_rest) → tokens 0 0 text ≡ Ok found
finished text [] found at h e = e ∙ ap (λ (l : List Token). Ok l) (append-nil found)
finished text (b ∷ z) found at h e = absurd (omega arith)

-- what holds of the tokens when nothing is left
pub all-spans : (text rest : Text) (found : List Token) (at : ℕ) → IsUtf8 text → length rest < 1 → tokens 0 0 text ≡ with_front found (tokens 0 at rest) → All (IsAt text) found
all-spans text rest found at utf8 h e = spans found text [] text 0 (length text) [] utf8 refl refl ((spelled text found).0 (finished text rest found at h e))

pub all-in-order : (text rest : Text) (found : List Token) (at : ℕ) → length rest < 1 → tokens 0 0 text ≡ with_front found (tokens 0 at rest) → InOrder 0 found
all-in-order text rest found at h e = in-order found text 0 (length text) [] ((spelled text found).0 (finished text rest found at h e))
