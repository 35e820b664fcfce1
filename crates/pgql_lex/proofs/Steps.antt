-- Steps of the lexer.
use Rattle.std.proofs.Common.{◌≡◌, ℕ, zero, suc, ◌+◌, ◌-◌, ◌*◌, ◌<◌, ◌≤◌, min, arith, Bool, true, false, cond, List, [], ◌∷◌, ◌++◌, length, drop, slice_index, Some, None, Result, Ok, Err, refl, sym, ap, ◌∙◌, append_assoc, add-one, get_or, drop-cons as drop_front}
use Rattle.std.specs.List.{prefix_len}
use Rattle.pgql_ast.specs.declared.token.Token.{Token}
use Rattle.pgql_ast.specs.declared.token.TokenKind.{TokenKind}
use Rattle.pgql_lex.specs.Bytes.{Text, is_blank}
use Rattle.pgql_lex.specs.Spelling.{decimal_from}
use Rattle.pgql_lex.specs.Tokens.{Found, token, tokens, with_front}

pub first_passes : (p : ℕ → Bool) (z : Text) → 0 < length z → p (slice_index z 0) ≡ true → 1 ≤ prefix_len p z
first_passes p [] h e = absurd (omega arith)
first_passes p (b ∷ z) h e = let n : cond (p b) (1 + prefix_len p z) 0 ≡ 1 + prefix_len p z = ap (λ t. cond t (1 + prefix_len p z) 0) e in omega (arith, n)

tokens-skip : (n at : ℕ) (z : Text) → tokens n at z ≡ tokens 0 (at + n) (drop n z)
tokens-skip zero at z = let e : at ≡ at + 0 = omega arith in ap (λ k. tokens 0 k z) e
tokens-skip (suc n) at [] = refl
tokens-skip (suc n) at (b ∷ z) = let e : at + 1 + n ≡ at + suc n = omega arith in tokens-skip n (at + 1) z ∙ ap (λ k. tokens 0 k (drop n z)) e

drop-cons : (n b : ℕ) (z : Text) → 1 ≤ n → drop (n - 1) z ≡ drop n (b ∷ z)
drop-cons zero b z h = absurd (omega arith)
drop-cons (suc n) b z h = let e : suc n - 1 ≡ n = omega arith in ap (λ k. drop k z) e

abbrev pub token_from : ℕ → TokenKind × ℕ → Token
token_from at t = record { kind = t.0; from = at; to = at + t.1 }

pub front_front : (found more : List Token) (o : Result (List Token) ℕ) → with_front found (with_front more o) ≡ with_front (found ++ more) o
front_front found more (Ok l) = ap (λ (x : List Token). Ok x) (sym (append_assoc found more l))
front_front found more (Err p) = refl

abbrev taken : Found → ℕ → Text → Result (List Token) ℕ
taken o at z = elim o [ None ↦ Err at | Some t ↦ with_front (token_from at t ∷ []) (tokens (t.1 - 1) (at + 1) z) ]

-- the first token
pub tokens-first : (at : ℕ) (z : Text) (t : TokenKind × ℕ) → 0 < length z → is_blank (slice_index z 0) ≡ false → token z ≡ Some t → 1 ≤ t.1
    → tokens 0 at z ≡ with_front (token_from at t ∷ []) (tokens 0 (at + t.1) (drop t.1 z))
tokens-first at [] t some e f moves = absurd (omega arith)
tokens-first at (b ∷ z) t some e f moves =
    let place : at + 1 + (t.1 - 1) ≡ at + t.1 = omega arith in
    let skips : tokens (t.1 - 1) (at + 1) z ≡ tokens 0 (at + t.1) (drop t.1 (b ∷ z)) =
    tokens-skip (t.1 - 1) (at + 1) z ∙ ap (λ k. tokens 0 k (drop (t.1 - 1) z)) place ∙ ap (tokens 0 (at + t.1)) (drop-cons t.1 b z moves) in
    ap (λ (u : Bool). cond u (tokens 0 (at + 1) z) (taken (token (b ∷ z)) at z)) e
    ∙ ap (λ o. taken o at z) f
    ∙ ap (with_front (token_from at t ∷ [])) skips

pub goes_token : (found : List Token) (at : ℕ) (z : Text) (t : TokenKind × ℕ) → 0 < length z → is_blank (slice_index z 0) ≡ false → token z ≡ Some t → 1 ≤ t.1
    → with_front found (tokens 0 at z) ≡ with_front (found ++ token_from at t ∷ []) (tokens 0 (at + t.1) (drop t.1 z))
goes_token found at z t some e f moves =
    ap (with_front found) (tokens-first at z t some e f moves) ∙ front_front found (token_from at t ∷ []) (tokens 0 (at + t.1) (drop t.1 z))

-- A number that is too great stays so.
one_more_digit : (v d : ℕ) → min (10 * min v 9223372036854775808 + d) 9223372036854775808 ≡ min (10 * v + d) 9223372036854775808
one_more_digit v d = omega arith

decimal-capped : (z : Text) (v : ℕ) → min (decimal_from (min v 9223372036854775808) z) 9223372036854775808 ≡ min (decimal_from v z) 9223372036854775808
decimal-capped [] v = omega arith
decimal-capped (b ∷ z) v =
    sym (decimal-capped z (10 * min v 9223372036854775808 + (b - 48)))
    ∙ ap (λ n. min (decimal_from n z) 9223372036854775808) (one_more_digit v (b - 48))
    ∙ decimal-capped z (10 * v + (b - 48))

-- one more digit, where the number read so far is cut at a bound
pub digit_read : (z : Text) (i v w : ℕ) → i < length z → w ≡ min (10 * v + (get_or z i 0 - 48)) 9223372036854775808
    → min (decimal_from w (drop (i + 1) z)) 9223372036854775808 ≡ min (decimal_from v (drop i z)) 9223372036854775808
digit_read z i v w h e =
    ap (λ n. min (decimal_from n (drop (i + 1) z)) 9223372036854775808) e
    ∙ decimal-capped (drop (i + 1) z) (10 * v + (get_or z i 0 - 48))
    ∙ ap (λ j. min (decimal_from (10 * v + (get_or z i 0 - 48)) (drop j z)) 9223372036854775808) (add-one i)
    ∙ ap (λ l. min (decimal_from v l) 9223372036854775808) (sym (drop_front z i 0 h))
