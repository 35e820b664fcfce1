-- The tokens that are computed are those that stand in the text.
use Rattle.std.proofs.Common.{◌≡◌, ◌↔◌, ℕ, zero, suc, ◌+◌, ◌-◌, ◌<◌, ◌≤◌, arith, Bool, true, false, cond, List, [], ◌∷◌, ◌++◌, length, drop, Some, None, Result, Ok, Err, refl, sym, ap, ◌∙◌, subst, append-nil, length-append, zero-add}
use Rattle.pgql_ast.specs.declared.token.Token.{Token}
use Rattle.pgql_ast.specs.declared.token.TokenKind.{TokenKind}
use Rattle.pgql_lex.specs.Bytes.{Text, next, is_blank}
use Rattle.pgql_lex.specs.Spelling.{Spelled, Begins}
use Rattle.pgql_lex.specs.Tokens.{Found, token, tokens, with_front}
use Rattle.pgql_lex.specs.Standing.{Blank, Stand, Stuck, IsSpelled, FirstFault}
use Rattle.pgql_lex.proofs.Facts.{drop-parts}
use Rattle.pgql_lex.proofs.Complete.{spelled-token, spelled-some, begins-token, token-begins, none-some, not-blank}
use Rattle.pgql_lex.proofs.Steps.{tokens-first, front_front, token_from}

-- what the tokens are that are computed from a place on
abbrev pub Covers : ℕ → Text → Result (List Token) ℕ → Type 0
Covers at z (Ok found) = Stand at z found (at + length z) []
Covers at z (Err place) = (found : List Token) × (rest : Text) × Stand at z found place rest × Stuck rest

stand-blank : (at b : ℕ) (z : Text) (found : List Token) (to : ℕ) (rest : Text) → is_blank b ≡ true → Stand (at + 1) z found to rest → Stand at (b ∷ z) found to rest
stand-blank at b z [] to rest e s =
    (b ∷ s.0, ap (λ (l : Text). b ∷ l) s.1, (e, s.2), s.3 ∙ omega arith)
stand-blank at b z (t ∷ more) to rest e s =
    (b ∷ s.0, s.1, s.2, ap (λ (l : Text). b ∷ l) s.3, (e, s.4), s.5 ∙ omega arith, s.6, s.7, s.8)

covers-blank : (at b : ℕ) (z : Text) (r : Result (List Token) ℕ) → is_blank b ≡ true → Covers (at + 1) z r → Covers at (b ∷ z) r
covers-blank at b z (Ok found) e s =
    let len : at + 1 + length z ≡ at + length (b ∷ z) = omega arith in
    subst (λ to. Stand at (b ∷ z) found to []) len (stand-blank at b z found (at + 1 + length z) [] e s)
covers-blank at b z (Err place) e s = (s.0, s.1, stand-blank at b z s.0 place s.1 e s.2, s.3)

stand-token : (at : ℕ) (z bytes behind : Text) (t : TokenKind × ℕ) (found : List Token) (to : ℕ) (rest : Text) → z ≡ bytes ++ behind → t.1 ≡ length bytes → Spelled t.0 bytes behind
    → Stand (at + t.1) behind found to rest → Stand at z (token_from at t ∷ found) to rest
stand-token at z bytes behind t found to rest parts len spelled s =
    let from : at ≡ at + 0 = omega arith in
    ([], bytes, behind, parts, tt, from, ap (λ n. at + n) len, spelled, s)

covers-token : (at : ℕ) (z bytes behind : Text) (t : TokenKind × ℕ) (r : Result (List Token) ℕ) → z ≡ bytes ++ behind → t.1 ≡ length bytes → Spelled t.0 bytes behind
    → Covers (at + t.1) behind r → Covers at z (with_front (token_from at t ∷ []) r)
covers-token at z bytes behind t (Ok found) parts len spelled s =
    let to : at + t.1 + length behind ≡ at + length z = omega (arith, ap length parts, length-append bytes behind) in
    subst (λ n. Stand at z (token_from at t ∷ found) n []) to (stand-token at z bytes behind t found (at + t.1 + length behind) [] parts len spelled s)
covers-token at z bytes behind t (Err place) parts len spelled s =
    (token_from at t ∷ s.0, s.1, stand-token at z bytes behind t s.0 place s.1 parts len spelled s.2, s.3)

-- what is computed at a byte that is not white space
abbrev taken : Found → ℕ → Text → Result (List Token) ℕ
taken o at z = elim o [ None ↦ Err at | Some t ↦ with_front (token_from at t ∷ []) (tokens (t.1 - 1) (at + 1) z) ]

abbrev Covered : Text → Type 0
Covered z = (left at : ℕ) → left ≤ length z → Covers (at + left) (drop left z) (tokens left at z)

drop-front : (left b : ℕ) (z : Text) → 1 ≤ left → drop (left - 1) z ≡ drop left (b ∷ z)
drop-front zero b z h = absurd (omega arith)
drop-front (suc left) b z h = let e : suc left - 1 ≡ left = omega arith in ap (λ k. drop k z) e

covers-taken : (b : ℕ) (z : Text) (at : ℕ) (o : Found) → is_blank b ≡ false → token (b ∷ z) ≡ o → Covered z → Covers at (b ∷ z) (taken o at z)
covers-taken b z at None dark e covered =
    let none : (kind : TokenKind) (n : ℕ) → Begins (b ∷ z) kind n → ⊥ = λ kind n h. none-some (kind, n) (sym e ∙ begins-token (b ∷ z) kind n h) in
    let to : at ≡ at + 0 = omega arith in
    ([], b ∷ z, ([], refl, tt, to), (dark, none))
covers-taken b z at (Some t) dark e covered =
    let h : Begins (b ∷ z) t.0 t.1 = token-begins (b ∷ z) t.0 t.1 e in
    let moves : 1 ≤ t.1 = omega (arith, h.len, spelled-some t.0 h.bytes h.behind h.spelled) in
    let within : t.1 ≤ length (b ∷ z) = omega (arith, h.len, ap length h.parts, length-append h.bytes h.behind) in
    let behind : drop (t.1 - 1) z ≡ h.behind = drop-front t.1 b z moves ∙ ap (λ n. drop n (b ∷ z)) h.len ∙ ap (drop (length h.bytes)) h.parts ∙ drop-parts h.bytes h.behind in
    let place : at + 1 + (t.1 - 1) ≡ at + t.1 = omega arith in
    let more : Covers (at + 1 + (t.1 - 1)) (drop (t.1 - 1) z) (tokens (t.1 - 1) (at + 1) z) = covered (t.1 - 1) (at + 1) (omega arith) in
    let there : Covers (at + t.1) h.behind (tokens (t.1 - 1) (at + 1) z) =
    subst (λ n. Covers n h.behind (tokens (t.1 - 1) (at + 1) z)) place (subst (λ l. Covers (at + 1 + (t.1 - 1)) l (tokens (t.1 - 1) (at + 1) z)) behind more) in
    covers-token at (b ∷ z) h.bytes h.behind t (tokens (t.1 - 1) (at + 1) z) h.parts h.len h.spelled there

covers : (z : Text) → Covered z
covers [] zero at h = ([], refl, tt, refl)
covers [] (suc left) at h = absurd (omega arith)
covers (b ∷ z) (suc left) at h =
    let place : at + 1 + left ≡ at + suc left = omega arith in
    subst (λ n. Covers n (drop left z) (tokens left (at + 1) z)) place (covers z left (at + 1) (omega arith))
covers (b ∷ z) zero at h =
    let here : at ≡ at + 0 = omega arith in
    let at_test : (v : Bool) → is_blank b ≡ v → Covers at (b ∷ z) (cond v (tokens 0 (at + 1) z) (taken (token (b ∷ z)) at z)) =
    λ v. elim v as (λ u. is_blank b ≡ u → Covers at (b ∷ z) (cond u (tokens 0 (at + 1) z) (taken (token (b ∷ z)) at z))) [
      | true ↦ λ e. let next_place : at + 1 + 0 ≡ at + 1 = omega arith in
          covers-blank at b z (tokens 0 (at + 1) z) e (subst (λ n. Covers n z (tokens 0 (at + 1) z)) next_place (covers z 0 (at + 1) (omega arith)))
      | false ↦ λ e. covers-taken b z at (token (b ∷ z)) e refl (covers z)
    ] in
    subst (λ n. Covers n (b ∷ z) (tokens 0 at (b ∷ z))) here (at_test (is_blank b) refl)

-- the other way

tokens-blank : (gap : Text) (at : ℕ) (z : Text) → Blank gap → tokens 0 at (gap ++ z) ≡ tokens 0 (at + length gap) z
tokens-blank [] at z h = let e : at ≡ at + 0 = omega arith in ap (λ k. tokens 0 k z) e
tokens-blank (b ∷ gap) at z h =
    let e : at + 1 + length gap ≡ at + length (b ∷ gap) = omega arith in
    ap (λ u. cond u (tokens 0 (at + 1) (gap ++ z)) (taken (token (b ∷ (gap ++ z))) at (gap ++ z))) h.0
    ∙ tokens-blank gap (at + 1) z h.1 ∙ ap (λ k. tokens 0 k z) e

front-none : (r : Result (List Token) ℕ) → r ≡ with_front [] r
front-none (Ok found) = refl
front-none (Err place) = refl

stand-tokens : (found : List Token) (at : ℕ) (z : Text) (to : ℕ) (rest : Text) → Stand at z found to rest → tokens 0 at z ≡ with_front found (tokens 0 to rest)
stand-tokens [] at z to rest s =
    ap (tokens 0 at) s.1 ∙ tokens-blank s.0 at rest s.2 ∙ ap (λ k. tokens 0 k rest) (sym s.3) ∙ front-none (tokens 0 to rest)
stand-tokens (t ∷ more) at z to rest s =
    let gap : Text = s.0 in
    let bytes : Text = s.1 in
    let behind : Text = s.2 in
    let y : Text = bytes ++ behind in
    let found_here : token y ≡ Some (t.kind, length bytes) = spelled-token t.kind bytes behind s.7 in
    let moves : 1 ≤ length bytes = spelled-some t.kind bytes behind s.7 in
    let some : 0 < length y = omega (arith, length-append bytes behind) in
    let dark : is_blank (next y) ≡ false = not-blank y (t.kind, length bytes) some found_here in
    let first : tokens 0 t.from y ≡ with_front (token_from t.from (t.kind, length bytes) ∷ []) (tokens 0 (t.from + length bytes) (drop (length bytes) y)) =
    tokens-first t.from y (t.kind, length bytes) some dark found_here moves in
    ap (tokens 0 at) s.3 ∙ tokens-blank gap at y s.4 ∙ ap (λ k. tokens 0 k y) (sym s.5) ∙ first
    ∙ ap (λ k. with_front (record { kind = t.kind; from = t.from; to = k } ∷ []) (tokens 0 k (drop (length bytes) y))) (sym s.6)
    ∙ ap (λ l. with_front (t ∷ []) (tokens 0 t.to l)) (drop-parts bytes behind)
    ∙ ap (with_front (t ∷ [])) (stand-tokens more t.to behind to rest s.8)
    ∙ front_front (t ∷ []) more (tokens 0 to rest)

stuck-fault : (rest : Text) (place : ℕ) → Stuck rest → tokens 0 place rest ≡ Err place
stuck-fault [] place s = absurd s
stuck-fault (b ∷ z) place s =
    let at_found : (o : Found) → token (b ∷ z) ≡ o → taken o place z ≡ Err place =
    λ o. elim o as (λ x. token (b ∷ z) ≡ x → taken x place z ≡ Err place) [ None ↦ λ e. refl | Some t ↦ λ e. absurd (s.1 t.0 t.1 (token-begins (b ∷ z) t.0 t.1 e)) ] in
    ap (λ u. cond u (tokens 0 (place + 1) z) (taken (token (b ∷ z)) place z)) s.0 ∙ at_found (token (b ∷ z)) refl

whole_text : (text : Text) (r : Result (List Token) ℕ) → tokens 0 0 text ≡ r → Covers 0 text r
whole_text text r e = let none : 0 + 0 ≡ 0 = refl in subst (λ x. Covers 0 text x) e (covers text 0 0 (omega arith))

-- The tokens are computed exactly where the text is spelled by them.
pub spelled : (text : Text) (found : List Token) → (tokens 0 0 text ≡ Ok found) ↔ IsSpelled text found
spelled text found = (
  λ e. subst (λ to. Stand 0 text found to []) (zero-add (length text)) (whole_text text (Ok found) e),
  λ s. stand-tokens found 0 text (length text) [] s ∙ ap (λ (l : List Token). Ok l) (append-nil found),
)

-- A place is computed exactly where it is the first fault.
pub first_fault : (text : Text) (place : ℕ) → (tokens 0 0 text ≡ Err place) ↔ FirstFault text place
first_fault text place = (
  λ e. whole_text text (Err place) e,
  λ s. stand-tokens s.0 0 text place s.1 s.2 ∙ ap (with_front s.0) (stuck-fault s.1 place s.3),
)
