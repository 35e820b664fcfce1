-- The tokens of a text, computed.
use Rattle.std.specs.Prelude.{ℕ, zero, suc, ◌+◌, ◌-◌, Bool, true, false, not, ◌&&◌, ◌||◌, if◌then◌else◌, ◌==◌, nat_le, List, [], ◌∷◌, take, drop, ◌++◌, slice_index, Option, Some, None, Result, Ok, Err}
use Rattle.std.specs.List.{prefix_len}
use Rattle.pgql_ast.specs.declared.token.Token.{Token}
use Rattle.pgql_ast.specs.declared.token.TokenKind.{TokenKind}
use Rattle.pgql_ast.specs.declared.token.TokenKind.TheVariants.{Keyword, Word, Quoted, Number, Chars, Sign}
use Rattle.pgql_lex.specs.Bytes.{Text, is_blank, is_letter, is_word_byte, is_digit, is_sign, is_long_sign, is_keyword}
use Rattle.pgql_lex.specs.Spelling.{decimal}

-- A kind and a length, or none where no token begins.
abbrev pub Found : Type 0
Found = Option (TokenKind × ℕ)

-- all letters, digits and _ that there are
unfoldable pub word : Text → Found
word z = let n = prefix_len is_word_byte z in if nat_le n 64 then Some (if is_keyword (take n z) then Keyword else Word, n) else None

unfoldable pub fits : Text → Bool
fits digits = nat_le (decimal digits) 9223372036854775807

-- all digits that there are
unfoldable pub number : Text → Found
number z = let n = prefix_len is_digit z in if is_letter (slice_index z n) || not (fits (take n z)) then None else Some (Number, n)

-- The place behind the quote that closes, for bytes that begin at `at`. A doubled quote does not close.
abbrev pub closing : Bool → ℕ → Text → Option ℕ
closing is_second at [] = None
closing true at (b ∷ z) = closing false (at + 1) z
closing false at (b ∷ z) = if b == 39 && not (slice_index z 0 == 39) then Some (at + 1) else closing (b == 39) (at + 1) z

abbrev pub with_kind : TokenKind → Option ℕ → Found
with_kind kind None = None
with_kind kind (Some n) = Some (kind, n)

unfoldable pub chars : Text → Found
chars z = with_kind Chars (closing false 1 (drop 1 z))

-- a word in double quotes
unfoldable pub quoted : Text → Found
quoted z = let n = prefix_len is_word_byte (drop 1 z) in if is_letter (slice_index z 1) && nat_le n 64 && slice_index z (n + 1) == 34 then Some (Quoted, n + 2) else None

-- the longest first
unfoldable pub sign : Text → Found
sign z = if is_long_sign (slice_index z 0) (slice_index z 1) then Some (Sign, 2) else (if is_sign (slice_index z 0) then Some (Sign, 1) else None)

-- The token that begins a text, chosen by its first byte.
unfoldable pub token : Text → Found
token z =
    let b = slice_index z 0 in
    if is_letter b then word z else (if is_digit b then number z else (if b == 39 then chars z else (if b == 34 then quoted z else sign z)))

abbrev pub with_front : List Token → Result (List Token) ℕ → Result (List Token) ℕ
with_front found (Ok more) = Ok (found ++ more)
with_front found (Err place) = Err place

-- The tokens of a text that begins at `at`, or the first place where no token begins. So many bytes of one are left.
abbrev pub tokens : ℕ → ℕ → Text → Result (List Token) ℕ
tokens left at [] = Ok []
tokens (suc left) at (b ∷ z) = tokens left (at + 1) z
tokens zero at (b ∷ z) =
    if is_blank b then tokens zero (at + 1) z
    else (elim (token (b ∷ z)) [
      | None ↦ Err at
      | Some t ↦ with_front (record { kind = t.0; from = at; to = at + t.1 } ∷ []) (tokens (t.1 - 1) (at + 1) z)
    ])
