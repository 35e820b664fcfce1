-- The sorts of bytes that tokens are made of.
use Rattle.std.specs.Prelude.{ℕ, Bool, true, false, ◌&&◌, ◌||◌, ◌==◌, if◌then◌else◌, List, [], ◌∷◌, codes, slice_index}
use Rattle.std.specs.Char.{is_ascii_digit, is_ascii_alphabetic, is_ascii_alphanumeric}
use Rattle.std.specs.Str.{str_eq_ignore_ascii_case}

-- UTF-8 text, as the list of its bytes.
abbrev pub Text : Type 0
Text = List ℕ

-- The first byte of what stands behind a token, and 0, which is in no token, at the end of the text.
abbrev pub next : Text → ℕ
next behind = slice_index behind 0

-- space, tab, carriage return, line feed
abbrev pub is_blank : ℕ → Bool
is_blank b = b == 32 || b == 9 || b == 13 || b == 10

-- a letter or _
abbrev pub is_letter : ℕ → Bool
is_letter b = is_ascii_alphabetic b || b == 95

-- a letter, a digit or _
abbrev pub is_word_byte : ℕ → Bool
is_word_byte b = is_ascii_alphanumeric b || b == 95

abbrev pub is_digit : ℕ → Bool
is_digit b = is_ascii_digit b

-- ( ) [ ] , . : | = < > + - * / % ?
abbrev pub is_sign : ℕ → Bool
is_sign b = b == 40 || b == 41 || b == 91 || b == 93 || b == 44 || b == 46 || b == 58 || b == 124 || b == 61 || b == 60 || b == 62 || b == 43 || b == 45 || b == 42 || b == 47 || b == 37 || b == 63

-- <> <= >=
abbrev pub is_long_sign : ℕ → ℕ → Bool
is_long_sign b c = (b == 60 && (c == 62 || c == 61)) || (b == 62 && c == 61)

-- One of these words, in any case.
abbrev pub is_one_of : List Text → Text → Bool
is_one_of [] z = false
is_one_of (k ∷ ks) z = if str_eq_ignore_ascii_case k z then true else is_one_of ks z

-- The keywords.
abbrev pub keywords : List Text
keywords =
    codes "SELECT" ∷ codes "DISTINCT" ∷ codes "FROM" ∷ codes "MATCH" ∷ codes "ON" ∷ codes "WHERE" ∷ codes "GROUP" ∷ codes "BY" ∷ codes "HAVING" ∷
    codes "ORDER" ∷ codes "ASC" ∷ codes "DESC" ∷ codes "LIMIT" ∷ codes "OFFSET" ∷ codes "AS" ∷ codes "AND" ∷ codes "OR" ∷ codes "NOT" ∷ codes "IS" ∷
    codes "NULL" ∷ codes "TRUE" ∷ codes "FALSE" ∷ codes "IN" ∷ codes "DATE" ∷ codes "COUNT" ∷ codes "MIN" ∷ codes "MAX" ∷ codes "SUM" ∷ []

-- A keyword, in any case.
unfoldable pub is_keyword : Text → Bool
is_keyword z = is_one_of keywords z
