-- The words of a line, and what a word is read as.
use Rattle.std.specs.Prelude.{ℕ, ◌==◌, ◌&&◌, ◌||◌, ◌^◌, ◌++◌, ℤ, Bool, false, not, nat_eq, nat_le, nat_lt, if◌then◌else◌, List, [], ◌∷◌, length, drop, slice_get, unwrap_or, codes, Option, Some, None, Result, Ok, Err}
use Rattle.std.specs.List.{list_all, list_any, slice_split, join_with_byte}
use Rattle.std.specs.Cmp.Lexicographic.{pointwise}
use Rattle.std.specs.Str.Parse.{digits_value}
use Rattle.column_types.specs.Reading.{whole_of}
use Rattle.script_read.specs.declared.fault.LineWhy.{LineWhy}
use Rattle.script_read.specs.declared.fault.LineWhy.TheVariants as why

-- whether two texts have the same bytes
abbrev pub same : List ℕ → List ℕ → Bool
same a b = pointwise nat_eq a b

abbrev pub is_space : ℕ → Bool
is_space c = c == 32

-- the words of a line: the parts between single spaces, so that two spaces in a row have an empty word between them
abbrev pub words_of : List ℕ → List (List ℕ)
words_of line = slice_split is_space line

-- how many words a line has
unfoldable pub word_count : List ℕ → ℕ
word_count line = length (words_of line)

-- the word at a place, from 0, and the empty word past the end
abbrev pub word_in : List (List ℕ) → ℕ → List ℕ
word_in words place = unwrap_or (slice_get words place) []

-- the same of the words of a line
unfoldable pub word_at : List ℕ → ℕ → List ℕ
word_at line place = word_in (words_of line) place

-- the words, with a space between each two
abbrev pub joined : List (List ℕ) → List ℕ
joined words = join_with_byte 32 words

-- the rest of a line from the word at a place on
abbrev pub rest_in : List (List ℕ) → ℕ → List ℕ
rest_in words place = joined (drop place words)

-- the line of a word, a name and what stands behind them, with one space between each two
abbrev pub rest_line : List ℕ → List ℕ → List ℕ → List ℕ
rest_line word name behind = word ++ (32 ∷ (name ++ (32 ∷ behind)))

-- whether a text is one of the words of a line
unfoldable pub has_word : List ℕ → List ℕ → Bool
has_word line text = list_any (λ word. same word text) (words_of line)

-- an ASCII letter or `_`
abbrev pub is_letter : ℕ → Bool
is_letter c = (nat_le 65 c && nat_le c 90) || (nat_le 97 c && nat_le c 122) || (c == 95)

abbrev pub is_digit : ℕ → Bool
is_digit c = nat_le 48 c && nat_le c 57

-- an ASCII letter, a digit or `_`
abbrev pub is_name_byte : ℕ → Bool
is_name_byte c = is_letter c || is_digit c

-- a name is a letter or `_` and then letters, digits and `_`, at most 64 bytes together
abbrev pub is_name : List ℕ → Bool
is_name [] = false
is_name (c ∷ cs) = is_letter c && (list_all is_name_byte (c ∷ cs) && nat_le (length (c ∷ cs)) 64)

-- a word that is due as a name
unfoldable pub name : List ℕ → Result (List ℕ) LineWhy
name word = if is_name word then Ok word else Err why.Name

-- an ASCII letter, a digit, `_`, `.`, `-` or `/`
abbrev pub is_file_byte : ℕ → Bool
is_file_byte c = is_name_byte c || (c == 46) || (c == 45) || (c == 47)

-- a file name is 1 to 255 of them
abbrev pub is_file_name : List ℕ → Bool
is_file_name text = nat_le 1 (length text) && (nat_le (length text) 255 && list_all is_file_byte text)

-- a word that is due as a file name
unfoldable pub file_name : List ℕ → Result (List ℕ) LineWhy
file_name word = if is_file_name word then Ok word else Err why.Name

-- decimal digits without a leading zero
abbrev pub is_decimal : List ℕ → Bool
is_decimal [] = false
is_decimal (c ∷ cs) = list_all is_digit (c ∷ cs) && ((length (c ∷ cs) == 1) || not (c == 48))

-- the number of 64 bits that a word writes in decimal digits
unfoldable pub decimal_number : List ℕ → Option ℕ
decimal_number word = if is_decimal word && nat_lt (digits_value 10 word) (2 ^ 64) then Some (digits_value 10 word) else None

-- a number, where it lies from the first of these to the second
abbrev pub within : ℕ → ℕ → Option ℕ → Option ℕ
within least most None = None
within least most (Some n) = if nat_le least n && nat_le n most then Some n else None

-- the number from the first of these to the second that a word writes
unfoldable pub number : ℕ → ℕ → List ℕ → Option ℕ
number least most word = within least most (decimal_number word)

-- the same of the word at a place, and 0 where it writes none
abbrev pub number_in : ℕ → ℕ → List (List ℕ) → ℕ → ℕ
number_in least most words place = unwrap_or (number least most (word_in words place)) 0

-- an optional `-` and decimal digits without a leading zero, but not `-0`
abbrev pub is_key : List ℕ → Bool
is_key [] = false
is_key (c ∷ cs) = if c == 45 then is_decimal cs && not (same cs (codes "0")) else is_decimal (c ∷ cs)

-- the LONG that a word writes as a key
unfoldable pub key_number : List ℕ → Option ℤ
key_number word = if is_key word then whole_of 63 word else None

-- what is there, or the why `number`
abbrev pub or_number : Option ℤ → Result ℤ LineWhy
or_number None = Err why.Number
or_number (Some n) = Ok n

-- a word that is due as a key
unfoldable pub key : List ℕ → Result ℤ LineWhy
key word = or_number (key_number word)

-- nothing, where the line is its first word alone
unfoldable pub alone : List ℕ → Result (Unit {0}) LineWhy
alone line = if not (word_count line == 1) then Err why.Form else Ok tt

-- the name of `WORD NAME`
unfoldable pub one_name : List ℕ → Result (List ℕ) LineWhy
one_name line = if not (word_count line == 2) then Err why.Form else name (word_at line 1)
