-- What is a token, by its bytes and what stands behind them.
use Rattle.std.specs.Prelude.{◌≡◌, ◌≢◌, ◌≤◌, ◌<◌, ℕ, ◌+◌, ◌-◌, ◌*◌, true, false, if◌then◌else◌, ◌==◌, [], ◌∷◌, ◌++◌, length}
use Rattle.std.specs.List.{AllByRecursion}
use Rattle.pgql_ast.specs.declared.token.TokenKind.{TokenKind}
use Rattle.pgql_ast.specs.declared.token.TokenKind.TheVariants.{Keyword, Word, Quoted, Number, Chars, Sign}
use Rattle.pgql_lex.specs.Bytes.{Text, next, is_letter, is_word_byte, is_digit, is_sign, is_long_sign, is_keyword}

-- A word: a letter or _, then letters, digits and _, at most 64 bytes.
pub record IsWord (w : Text) : Type 0 where
  pub begins : is_letter (next w) ≡ true
  pub bytes : AllByRecursion (λ b. is_word_byte b ≡ true) w
  pub short : length w ≤ 64

-- A word that takes all letters, digits and _ that it can.
pub record IsWholeWord (w behind : Text) : Type 0 where
  pub word : IsWord w
  pub ends : is_word_byte (next behind) ≡ false

-- The number of digits in base ten, with those read so far in front.
abbrev pub decimal_from : ℕ → Text → ℕ
decimal_from value [] = value
decimal_from value (b ∷ z) = decimal_from (10 * value + (b - 48)) z

-- Digits in base ten.
abbrev pub decimal : Text → ℕ
decimal = decimal_from 0

-- Digits up to 9223372036854775807, all that there are, without a letter or _ behind.
pub record IsNumber (w behind : Text) : Type 0 where
  pub some : 0 < length w
  pub digits : AllByRecursion (λ b. is_digit b ≡ true) w
  pub fits : decimal w ≤ 9223372036854775807
  pub ends : is_digit (next behind) ≡ false
  pub apart : is_letter (next behind) ≡ false

-- A text with each single quote doubled.
abbrev pub doubled : Text → Text
doubled [] = []
doubled (b ∷ z) = if b == 39 then 39 ∷ 39 ∷ doubled z else b ∷ doubled z

-- A text in single quotes, a quote doubled.
pub record IsChars (w behind : Text) : Type 0 where
  pub text : Text
  pub whole : w ≡ 39 ∷ (doubled text ++ 39 ∷ [])
  pub ends : next behind ≢ 39

-- A word in double quotes.
pub record IsQuoted (w : Text) : Type 0 where
  pub text : Text
  pub whole : w ≡ 34 ∷ (text ++ 34 ∷ [])
  pub word : IsWord text

-- A sign, the longest first: one of one byte does not begin one of two.
abbrev pub IsSign : Text → Text → Type 0
IsSign (b ∷ []) behind = (is_sign b ≡ true) × (is_long_sign b (next behind) ≡ false)
IsSign (b ∷ c ∷ []) behind = is_long_sign b c ≡ true
IsSign _ behind = ⊥

-- These bytes, with those behind them, are a token of the kind.
abbrev pub Spelled : TokenKind → Text → Text → Type 0
Spelled Keyword w behind = IsWholeWord w behind × (is_keyword w ≡ true)
Spelled Word w behind = IsWholeWord w behind × (is_keyword w ≡ false)
Spelled Quoted w behind = IsQuoted w
Spelled Number w behind = IsNumber w behind
Spelled Chars w behind = IsChars w behind
Spelled Sign w behind = IsSign w behind

-- A token of this kind and length begins the text.
pub record Begins (z : Text) (kind : TokenKind) (n : ℕ) : Type 0 where
  pub bytes : Text
  pub behind : Text
  pub parts : z ≡ bytes ++ behind
  pub len : n ≡ length bytes
  pub spelled : Spelled kind bytes behind
