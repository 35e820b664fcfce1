-- The first line of bytes, and the test of UTF-8.
use Rattle.std.proofs.Common.{◌≡◌, ◌≢◌, ◌<◌, ℕ, zero, suc, List, [], ◌∷◌, length, get_or, take, drop, refl, ap, ◌∙◌, arith, Bool, true, false, Bor, Option, Some, None}
use Rattle.std.specs.Prelude.{unwrap_or, option_map}
use Rattle.std.specs.Str.{is_utf8, IsUtf8}
use Rattle.std.proofs.lemmas.Bool.Decides.{nat_tests}
use Rattle.std.proofs.lemmas.Str.{is_utf8-from_IsUtf8, IsUtf8-from_is_utf8}
use Rattle.script_read.specs.Lines.{lines_of, onto_first}

not_feed : (byte : ℕ) (bytes : List ℕ) → byte ≢ 10 → lines_of (byte ∷ bytes) ≡ onto_first byte (lines_of bytes)
not_feed byte bytes h = grind (arith, nat_tests)

-- the bytes before the first line feed are the first line
pub lines_of_feed : (bytes : List ℕ) (i : ℕ) → i < length bytes → ((k : ℕ) → k < i → get_or bytes k 0 ≢ 10) → get_or bytes i 0 ≡ 10 → lines_of bytes ≡ take i bytes ∷ lines_of (drop (suc i) bytes)
lines_of_feed [] i l none here = absurd (omega arith)
lines_of_feed (byte ∷ bytes) zero l none here = rw here refl
lines_of_feed (byte ∷ bytes) (suc i) l none here =
    not_feed byte bytes (none 0 (omega arith)) ∙ ap (onto_first byte) (lines_of_feed bytes i (omega arith) (λ k h. none (suc k) (omega arith)) here)

-- without a line feed all bytes are one line
pub lines_of_rest : (bytes : List ℕ) → 0 < length bytes → ((k : ℕ) → k < length bytes → get_or bytes k 0 ≢ 10) → lines_of bytes ≡ bytes ∷ []
lines_of_rest [] l none = absurd (omega arith)
lines_of_rest (byte ∷ []) l none = not_feed byte [] (none 0 (omega arith))
lines_of_rest (byte ∷ next ∷ bytes) l none =
    not_feed byte (next ∷ bytes) (none 0 (omega arith)) ∙ ap (onto_first byte) (lines_of_rest (next ∷ bytes) (omega arith) (λ k h. none (suc k) (omega arith)))

false-from : (b : Bool) → (b ≡ true → ⊥) → b ≡ false
false-from true h = absurd (h refl)
false-from false h = refl

-- a line that is no text, and one that is
pub not-text : (line : List ℕ) → (IsUtf8 line → ⊥) → is_utf8 line ≡ false
not-text line h = false-from (is_utf8 line) (λ t. h (IsUtf8-from_is_utf8 line t))

pub is-text : (line : List ℕ) → IsUtf8 line → is_utf8 line ≡ true
is-text line h = is_utf8-from_IsUtf8 line h

pub ruleset text_rules = (not-text, is-text)

-- a text, or the empty one
pub or_empty : (found : Option (Bor (List ℕ))) (d : Bor (List ℕ)) (read : Option (List ℕ)) → option_map (λ s. s.now) found ≡ read → (unwrap_or found d).now ≡ unwrap_or read d.now
or_empty None d read h = rw (← h) refl
or_empty (Some s) d read h = rw (← h) refl
