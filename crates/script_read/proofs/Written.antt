-- A name and a rest that are written behind a word are what is read there.
use Rattle.std.proofs.Common.{◌≡◌, ◌∙◌, sym, refl, ap, ℕ, List, [], ◌∷◌, ◌++◌, length, Bool, true, false, Ok, arith}
use Rattle.std.specs.Prelude.{◌≢◌, ◌==◌, ◌&&◌, not}
use Rattle.std.specs.List.{list_all, onto_first}
use Rattle.std.proofs.lemmas.Bool.{eqb-true, ne_eqb, false≢true}
use Rattle.std.proofs.lemmas.List.Splits.{slice_split-cons_no, join_with_byte-slice_split}
use Rattle.script_read.specs.Commands.{checked}
use Rattle.script_read.specs.Dues.{a_name, rest, fits}
use Rattle.script_read.specs.Words.{is_space, words_of, joined, word_in, rest_in, rest_line, is_name_byte, is_name}

not_space_by : (b : Bool) (c : ℕ) → is_space c ≡ b → is_name_byte c ≡ true → b ≡ false
not_space_by true c h n = let e = eqb-true c 32 h in absurd (false≢true (rw e at n))
not_space_by false c h n = refl

and_parts : (a b : Bool) → (a && b) ≡ true → (a ≡ true) × (b ≡ true)
and_parts true b h = (refl, h)
and_parts false b h = absurd (false≢true h)

-- the bytes of a name are a word up to the space behind them
cut : (name behind : List ℕ) → list_all is_name_byte name ≡ true → words_of (name ++ (32 ∷ behind)) ≡ name ∷ words_of behind
cut [] behind h = refl
cut (c ∷ name) behind h =
    let a = and_parts _ _ h in
    slice_split-cons_no is_space c (name ++ (32 ∷ behind)) (not_space_by (is_space c) c refl a.0) ∙ ap (onto_first c) (cut name behind a.1)

name_bytes : (name : List ℕ) → is_name name ≡ true → list_all is_name_byte name ≡ true
name_bytes [] h = refl
name_bytes (c ∷ name) h = (and_parts _ _ (and_parts _ _ h).1).0

-- the words of the line
pub line_words : (word name behind : List ℕ) → is_name word ≡ true → is_name name ≡ true → words_of (rest_line word name behind) ≡ word ∷ name ∷ words_of behind
line_words word name behind w n =
    cut word (name ++ (32 ∷ behind)) (name_bytes word w) ∙ ap (λ (l : List (List ℕ)). word ∷ l) (cut name behind (name_bytes name n))

not_empty : (bytes : List ℕ) → bytes ≢ [] → not (length bytes == 0) ≡ true
not_empty [] h = absurd (h refl)
not_empty (c ∷ bytes) h = rw (ne_eqb (length (c ∷ bytes)) 0 (omega arith)) refl

rest_fits : (words : List (List ℕ)) (behind : List ℕ) → joined words ≡ behind → behind ≢ [] → fits (rest ∷ []) words ≡ true
rest_fits [] behind e h = absurd (h (sym e))
rest_fits (word ∷ words) behind e h = rw e (not_empty behind h)

name_and_rest : (word name : List ℕ) (words : List (List ℕ)) → is_name name ≡ true → fits (rest ∷ []) words ≡ true → checked (a_name ∷ rest ∷ []) (word ∷ name ∷ words) ≡ Ok tt
unfolding checked
name_and_rest word name [] n f = absurd (false≢true f)
name_and_rest word name (w ∷ words) n f = rw (f, n) refl

-- what is due stands there
pub rest_due : (word name behind : List ℕ) → is_name word ≡ true → is_name name ≡ true → behind ≢ [] → checked (a_name ∷ rest ∷ []) (words_of (rest_line word name behind)) ≡ Ok tt
rest_due word name behind w n h =
    rw (line_words word name behind w n) (name_and_rest word name (words_of behind) n (rest_fits (words_of behind) behind (join_with_byte-slice_split 32 behind) h))

-- the name is the second word
pub name_again : (word name behind : List ℕ) → is_name word ≡ true → is_name name ≡ true → word_in (words_of (rest_line word name behind)) 1 ≡ name
name_again word name behind w n = rw (line_words word name behind w n) refl

-- the rest is the rest
pub rest_again : (word name behind : List ℕ) → is_name word ≡ true → is_name name ≡ true → rest_in (words_of (rest_line word name behind)) 2 ≡ behind
rest_again word name behind w n = rw (line_words word name behind w n) (join_with_byte-slice_split 32 behind)
