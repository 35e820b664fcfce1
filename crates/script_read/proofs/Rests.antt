-- The rest of a line behind its first words.
use Rattle.std.proofs.Common.{◌≡◌, ◌∙◌, sym, refl, ap, ℕ, suc, zero, ◌+◌, ◌<◌, add-one, List, [], ◌∷◌, drop, Bor, Some, None, lit<, arith}
use Rattle.std.proofs.Math.Seq.{drop-nil}
use Rattle.std.proofs.lemmas.List.Splits.{slice_split_first, slice_split_none, join_with_byte-slice_split}
use Rattle.std.proofs.lemmas.List.Sums.{fails_before_first}
use Rattle.std.proofs.lemmas.Str.Pattern.{IsSplitOnceResult, split_once_first}
use Rattle.script_read.specs.Words.{is_space, words_of, joined, rest_in}

-- a text with a space is its first word, and the words behind the space
words_behind : (text : List ℕ) (x : Bor (List ℕ) × Bor (List ℕ)) → IsSplitOnceResult 32 text (Some x) → words_of text ≡ x.0.now ∷ words_of x.1.now
words_behind text x h =
    let a = split_once_first 32 text (Some x) h (lit< tt) in
    rw (a.1, a.2) (slice_split_first is_space text 0 a.0)

-- a text without a space is one word
one_word : (text : List ℕ) → IsSplitOnceResult 32 text None → words_of text ≡ text ∷ []
one_word text h =
    let a = split_once_first 32 text None h (lit< tt) in
    slice_split_none is_space text (λ i d l. fails_before_first is_space text i d (omega (arith, a, l)))

drop_next : (i : ℕ) (words : List (List ℕ)) (w : List ℕ) (more : List (List ℕ)) → drop i words ≡ w ∷ more → drop (suc i) words ≡ more
drop_next zero [] w more h = cc
drop_next zero (x ∷ words) w more h = cc
drop_next (suc i) [] w more h = cc
drop_next (suc i) (x ∷ words) w more h = drop_next i words w more h

drop_past : (place i : ℕ) (words : List (List ℕ)) (w : List ℕ) → drop i words ≡ w ∷ [] → i < place → drop place words ≡ []
drop_past zero i words w h l = absurd (omega (arith, l))
drop_past (suc place) i [] w h l = refl
drop_past (suc place) zero (x ∷ words) w h l = let e : words ≡ [] = cc in rw e (drop-nil {A = List ℕ} place)
drop_past (suc place) (suc i) (x ∷ words) w h l = drop_past place i words w h (omega (arith, l))

-- the words from the next place on stand behind the first space
pub rest_next : (line rest : List ℕ) (i : ℕ) (x : Bor (List ℕ) × Bor (List ℕ)) → drop i (words_of line) ≡ words_of rest → IsSplitOnceResult 32 rest (Some x)
    → drop (i + 1) (words_of line) ≡ words_of x.1.now
rest_next line rest i x h s = rw add-one (drop_next i (words_of line) x.0.now (words_of x.1.now) (h ∙ words_behind rest x s))

-- behind the last word no rest is left
pub rest_past : (line rest : List ℕ) (place i : ℕ) → drop i (words_of line) ≡ words_of rest → IsSplitOnceResult 32 rest None → i < place → [] ≡ rest_in (words_of line) place
rest_past line rest place i h s l = ap joined (sym (drop_past place i (words_of line) rest (h ∙ one_word rest s) l))

-- the words from a place on are the rest
pub rest_is : (line rest : List ℕ) (place i : ℕ) → drop i (words_of line) ≡ words_of rest → i ≡ place → rest ≡ rest_in (words_of line) place
rest_is line rest place i h e = rw (← e, h) (sym (join_with_byte-slice_split 32 rest))
