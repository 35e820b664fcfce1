-- What is due at the words of a line, word by word, and the form of a line that has it.
use Rattle.std.proofs.Common.{◌≡◌, ◌∙◌, sym, refl, ap, ℕ, suc, zero, ◌+◌, ◌<◌, ◌≤◌, add-one, List, [], ◌∷◌, length, map, drop, get_or, Bool, true, false, if◌then◌else◌, Option, Some, None, Result, Ok, Err, arith}
use Rattle.std.specs.Prelude.{◌==◌, ◌&&◌, ◌||◌, nat_lt, is_some, option_map}
use Rattle.std.specs.Option.{option_or}
use Rattle.std.proofs.Math.Seq.{drop-nil, drop-length}
use Rattle.std.proofs.lemmas.Bool.{ne_eqb, ltb-true, ltb-false, false≢true}
use Rattle.std.proofs.lemmas.Bool.Decides.{nat_tests}
use Rattle.script_read.specs.declared.args.Arg.{Arg}
use Rattle.script_read.specs.declared.fault.LineFault.{LineFault}
use Rattle.script_read.specs.declared.fault.LineFault.TheVariants as fault
use Rattle.script_read.specs.declared.fault.LineWhy.{LineWhy}
use Rattle.script_read.specs.declared.fault.LineWhy.TheVariants as why
use Rattle.script_read.specs.declared.script.Form.{Form}
use Rattle.script_read.specs.Commands.{CommandRow, row_of, dues_among, dues_of, by_row, form_among, form_at, checked, form_of}
use Rattle.script_read.specs.Dues.{Due, text, a_name, a_file, a_key, a_number, text_or_number, rest, due_of, is_rest, piece_in, fits, wrong_word, has_form, wrong_behind}
use Rattle.script_read.specs.Faults.{◌>>=◌, Gives, GivesSurely, unless}
use Rattle.script_read.specs.Words.{words_of, word_count, word_in, word_at, same, is_name, is_file_name, number, key_number}

-- ---- one word

and_swap : (a b : Bool) → (a && b) ≡ ((true && b) && a)
and_swap true true = refl
and_swap true false = refl
and_swap false true = refl
and_swap false false = refl

and_true : (b : Bool) → b ≡ (b && true)
and_true true = refl
and_true false = refl

fits_one : (due : Due) (dues : List Due) (word : List ℕ) (words : List (List ℕ))
    → fits (due ∷ dues) (word ∷ words) ≡ (fits (due ∷ []) (piece_in due (word ∷ words) 0 ∷ []) && (is_rest due || fits dues words))
fits_one (text t) dues word words = and_swap (fits dues words) (same word t)
fits_one a_name dues word words = refl
fits_one a_file dues word words = refl
fits_one a_key dues word words = refl
fits_one (a_number least most) dues word words = refl
fits_one (text_or_number t least most) dues word words = refl
fits_one rest dues word words = and_true _

fits_none : (due : Due) (dues : List Due) → fits (due ∷ dues) [] ≡ false
fits_none (text t) dues = refl
fits_none a_name dues = refl
fits_none a_file dues = refl
fits_none a_key dues = refl
fits_none (a_number least most) dues = refl
fits_none (text_or_number t least most) dues = refl
fits_none rest dues = refl

or_behind : (b : Bool) (w : LineWhy) (o : Option LineWhy) → (if b then o else Some w) ≡ option_or (if b then None else Some w) o
or_behind true w o = refl
or_behind false w o = refl

wrong_one : (due : Due) (dues : List Due) (word : List ℕ) (words : List (List ℕ))
    → wrong_word (due ∷ dues) (word ∷ words) ≡ option_or (wrong_word (due ∷ []) (piece_in due (word ∷ words) 0 ∷ [])) (if is_rest due then None else wrong_word dues words)
wrong_one (text t) dues word words = refl
wrong_one a_name dues word words = or_behind (is_name word) why.Name (wrong_word dues words)
wrong_one a_file dues word words = or_behind (is_file_name word) why.Name (wrong_word dues words)
wrong_one a_key dues word words = or_behind (is_some (key_number word)) why.Number (wrong_word dues words)
wrong_one (a_number least most) dues word words = or_behind (is_some (number least most word)) why.Number (wrong_word dues words)
wrong_one (text_or_number t least most) dues word words = or_behind (same word t || is_some (number least most word)) why.Number (wrong_word dues words)
wrong_one rest dues word words = refl

-- ---- word by word

-- what is due, and the words, from the one before a place
abbrev pub has_from : ℕ → List Arg → List (List ℕ) → Bool
has_from i dues words = has_form (map due_of (drop i dues)) (drop i words)

abbrev pub wrong_from : ℕ → List Arg → List (List ℕ) → Option LineWhy
wrong_from i dues words = wrong_behind (map due_of (drop i dues)) (drop i words)

pub has_next : (dues : List Arg) (words : List (List ℕ)) (i : ℕ) (d : Arg) → i < length dues → suc i < length words
    → has_from i dues words ≡ (fits (due_of (get_or dues i d) ∷ []) (piece_in (due_of (get_or dues i d)) words (suc i) ∷ []) && (is_rest (due_of (get_or dues i d)) || has_from (suc i) dues words))
has_next [] words i d l m = absurd (omega (arith, l))
has_next (x ∷ dues) [] i d l m = absurd (omega (arith, m))
has_next (x ∷ dues) (w ∷ []) zero d l m = absurd (omega (arith, m))
has_next (x ∷ dues) (w ∷ v ∷ words) zero d l m = fits_one (due_of x) (map due_of dues) v words
has_next (x ∷ dues) (w ∷ words) (suc i) d l m = has_next dues words i d (omega (arith, l)) (omega (arith, m))

pub has_no_word : (dues : List Arg) (words : List (List ℕ)) (i : ℕ) → i < length dues → length words ≤ suc i → has_from i dues words ≡ false
has_no_word [] words i l m = absurd (omega (arith, l))
has_no_word (x ∷ dues) [] i l m = rw (drop-nil {A = List ℕ} i) refl
has_no_word (x ∷ dues) (w ∷ []) zero l m = fits_none (due_of x) (map due_of dues)
has_no_word (x ∷ dues) (w ∷ v ∷ words) zero l m = absurd (omega (arith, m))
has_no_word (x ∷ dues) (w ∷ words) (suc i) l m = has_no_word dues words i (omega (arith, l)) (omega (arith, m))

count_same : (m n : ℕ) → (m == n + 1) ≡ (suc m == suc n + 1)
count_same m n = grind (arith, nat_tests)

pub has_all : (dues : List Arg) (words : List (List ℕ)) → has_from (length dues) dues words ≡ (length words == length dues + 1)
has_all [] [] = refl
has_all [] (w ∷ []) = refl
has_all [] (w ∷ v ∷ words) = sym (ne_eqb (length (w ∷ v ∷ words)) 1 (omega arith))
has_all (x ∷ dues) [] = ap (has_form (map due_of (drop (length dues) dues))) (drop-nil {A = List ℕ} (suc (length dues))) ∙ sym (ne_eqb 0 (suc (length dues) + 1) (omega arith))
has_all (x ∷ dues) (w ∷ words) = has_all dues words ∙ count_same (length words) (length dues)

pub wrong_next : (dues : List Arg) (words : List (List ℕ)) (i : ℕ) (d : Arg) → i < length dues → suc i < length words
    → wrong_from i dues words
    ≡ option_or (wrong_word (due_of (get_or dues i d) ∷ []) (piece_in (due_of (get_or dues i d)) words (suc i) ∷ [])) (if is_rest (due_of (get_or dues i d)) then None else wrong_from (suc i) dues words)
wrong_next [] words i d l m = absurd (omega (arith, l))
wrong_next (x ∷ dues) [] i d l m = absurd (omega (arith, m))
wrong_next (x ∷ dues) (w ∷ []) zero d l m = absurd (omega (arith, m))
wrong_next (x ∷ dues) (w ∷ v ∷ words) zero d l m = wrong_one (due_of x) (map due_of dues) v words
wrong_next (x ∷ dues) (w ∷ words) (suc i) d l m = wrong_next dues words i d (omega (arith, l)) (omega (arith, m))

none_wrong : (words : List (List ℕ)) → wrong_behind [] words ≡ None
none_wrong [] = refl
none_wrong (w ∷ words) = refl

pub wrong_none : (dues : List Arg) (words : List (List ℕ)) → wrong_from (length dues) dues words ≡ None
wrong_none dues words = rw (drop-length dues) (none_wrong (drop (length dues) words))

-- ---- a line

pub no_word_left : (dues : List Arg) (line : List ℕ) (i n : ℕ) → n ≡ word_count line → i < length dues → n ≤ i + 1 → has_from i dues (words_of line) ≡ false
unfolding word_count
no_word_left dues line i n c l m = has_no_word dues (words_of line) i l (omega (arith, c, m))

pub word_next : (dues : List Arg) (line : List ℕ) (i n : ℕ) (d : Arg) (piece : List ℕ) → n ≡ word_count line → i < length dues → i + 1 < n
    → piece ≡ piece_in (due_of (get_or dues i d)) (words_of line) (i + 1)
    → has_from i dues (words_of line) ≡ (fits (due_of (get_or dues i d) ∷ []) (piece ∷ []) && (is_rest (due_of (get_or dues i d)) || has_from (i + 1) dues (words_of line)))
unfolding word_count
word_next dues line i n d piece c l m e = rw (e, add-one) (has_next dues (words_of line) i d l (omega (arith, c, m)))

pub words_end : (dues : List Arg) (line : List ℕ) (i n : ℕ) → n ≡ word_count line → i ≡ length dues → (n == length dues + 1) ≡ has_from i dues (words_of line)
unfolding word_count
words_end dues line i n c e = rw (e, c) (sym (has_all dues (words_of line)))

and_rest : (a b : Bool) → (a && b) ≡ true → b ≡ true
and_rest true b h = h
and_rest false b h = cc

stands_by : (b : Bool) (dues : List Arg) (words : List (List ℕ)) (i : ℕ) → nat_lt (suc i) (length words) ≡ b → i < length dues → has_from i dues words ≡ true → suc i < length words
stands_by true dues words i e l h = ltb-true (suc i) (length words) e
stands_by false dues words i e l h = absurd (false≢true (sym (has_no_word dues words i l (ltb-false (suc i) (length words) e)) ∙ h))

-- where the form is had, each word that is due stands
stands : (dues : List Arg) (words : List (List ℕ)) (i : ℕ) → i < length dues → has_from i dues words ≡ true → suc i < length words
stands dues words i l h = stands_by (nat_lt (suc i) (length words)) dues words i refl l h

pub rest_passes : (a b t : Bool) → t ≡ a → t ≡ true → (a || b) ≡ true
rest_passes true b t e h = refl
rest_passes false b t e h = absurd (false≢true (sym e ∙ h))

pub no_rest : (a b t : Bool) → t ≡ a → t ≡ false → (a || b) ≡ b
no_rest true b t e h = absurd (false≢true (sym h ∙ e))
no_rest false b t e h = refl

pub had_next : (dues : List Arg) (line : List ℕ) (i : ℕ) (d : Arg) (t : Bool) → i < length dues → has_from i dues (words_of line) ≡ true
    → t ≡ is_rest (due_of (get_or dues i d)) → t ≡ false → has_from (i + 1) dues (words_of line) ≡ true
had_next dues line i d t l h e f =
    let m = stands dues (words_of line) i l h in
    rw add-one (sym (no_rest _ _ t e f) ∙ and_rest _ _ (sym (has_next dues (words_of line) i d l m) ∙ h))

pub why_next : (dues : List Arg) (line : List ℕ) (i : ℕ) (d : Arg) (piece : List ℕ) → i < length dues → has_from i dues (words_of line) ≡ true
    → piece ≡ piece_in (due_of (get_or dues i d)) (words_of line) (i + 1)
    → wrong_from i dues (words_of line)
    ≡ option_or (wrong_word (due_of (get_or dues i d) ∷ []) (piece ∷ [])) (if is_rest (due_of (get_or dues i d)) then None else wrong_from (i + 1) dues (words_of line))
why_next dues line i d piece l h e = rw (e, add-one) (wrong_next dues (words_of line) i d l (stands dues (words_of line) i l h))

pub why_end : (dues : List Arg) (line : List ℕ) (i : ℕ) → i ≡ length dues → wrong_from i dues (words_of line) ≡ None
why_end dues line i e = rw e (wrong_none dues (words_of line))

-- ---- the test of a word

pub test_fails : (a b t : Bool) → t ≡ a → t ≡ false → (a && b) ≡ false
test_fails true b t e h = absurd (false≢true (sym h ∙ e))
test_fails false b t e h = refl

pub test_passes : (a b t : Bool) → t ≡ a → t ≡ true → (a && b) ≡ b
test_passes true b t e h = refl
test_passes false b t e h = absurd (false≢true (sym e ∙ h))

pub why_found : (o p w : Option LineWhy) → w ≡ o → is_some w ≡ true → option_or o p ≡ w
why_found None p w e h = absurd (false≢true (sym (ap is_some e) ∙ h))
why_found (Some x) p w e h = sym e

pub why_rest : (o p w : Option LineWhy) (a t : Bool) → w ≡ o → t ≡ a → t ≡ true → option_or o (if a then None else p) ≡ w
why_rest None p w true t e f h = sym e
why_rest (Some x) p w true t e f h = sym e
why_rest o p w false t e f h = absurd (false≢true (sym f ∙ h))

pub why_behind : (o p w : Option LineWhy) (a t : Bool) → w ≡ o → is_some w ≡ false → t ≡ a → t ≡ false → option_or o (if a then None else p) ≡ p
why_behind None p w true t e h f g = absurd (false≢true (sym g ∙ f))
why_behind None p w false t e h f g = refl
why_behind (Some x) p w a t e h f g = absurd (false≢true (sym h ∙ ap is_some e))

-- ---- a whole line

checked_by : (b : Bool) (o : Option LineWhy) → unless (if b then o else Some why.Form) ≡ (if b then unless o else Err why.Form)
checked_by true o = refl
checked_by false o = refl

pub checks : (dues : List Due) (words : List (List ℕ)) → checked dues words ≡ (if has_form dues words then unless (wrong_behind dues words) else Err why.Form)
unfolding checked
checks dues [] = refl
checks dues (w ∷ words) = checked_by (fits dues words) (wrong_word dues words)

by_dues : (found : Option CommandRow) (words : List (List ℕ)) (dues : List Due) → option_map (λ (r : CommandRow). r.dues) found ≡ Some dues
    → by_row found (λ (r : CommandRow). checked r.dues words >>= (λ _. Ok (r.form words))) ≡ (checked dues words >>= (λ _. by_row found (λ (r : CommandRow). Ok (r.form words))))
by_dues None words dues e = cc
by_dues (Some r) words dues e = let d : r.dues ≡ dues = cc in rw d refl

by_none : (found : Option CommandRow) (f : CommandRow → Result Form LineWhy) → option_map (λ (r : CommandRow). r.dues) found ≡ None → by_row found f ≡ Err why.Word
by_none None f e = refl
by_none (Some r) f e = cc

by_word : (line word : List ℕ) (found : Option (List Due)) → word ≡ word_at line 0 → found ≡ dues_of word → dues_of (word_in (words_of line) 0) ≡ found
unfolding word_at
by_word line word found e h = ap dues_of (sym e) ∙ sym h

row_then : (words : List (List ℕ)) (dues : List Due) → dues_of (word_in words 0) ≡ Some dues → form_of words ≡ (checked dues words >>= (λ _. form_at words))
unfolding form_of form_among dues_among
row_then words dues e = by_dues (row_of (word_in words 0)) words dues e

then_bad : (r : Result (Unit {0}) LineWhy) (f : Result Form LineWhy) (w : LineWhy) → r ≡ Err w → (r >>= (λ _. f)) ≡ Err w
then_bad r f w h = rw h refl

then_good : (r : Result (Unit {0}) LineWhy) (f : Result Form LineWhy) (u : Unit {0}) → r ≡ Ok u → (r >>= (λ _. f)) ≡ f
then_good r f u h = rw h refl

-- a fault in what is due is the line's
pub row_refuses : (line word : List ℕ) (dues : List Due) (bad : LineFault) → word ≡ word_at line 0 → Some dues ≡ dues_of word
    → GivesSurely {A = Unit {0}} (Err bad) (checked dues (words_of line)) → Gives {A = Form} (Err bad) (form_of (words_of line))
row_refuses line word dues (fault.Bad w) e h k = row_then (words_of line) dues (by_word line word (Some dues) e h) ∙ then_bad (checked dues (words_of line)) _ w k
row_refuses line word dues fault.NoMemory e h k = absurd k

-- a line whose words are what is due has the form that they have
pub row_reads : (line word : List ℕ) (dues : List Due) (u : Unit {0}) → word ≡ word_at line 0 → Some dues ≡ dues_of word
    → checked dues (words_of line) ≡ Ok u → form_of (words_of line) ≡ form_at (words_of line)
row_reads line word dues u e h k = row_then (words_of line) dues (by_word line word (Some dues) e h) ∙ then_good (checked dues (words_of line)) _ u k

none_then : (words : List (List ℕ)) → dues_of (word_in words 0) ≡ None → form_of words ≡ Err why.Word
unfolding form_of dues_among
none_then words e = by_none (row_of (word_in words 0)) _ e

-- no command begins with its first word
pub no_row : (line word : List ℕ) → word ≡ word_at line 0 → None ≡ dues_of word → form_of (words_of line) ≡ Err why.Word
no_row line word e h = none_then (words_of line) (by_word line word None e h)
