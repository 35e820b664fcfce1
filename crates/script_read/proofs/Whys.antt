-- The why of a line is the first that it has by the table of the grammar.
use Rattle.std.proofs.Common.{◌≡◌, ◌∙◌, sym, refl, ap, ℕ, ℤ, ◌+◌, ◌≤◌, List, [], ◌∷◌, ◌++◌, length, Bool, true, false, if◌then◌else◌, Option, Some, None, Result, Ok, Err, arith}
use Rattle.std.specs.Prelude.{◌==◌, ◌&&◌, not, nat_le, nat_lt, slice_get, unwrap_or, find, map, option_map, codes, is_some}
use Rattle.std.specs.List.{AllByRecursion}
use Rattle.std.specs.Option.{option_or}
use Rattle.std.specs.Result.{result_err}
use Rattle.std.specs.Str.{is_utf8}
use Rattle.std.proofs.lemmas.Bool.{ne_eqb, ltb-true, ltb-false}
use Rattle.std.proofs.lemmas.Bool.Decides.{nat_tests}
use Rattle.script_read.specs.declared.fault.LineWhy.{LineWhy}
use Rattle.script_read.specs.declared.fault.LineWhy.TheVariants as why
use Rattle.script_read.specs.declared.reading.Section.{Section}
use Rattle.script_read.specs.declared.reading.Section.TheVariants as section
use Rattle.script_read.specs.declared.reading.Reading.{Reading}
use Rattle.script_read.specs.declared.script.Block.{Block}
use Rattle.script_read.specs.Commands.{CommandRow, commands, row_of as row_of_command, by_row, checked, form_of, command_of}
use Rattle.script_read.specs.Dues.{Due, text, a_name, a_file, a_key, fits, words_why}
use Rattle.script_read.specs.Faults.{◌>>=◌, unless}
use Rattle.script_read.specs.Grammar.{Row, source_forms, command_form, command_rows, rows_in, row_why, has_text, actors_here, source_why, actor_why, command_why, limit_why, first_why}
use Rattle.script_read.specs.Later.{comes_later}
use Rattle.script_read.specs.Lines.{is_passed, line_step}
use Rattle.script_read.specs.Sections.{new_source, inline_line, files_line, source_line, vertex_line, edge_line, end_line, blocks_at, first_phase_line, phase_line, number_of, has_block, new_block, actor_line, command_line, built_line, line_in}
use Rattle.script_read.specs.Phases.{IsActor, IsPhase}
use Rattle.script_read.proofs.Blocks.{index, number_is, index_most, index_found, here_is, all_last}
use Rattle.script_read.proofs.Inversions.{same_is}
use Rattle.script_read.proofs.Kept.{AtSection, Phased, IsReading}
use Rattle.script_read.specs.Words.{same, words_of, word_count, word_in, word_at, is_name, name, is_file_name, file_name, key_number, or_number, key, alone, one_name}

-- ---- steps

abbrev at : List (List ℕ) → ℕ → List ℕ
at words i = unwrap_or (slice_get words i) []

-- a step that finds no fault of its own adds none
then_fine : {A B : Type 0} (r : Result A LineWhy) (f : A → B) → result_err (r >>= (λ x. Ok (f x))) ≡ result_err r
then_fine (Ok x) f = refl
then_fine (Err w) f = refl

then_name_by : {B : Type 0} (b : Bool) (word : List ℕ) (f : List ℕ → Result B LineWhy) (o : Option LineWhy) → result_err (f word) ≡ o
    → result_err ((if b then Ok word else Err why.Name) >>= f) ≡ (if b then o else Some why.Name)
then_name_by true word f o h = h
then_name_by false word f o h = refl

-- a word that is due as a name, and a step behind it
then_name : {B : Type 0} (word : List ℕ) (f : List ℕ → Result B LineWhy) (o : Option LineWhy) → result_err (f word) ≡ o
    → result_err (name word >>= f) ≡ (if is_name word then o else Some why.Name)
unfolding name
then_name word f o h = then_name_by (is_name word) word f o h

-- the same of a word that is due as a file name
then_file : {B : Type 0} (word : List ℕ) (f : List ℕ → Result B LineWhy) (o : Option LineWhy) → result_err (f word) ≡ o
    → result_err (file_name word >>= f) ≡ (if is_file_name word then o else Some why.Name)
unfolding file_name
then_file word f o h = then_name_by (is_file_name word) word f o h

then_key_by : {B : Type 0} (k : Option ℤ) (f : ℤ → Result B LineWhy) (o : Option LineWhy) → ((z : ℤ) → result_err (f z) ≡ o)
    → result_err (or_number k >>= f) ≡ (if is_some k then o else Some why.Number)
then_key_by (Some z) f o h = h z
then_key_by None f o h = refl

-- a word that is due as a key, and a step behind it
then_key : {B : Type 0} (word : List ℕ) (f : ℤ → Result B LineWhy) (o : Option LineWhy) → ((z : ℤ) → result_err (f z) ≡ o)
    → result_err (key word >>= f) ≡ (if is_some (key_number word) then o else Some why.Number)
unfolding key
then_key word f o h = then_key_by (key_number word) f o h

or_none : (o : Option LineWhy) → option_or o None ≡ o
or_none None = refl
or_none (Some w) = refl

-- what is due before and behind a test
or_behind : (b : Bool) (w : LineWhy) (o : Option LineWhy) → option_or (if b then None else Some w) o ≡ (if b then o else Some w)
or_behind true w o = refl
or_behind false w o = refl

or_either : (b : Bool) (p : Option LineWhy) (w : LineWhy) (o : Option LineWhy)
    → option_or (if b then p else Some w) o ≡ (if b then option_or p o else Some w)
or_either true p w o = refl
or_either false p w o = refl

either_why : (b : Bool) (word : List ℕ) → result_err (if b then Ok word else Err why.Name) ≡ (if b then None else Some why.Name)
either_why true word = refl
either_why false word = refl

-- ---- the words of a line

none_behind : (words : List (List ℕ)) → result_err (if not (length words == 1) then Err why.Form else Ok (tt {0})) ≡ words_why ([] ∷ []) words
none_behind [] = refl
none_behind (a ∷ []) = refl
none_behind (a ∷ b ∷ words) = rw (ne_eqb (length (a ∷ b ∷ words)) 1 (omega arith)) refl

name_behind : (words : List (List ℕ)) → result_err (if not (length words == 2) then Err why.Form else name (at words 1)) ≡ words_why ((a_name ∷ []) ∷ []) words
unfolding name
name_behind [] = refl
name_behind (a ∷ []) = refl
name_behind (a ∷ b ∷ []) = either_why (is_name b) b
name_behind (a ∷ b ∷ c ∷ words) = rw (ne_eqb (length (a ∷ b ∷ c ∷ words)) 2 (omega arith)) refl

key_behind : {B : Type 0} (words : List (List ℕ)) (f : ℤ → B)
    → result_err (if not (length words == 2) then Err why.Form else (key (at words 1) >>= (λ x. Ok (f x)))) ≡ words_why ((a_key ∷ []) ∷ []) words
key_behind [] f = refl
key_behind (a ∷ []) f = refl
key_behind (a ∷ b ∷ []) f = then_key b _ None (λ z. refl)
key_behind (a ∷ b ∷ c ∷ words) f = rw (ne_eqb (length (a ∷ b ∷ c ∷ words)) 2 (omega arith)) refl

keys_behind : {B : Type 0} (words : List (List ℕ)) (f : ℤ → ℤ → ℤ → B)
    → result_err (if not (length words == 4) then Err why.Form else (key (at words 1) >>= (λ x. key (at words 2) >>= (λ y. key (at words 3) >>= (λ z. Ok (f x y z))))))
    ≡ words_why ((a_key ∷ a_key ∷ a_key ∷ []) ∷ []) words
keys_behind [] f = refl
keys_behind (a ∷ []) f = refl
keys_behind (a ∷ b ∷ []) f = refl
keys_behind (a ∷ b ∷ c ∷ []) f = refl
keys_behind (a ∷ b ∷ c ∷ d ∷ []) f = then_key b _ _ (λ x. then_key c _ _ (λ y. then_key d _ None (λ z. refl)))
keys_behind (a ∷ b ∷ c ∷ d ∷ e ∷ words) f = rw (ne_eqb (length (a ∷ b ∷ c ∷ d ∷ e ∷ words)) 4 (omega arith)) refl

-- a name and a text that is due, with a test of the name behind them
tested_by : {B : Type 0} (b : Bool) (u : List ℕ) (f : List ℕ → Result B LineWhy) (o : Option LineWhy) → result_err (f u) ≡ o
    → result_err (if not b then Err why.Form else (name u >>= f)) ≡ option_or (if b then (if is_name u then None else Some why.Name) else Some why.Form) o
tested_by true u f o h = then_name u f o h ∙ sym (or_behind (is_name u) why.Name o)
tested_by false u f o h = refl

tested_behind : {B : Type 0} (words : List (List ℕ)) (word : List ℕ) (f : List ℕ → Result B LineWhy) (o : Option LineWhy) → result_err (f (at words 1)) ≡ o
    → result_err (if not ((length words == 3) && same (at words 2) word) then Err why.Form else (name (at words 1) >>= f))
    ≡ option_or (words_why ((a_name ∷ text word ∷ []) ∷ []) words) o
tested_behind [] word f o h = refl
tested_behind (a ∷ []) word f o h = refl
tested_behind (a ∷ b ∷ []) word f o h = refl
tested_behind (a ∷ b ∷ c ∷ []) word f o h = tested_by (same c word) b f o h
tested_behind (a ∷ b ∷ c ∷ d ∷ words) word f o h = rw (ne_eqb (length (a ∷ b ∷ c ∷ d ∷ words)) 3 (omega arith)) refl

-- the same with a file name behind the text
filed_by : {B : Type 0} (b : Bool) (u v : List ℕ) (f : List ℕ → List ℕ → Result B LineWhy) (o : Option LineWhy) → result_err (f u v) ≡ o
    → result_err (if not b then Err why.Form else (name u >>= (λ x. file_name v >>= f x)))
    ≡ option_or (if b then (if is_name u then (if is_file_name v then None else Some why.Name) else Some why.Name) else Some why.Form) o
filed_by true u v f o h =
    then_name u _ _ (then_file v _ o h ∙ sym (or_behind (is_file_name v) why.Name o))
    ∙ sym (or_either (is_name u) (if is_file_name v then None else Some why.Name) why.Name o)
filed_by false u v f o h = refl

filed_behind : {B : Type 0} (words : List (List ℕ)) (word : List ℕ) (f : List ℕ → List ℕ → Result B LineWhy) (o : Option LineWhy) → result_err (f (at words 1) (at words 3)) ≡ o
    → result_err (if not ((length words == 4) && same (at words 2) word) then Err why.Form else (name (at words 1) >>= (λ x. file_name (at words 3) >>= f x)))
    ≡ option_or (words_why ((a_name ∷ text word ∷ a_file ∷ []) ∷ []) words) o
filed_behind [] word f o h = refl
filed_behind (a ∷ []) word f o h = refl
filed_behind (a ∷ b ∷ []) word f o h = refl
filed_behind (a ∷ b ∷ c ∷ []) word f o h = refl
filed_behind (a ∷ b ∷ c ∷ d ∷ []) word f o h = filed_by (same c word) b d f o h
filed_behind (a ∷ b ∷ c ∷ d ∷ e ∷ words) word f o h = rw (ne_eqb (length (a ∷ b ∷ c ∷ d ∷ e ∷ words)) 4 (omega arith)) refl

-- ---- the forms of a source

abbrev inline_form : List Due
inline_form = a_name ∷ text (codes "inline") ∷ []

abbrev files_form : List Due
files_form = a_name ∷ text (codes "config") ∷ a_file ∷ []

and_false : (a b : Bool) → b ≡ false → a && b ≡ false
and_false true b h = h
and_false false b h = refl

-- the two texts differ
not_both : (word : List ℕ) → same word (codes "config") ≡ true → same word (codes "inline") ≡ false
not_both word h = rw (same_is word (codes "config") h) refl

-- words whose third is `config` have no inline form
no_inline : (words : List (List ℕ)) → same (at words 2) (codes "config") ≡ true → words_why source_forms words ≡ words_why (files_form ∷ []) words
no_inline [] h = refl
no_inline (a ∷ []) h = refl
no_inline (a ∷ b ∷ []) h = refl
no_inline (a ∷ b ∷ c ∷ words) h = rw (and_false (fits [] words) (same c (codes "inline")) (not_both c h)) refl

-- words whose third is not `config` have no form with files
no_files : (words : List (List ℕ)) → same (at words 2) (codes "config") ≡ false → words_why source_forms words ≡ words_why (inline_form ∷ []) words
no_files [] h = refl
no_files (a ∷ []) h = refl
no_files (a ∷ b ∷ []) h = refl
no_files (a ∷ b ∷ c ∷ words) h = rw (and_false (fits (a_file ∷ []) words) (same c (codes "config")) h) refl

-- the step by the third word finds what the two forms of a source find
by_third : {A : Type 0} (words : List (List ℕ)) (b : Bool) (x y : Result A LineWhy) (o : Option LineWhy) → same (at words 2) (codes "config") ≡ b
    → result_err x ≡ option_or (words_why (files_form ∷ []) words) o → result_err y ≡ option_or (words_why (inline_form ∷ []) words) o
    → result_err (if b then x else y) ≡ option_or (words_why source_forms words) o
by_third words true x y o h e f = e ∙ ap (λ (w : Option LineWhy). option_or w o) (sym (no_inline words h))
by_third words false x y o h e f = f ∙ ap (λ (w : Option LineWhy). option_or w o) (sym (no_files words h))

-- ---- lines

-- the why of a step at a line is that of a line of this one form
abbrev Why : {A : Type 0} → Result A LineWhy → List Due → List ℕ → Type 0
Why r dues line = result_err r ≡ words_why (dues ∷ []) (words_of line)

alone_why : (line : List ℕ) → Why (alone line) [] line
unfolding alone word_count
alone_why line = none_behind (words_of line)

one_name_why : (line : List ℕ) → Why (one_name line) (a_name ∷ []) line
unfolding one_name word_count word_at
one_name_why line = name_behind (words_of line)

-- the row that is looked up, or the rows behind it
chosen : {A : Type 0} (words : List (List ℕ)) (b : Bool) (x y : Result A LineWhy) (row : Row) (rest : Option Row)
    → result_err x ≡ words_why row.1 words → result_err y ≡ row_why words rest
    → result_err (if b then x else y) ≡ row_why words (if b then Some row else rest)
chosen words true x y row rest e f = e
chosen words false x y row rest e f = f

-- the row of a line in a place
abbrev row_of : Section → List ℕ → Option Row
row_of p line = find (λ row. same (word_at line 0) row.0) (rows_in p)

-- the row of a command
abbrev command_row : List ℕ → Option Row
command_row line = find (λ row. same (word_at line 0) row.0) command_rows

found_form : (b : Bool) (x : CommandRow) (rest : Option Row) (found : Option CommandRow) → rest ≡ option_map command_form found
    → (if b then Some (command_form x) else rest) ≡ option_map command_form (if b then Some x else found)
found_form true x rest found h = refl
found_form false x rest found h = h

-- the grammar's row of a command is that of the table of commands
find_form : (rows : List CommandRow) (word : List ℕ) → find (λ (r : Row). same word r.0) (map command_form rows) ≡ option_map command_form (find (λ (r : CommandRow). same word r.word) rows)
find_form [] word = refl
find_form (x ∷ rows) word = found_form (same word x.word) x _ _ (find_form rows word)

why_of : (o : Option LineWhy) → result_err (unless o) ≡ o
why_of None = refl
why_of (Some w) = refl

checked_why : (dues : List Due) (words : List (List ℕ)) → result_err (checked dues words) ≡ words_why (dues ∷ []) words
unfolding checked
checked_why dues words = why_of (words_why (dues ∷ []) words)

row_form_why : (found : Option CommandRow) (words : List (List ℕ))
    → result_err (by_row found (λ (r : CommandRow). checked r.dues words >>= (λ _. Ok (r.form words)))) ≡ row_why words (option_map command_form found)
row_form_why None words = refl
row_form_why (Some r) words = then_fine (checked r.dues words) _ ∙ checked_why r.dues words

form_why : (line : List ℕ) → result_err (form_of (words_of line)) ≡ row_why (words_of line) (command_row line)
unfolding form_of word_at
form_why line =
    row_form_why (row_of_command (word_in (words_of line) 0)) (words_of line) ∙ ap (row_why (words_of line)) (sym (find_form commands (word_in (words_of line) 0)))

-- a test of the limit behind a step
full_by : {A B : Type 0} (r : Result A LineWhy) (full : Bool) (f : A → B)
    → result_err (r >>= (λ x. if full then Err why.Many else Ok (f x))) ≡ option_or (result_err r) (if full then Some why.Many else None)
full_by (Ok x) true f = refl
full_by (Ok x) false f = refl
full_by (Err w) full f = refl

command_line_why : (s : Reading) (line : List ℕ) → IsReading s → result_err (command_line s line) ≡ option_or (row_why (words_of line) (command_row line)) (command_why s)
unfolding command_line command_of
command_line_why s line good =
    full_by (form_of (words_of line) >>= (λ f. Ok (record { line = line; form = f }))) (nat_le 65536 s.command_count) _
    ∙ (ap (λ (o : Option LineWhy). option_or o (if nat_le 65536 s.command_count then Some why.Many else None)) (then_fine (form_of (words_of line)) _ ∙ form_why line)
    ∙ ap (λ (n : ℕ). option_or (row_why (words_of line) (command_row line)) (if nat_le 65536 n then Some why.Many else None)) good.phased.counted)

-- one more source, and a step behind it that finds no fault
source_test : {B : Type 0} (standing full : Bool) (x : B)
    → result_err ((if standing then Err why.Twice else (if full then Err why.Many else Ok (tt {0}))) >>= (λ _. Ok x))
    ≡ (if standing then Some why.Twice else (if full then Some why.Many else None))
source_test true full x = refl
source_test false true x = refl
source_test false false x = refl

-- what a source's name finds behind its words
abbrev name_why : Reading → List ℕ → Option LineWhy
name_why s line = source_why s (word_at line 1)

inline_why : (s : Reading) (line : List ℕ) → result_err (inline_line s line) ≡ option_or (words_why (inline_form ∷ []) (words_of line)) (name_why s line)
unfolding inline_line new_source word_count word_at
inline_why s line = tested_behind (words_of line) (codes "inline") _ _ (source_test _ _ _)

files_why : (s : Reading) (line : List ℕ) → result_err (files_line s line) ≡ option_or (words_why (files_form ∷ []) (words_of line)) (name_why s line)
unfolding files_line new_source word_count word_at
files_why s line = filed_behind (words_of line) (codes "config") _ _ (source_test _ _ _)

source_line_why : (s : Reading) (line : List ℕ) → result_err (source_line s line) ≡ option_or (words_why source_forms (words_of line)) (name_why s line)
unfolding source_line word_at
source_line_why s line = by_third (words_of line) (same (word_at line 2) (codes "config")) _ _ _ refl (files_why s line) (inline_why s line)

first_phase_why : (s : Reading) (line : List ℕ) → Why (first_phase_line s line) [] line
unfolding first_phase_line
first_phase_why s line = then_fine (alone line) _ ∙ alone_why line

phase_why : (s : Reading) (line : List ℕ) → Why (phase_line s line) [] line
unfolding phase_line
phase_why s line = then_fine (alone line) _ ∙ alone_why line

-- a name alone, and a step behind it
named_behind : {B : Type 0} (words : List (List ℕ)) (f : List ℕ → Result B LineWhy) (o : Option LineWhy) → result_err (f (at words 1)) ≡ o
    → result_err ((if not (length words == 2) then Err why.Form else name (at words 1)) >>= f) ≡ option_or (words_why ((a_name ∷ []) ∷ []) words) o
named_behind [] f o h = refl
named_behind (a ∷ []) f o h = refl
named_behind (a ∷ b ∷ []) f o h = then_name b f o h ∙ sym (or_behind (is_name b) why.Name o)
named_behind (a ∷ b ∷ c ∷ words) f o h = rw (ne_eqb (length (a ∷ b ∷ c ∷ words)) 2 (omega arith)) refl

-- what the limits on actors find of a number
abbrev number_why : List Block → ℕ → Option LineWhy
number_why blocks k = if has_block blocks k then Some why.Twice else (if nat_lt 128 k then Some why.Many else None)

new_block_by : (twice full : Bool) (k : ℕ)
    → result_err {T = ℕ} (if twice then Err why.Twice else (if full then Err why.Many else Ok k)) ≡ (if twice then Some why.Twice else (if full then Some why.Many else None))
new_block_by true full k = refl
new_block_by false true k = refl
new_block_by false false k = refl

new_block_why : (blocks : List Block) (k : ℕ) → result_err (new_block blocks k) ≡ number_why blocks k
unfolding new_block
new_block_why blocks k = new_block_by (has_block blocks k) (nat_lt 128 k) k

within_room : (i : ℕ) → i ≤ 128 → nat_lt 128 i ≡ false
within_room i h = grind (arith, nat_tests)

no_room : (i l : ℕ) → i ≡ l → nat_lt 128 (i + 1) ≡ nat_le 128 l
no_room i l h = grind (arith, nat_tests)

room_by : (t : Bool) (i l : ℕ) → nat_lt i l ≡ t → i ≤ l → l ≤ 128
    → (if nat_lt 128 (i + 1) then Some why.Many else None) ≡ (if t then None else (if nat_le 128 l then Some why.Many else None))
room_by true i l e h m = let f = ltb-true i l e in rw (within_room (i + 1) (omega (arith, f, m))) refl
room_by false i l e h m = let f = ltb-false i l e in ap (λ (b : Bool). if b then Some why.Many else None) (no_room i l (omega (arith, f, h)))

-- the actors of the open phase are of those that are known
blocks_known : (p : Section) (s : Reading) → AtSection p s → Phased p s → AllByRecursion (λ (b : Block). IsActor (length s.actors) b.actor) (blocks_at p s)
blocks_known section.Start s here run = rw here.blocks tt
blocks_known section.Vertices s here run = rw here.before.blocks tt
blocks_known section.Edges s here run = rw here.before.blocks tt
blocks_known section.Phase s here run = (all_last (IsPhase (length s.actors)) s.phases s.blocks run.phases).known
blocks_known section.Actor s here run = (all_last (IsPhase (length s.actors)) s.phases (s.blocks ++ s.block ∷ []) run.phases).known

number_finds : (s : Reading) (name : List ℕ) → IsReading s → number_why (blocks_at s.section s) (number_of s.actors name) ≡ actor_why s name
number_finds s name good =
    let known = blocks_known s.section s good.stands good.phased in
    ap (number_why (blocks_at s.section s)) (number_is s.actors name)
    ∙ (ap (λ (b : Bool). if b then Some why.Twice else (if nat_lt 128 (index s.actors name + 1) then Some why.Many else None))
    (sym (here_is s.actors name (blocks_at s.section s) good.phased.distinct known))
    ∙ ap (λ (o : Option LineWhy). if has_text (actors_here s) name then Some why.Twice else o)
    (room_by (has_text s.actors name) (index s.actors name) (length s.actors) (index_found s.actors name) (index_most s.actors name) good.phased.few))

actor_line_why : (s : Reading) (line : List ℕ) → IsReading s → result_err (actor_line s line) ≡ option_or (words_why ((a_name ∷ []) ∷ []) (words_of line)) (actor_why s (word_at line 1))
unfolding actor_line one_name word_count word_at
actor_line_why s line good =
    named_behind (words_of line) _ _ (then_fine (new_block (blocks_at s.section s) (number_of s.actors (at (words_of line) 1))) _
    ∙ (new_block_why (blocks_at s.section s) (number_of s.actors (at (words_of line) 1)) ∙ number_finds s (at (words_of line) 1) good))

vertex_why : (s : Reading) (line : List ℕ) → Why (vertex_line s line) (a_key ∷ []) line
unfolding vertex_line word_count word_at
vertex_why s line = key_behind (words_of line) _

edge_why : (s : Reading) (line : List ℕ) → Why (edge_line s line) (a_key ∷ a_key ∷ a_key ∷ []) line
unfolding edge_line word_count word_at
edge_why s line = keys_behind (words_of line) _

end_why : (s : Reading) (line : List ℕ) → Why (end_line s line) [] line
unfolding end_line
end_why s line = then_fine (alone line) _ ∙ alone_why line

-- ---- places

start_by : {A : Type 0} (words : List (List ℕ)) (source phase : Bool) (x y : Result A LineWhy) (r q : Row) (o : Option LineWhy)
    → result_err x ≡ option_or (words_why r.1 words) o → result_err y ≡ words_why q.1 words
    → result_err (if source then x else (if phase then y else Err why.Word))
    ≡ option_or (row_why words (if source then Some r else (if phase then Some q else None))) (if source then o else None)
start_by words true phase x y r q o e f = e
start_by words false true x y r q o e f = f ∙ sym (or_none _)
start_by words false false x y r q o e f = refl

within_by : {A : Type 0} (words : List (List ℕ)) (phase actor : Bool) (x y z : Result A LineWhy) (r q : Row) (rest : Option Row) (o c : Option LineWhy)
    → result_err x ≡ words_why r.1 words → result_err y ≡ option_or (words_why q.1 words) o → result_err z ≡ option_or (row_why words rest) c
    → result_err (if phase then x else (if actor then y else z))
    ≡ option_or (row_why words (if phase then Some r else (if actor then Some q else rest))) (if phase then None else (if actor then o else c))
within_by words true actor x y z r q rest o c e f g = e ∙ sym (or_none _)
within_by words false true x y z r q rest o c e f g = f
within_by words false false x y z r q rest o c e f g = g

-- a line of a section, by the table
abbrev TableWhy : Section → Reading → List ℕ → Type 0
TableWhy p s line = result_err (built_line p s line) ≡ option_or (row_why (words_of line) (row_of p line)) (limit_why p s line)

built_why : (p : Section) (s : Reading) (line : List ℕ) → IsReading s → TableWhy p s line
unfolding built_line
built_why section.Start s line good =
    start_by (words_of line) (same (word_at line 0) (codes "source")) (same (word_at line 0) (codes "phase")) _ _ _ _ _ (source_line_why s line) (first_phase_why s line)
built_why section.Vertices s line good =
    chosen _ (same (word_at line 0) (codes "v")) _ _ _ _ (vertex_why s line)
    (chosen _ (same (word_at line 0) (codes "e")) _ _ _ _ (edge_why s line)
    (chosen _ (same (word_at line 0) (codes "end")) _ _ _ _ (end_why s line) refl)) ∙ sym (or_none _)
built_why section.Edges s line good =
    chosen _ (same (word_at line 0) (codes "e")) _ _ _ _ (edge_why s line)
    (chosen _ (same (word_at line 0) (codes "end")) _ _ _ _ (end_why s line) refl) ∙ sym (or_none _)
built_why section.Phase s line good =
    within_by (words_of line) (same (word_at line 0) (codes "phase")) (same (word_at line 0) (codes "actor")) _ _ _ _ _ _ _ _
    (phase_why s line) (actor_line_why s line good) refl
built_why section.Actor s line good =
    within_by (words_of line) (same (word_at line 0) (codes "phase")) (same (word_at line 0) (codes "actor")) _ _ _ _ _ _ _ _
    (phase_why s line) (actor_line_why s line good) (command_line_why s line good)

-- the tests before the table
before_by : {A : Type 0} (is_passed no_text later : Bool) (s : A) (r : Result A LineWhy) (o : Option LineWhy) → result_err r ≡ o
    → result_err (if is_passed then Ok s else (if no_text then Err why.Utf8 else (if later then Err why.Later else r)))
    ≡ (if is_passed then None else (if no_text then Some why.Utf8 else (if later then Some why.Later else o)))
before_by true no_text later s r o h = refl
before_by false true later s r o h = refl
before_by false false true s r o h = refl
before_by false false false s r o h = h

-- what a line finds is its first why
pub line_why : (s : Reading) (line : List ℕ) → IsReading s → result_err (line_step s line) ≡ first_why s line
unfolding line_step line_in
line_why s line good = before_by (is_passed line) (not (is_utf8 line)) (comes_later s.section (word_at line 0)) s _ _ (built_why s.section s line good)
