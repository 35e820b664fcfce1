-- A command that is read is one of the grammar.
use Rattle.std.proofs.Common.{◌≡◌, ◌∙◌, sym, refl, ap, subst, ℕ, List, [], ◌∷◌, Bool, true, false, if◌then◌else◌, Option, Some, None, Ok, rules}
use Rattle.std.specs.Prelude.{◌≢◌, ◌==◌, ◌&&◌, ◌||◌, ◌++◌, not, length, IsTrue, is_some, unwrap_or, codes, find, ⊤}
use Rattle.std.specs.Fmt.{decimal}
use Rattle.std.specs.List.{AllByRecursion, join_with_byte}
use Rattle.std.proofs.lemmas.Bool.{false≢true}
use Rattle.std.proofs.lemmas.List.Splits.{join_with_byte-slice_split}
use Rattle.script_read.specs.declared.fault.LineWhy.{LineWhy}
use Rattle.script_read.specs.declared.fault.LineWhy.TheVariants as why
use Rattle.script_read.specs.declared.script.Command.{Command}
use Rattle.script_read.specs.declared.script.Form.{Form}
use Rattle.script_read.specs.declared.script.Form.TheVariants as form
use Rattle.script_read.specs.Commands.{CommandRow, most_keep, most_long, lone_commands, graph_commands, name_commands, derive_commands, pair_commands, number_commands, rest_commands, from_number, from_pair, from_derive, from_name, from_graph, commands, row_of, by_row, checked, form_of, command_of}
use Rattle.script_read.specs.Dues.{Due, text, a_name, a_file, a_key, a_number, text_or_number, rest, fits, wrong_word}
use Rattle.script_read.specs.Faults.{◌>>=◌, unless}
use Rattle.script_read.specs.Meaning.{IsName, IsFileName, spelled, IsCommand}
use Rattle.script_read.specs.Words.{same, joined, words_of, word_in, is_name, is_file_name, number, key_number}
use Rattle.script_read.proofs.Inversions.{err_ok, carried, first, same_is}
use Rattle.script_read.proofs.Numbers.{number_is}

-- ---- words that are what is due

-- the words that stand where no text is due, each what is due
abbrev Filled : List Due → Type 0
Filled [] = ⊤
Filled (text t ∷ dues) = Filled dues
Filled (a_name ∷ dues) = ((word : List ℕ) × IsName word) × Filled dues
Filled (a_file ∷ dues) = ((word : List ℕ) × IsFileName word) × Filled dues
Filled (a_key ∷ dues) = ((word : List ℕ) × IsTrue (is_some (key_number word))) × Filled dues
Filled (a_number least most ∷ dues) = ((word : List ℕ) × IsTrue (is_some (number least most word))) × Filled dues
Filled (text_or_number t least most ∷ dues) = ((word : List ℕ) × IsTrue (same word t || is_some (number least most word))) × Filled dues
Filled (rest ∷ dues) = (word : List ℕ) × (more : List (List ℕ)) × (joined (word ∷ more) ≢ [])

-- all words, with the texts that are due
abbrev fill : (dues : List Due) → Filled dues → List (List ℕ)
fill [] x = []
fill (text t ∷ dues) x = t ∷ fill dues x
fill (a_name ∷ dues) x = x.0.0 ∷ fill dues x.1
fill (a_file ∷ dues) x = x.0.0 ∷ fill dues x.1
fill (a_key ∷ dues) x = x.0.0 ∷ fill dues x.1
fill (a_number least most ∷ dues) x = x.0.0 ∷ fill dues x.1
fill (text_or_number t least most ∷ dues) x = x.0.0 ∷ fill dues x.1
fill (rest ∷ dues) x = x.0 ∷ x.1

record Meets (dues : List Due) (words : List (List ℕ)) : Type 0 where
  parts : Filled dues
  are : words ≡ fill dues parts

both_true : (a b : Bool) → (a && b) ≡ true → (a ≡ true) × (b ≡ true)
both_true true b h = (refl, h)
both_true false b h = absurd (false≢true h)

no_why : (b : Bool) (o : Option LineWhy) (w : LineWhy) → (if b then o else Some w) ≡ None → (b ≡ true) × (o ≡ None)
no_why true o w h = (refl, h)
no_why false o w h = cc

same_words : (x y : List ℕ) (xs ys : List (List ℕ)) → x ≡ y → xs ≡ ys → x ∷ xs ≡ y ∷ ys
same_words x y xs ys e f = cc

not_empty : (bytes : List ℕ) → not (length bytes == 0) ≡ true → bytes ≢ []
not_empty [] h e = absurd (false≢true h)
not_empty (c ∷ bytes) h e = cc

meets : (dues : List Due) (words : List (List ℕ)) → fits dues words ≡ true → wrong_word dues words ≡ None → Meets dues words
meets [] [] f w = record { parts = tt; are = refl }
meets [] (x ∷ words) f w = absurd (false≢true f)
meets (text t ∷ dues) [] f w = absurd (false≢true f)
meets (text t ∷ dues) (x ∷ words) f w =
    let a = both_true (fits dues words) (same x t) f in
    let m = meets dues words a.0 w in
    record { parts = m.parts; are = same_words x t words (fill dues m.parts) (same_is x t a.1) m.are }
meets (a_name ∷ dues) [] f w = absurd (false≢true f)
meets (a_name ∷ dues) (x ∷ words) f w =
    let a = no_why (is_name x) (wrong_word dues words) why.Name w in
    let m = meets dues words f a.1 in
    record { parts = ((x, a.0), m.parts); are = ap (λ (l : List (List ℕ)). x ∷ l) m.are }
meets (a_file ∷ dues) [] f w = absurd (false≢true f)
meets (a_file ∷ dues) (x ∷ words) f w =
    let a = no_why (is_file_name x) (wrong_word dues words) why.Name w in
    let m = meets dues words f a.1 in
    record { parts = ((x, a.0), m.parts); are = ap (λ (l : List (List ℕ)). x ∷ l) m.are }
meets (a_key ∷ dues) [] f w = absurd (false≢true f)
meets (a_key ∷ dues) (x ∷ words) f w =
    let a = no_why (is_some (key_number x)) (wrong_word dues words) why.Number w in
    let m = meets dues words f a.1 in
    record { parts = ((x, a.0), m.parts); are = ap (λ (l : List (List ℕ)). x ∷ l) m.are }
meets (a_number least most ∷ dues) [] f w = absurd (false≢true f)
meets (a_number least most ∷ dues) (x ∷ words) f w =
    let a = no_why (is_some (number least most x)) (wrong_word dues words) why.Number w in
    let m = meets dues words f a.1 in
    record { parts = ((x, a.0), m.parts); are = ap (λ (l : List (List ℕ)). x ∷ l) m.are }
meets (text_or_number t least most ∷ dues) [] f w = absurd (false≢true f)
meets (text_or_number t least most ∷ dues) (x ∷ words) f w =
    let a = no_why (same x t || is_some (number least most x)) (wrong_word dues words) why.Number w in
    let m = meets dues words f a.1 in
    record { parts = ((x, a.0), m.parts); are = ap (λ (l : List (List ℕ)). x ∷ l) m.are }
meets (rest ∷ dues) [] f w = absurd (false≢true f)
meets (rest ∷ dues) (x ∷ words) f w = record { parts = (x, words, not_empty (joined (x ∷ words)) f); are = refl }

-- the words of a line that has what is due behind its first word
record Behind (dues : List Due) (words : List (List ℕ)) : Type 0 where
  parts : Filled dues
  are : words ≡ word_in words 0 ∷ fill dues parts

passed_both : (b : Bool) (o : Option LineWhy) (u : Unit {0}) → unless (if b then o else Some why.Form) ≡ Ok u → (b ≡ true) × (o ≡ None)
passed_both true None u h = (refl, refl)
passed_both true (Some w) u h = absurd (err_ok w u h)
passed_both false o u h = absurd (err_ok why.Form u h)

checked_is : (dues : List Due) (words : List (List ℕ)) (u : Unit {0}) → checked dues words ≡ Ok u → Behind dues words
unfolding checked
checked_is dues [] u h = absurd (err_ok why.Form u h)
checked_is dues (w ∷ words) u h =
    let a = passed_both (fits dues words) (wrong_word dues words) u h in
    let m = meets dues words a.0 a.1 in
    record { parts = m.parts; are = ap (λ (l : List (List ℕ)). w ∷ l) m.are }

-- ---- the table

-- the words with a space between each two, read as this form, are a command
abbrev Spells : List (List ℕ) → Form → Type 0
Spells words f = IsCommand (record { line = join_with_byte 32 words; form = f })

abbrev RowSpells : CommandRow → Type 0
RowSpells r = (x : Filled r.dues) → Spells (r.word ∷ fill r.dues x) (r.form (r.word ∷ fill r.dues x))

-- each command's form spells the line of its row: behind the table of commands, this is all that is proved of one alone, part by
-- part of the table
lone_rows : AllByRecursion RowSpells lone_commands
unfolding lone_commands
lone_rows = search rules

graph_rows : AllByRecursion RowSpells graph_commands
unfolding graph_commands
graph_rows = search rules

name_rows : AllByRecursion RowSpells name_commands
unfolding name_commands
name_rows = search rules

derive_rows : AllByRecursion RowSpells derive_commands
unfolding derive_commands
derive_rows = search rules

pair_rows : AllByRecursion RowSpells pair_commands
unfolding pair_commands
pair_rows = search rules

rest_rows : AllByRecursion RowSpells rest_commands
unfolding rest_commands
rest_rows = search rules

-- the words of a `publish` line, whose numbers are printed as they were written
published_line : (graph line keep threshold : List ℕ) (k t : ℕ) → decimal k ≡ keep → decimal t ≡ threshold
    → join_with_byte 32 (codes "publish" ∷ graph ∷ codes "as" ∷ line ∷ codes "keep" ∷ keep ∷ codes "threshold" ∷ threshold ∷ []) ≡ spelled (form.Publish graph line k t)
published_line graph line keep threshold k t e f = rw (← e, ← f) refl

-- a `checkout` line, by whether its last word is `latest`
checkout_spells : (latest : Bool) (graph word : List ℕ) → same word (codes "latest") ≡ latest → IsTrue (latest || is_some (number 1 most_long word)) → IsName graph
    → Spells (codes "checkout" ∷ graph ∷ codes "at" ∷ word ∷ []) (if latest then form.CheckoutLatest graph else form.CheckoutSid graph (unwrap_or (number 1 most_long word) 0))
checkout_spells true graph word e h n = let w = same_is word (codes "latest") e in record { spells = rw w refl; parts = n }
checkout_spells false graph word e h n =
    let a = number_is 1 most_long word h in
    record { spells = ap (λ (w : List ℕ). codes "checkout " ++ (graph ++ (codes " at " ++ w))) (sym a.0); parts = (n, a.1) }

number_rows : AllByRecursion RowSpells number_commands
unfolding number_commands
number_rows = (
  λ x.
      let k = number_is 1 most_keep x.1.1.0.0 x.1.1.0.1 in
      let t = number_is 1 most_long x.1.1.1.0.0 x.1.1.1.0.1 in
      record { spells = published_line x.0.0 x.1.0.0 x.1.1.0.0 x.1.1.1.0.0 _ _ k.0 t.0; parts = (x.0.1, x.1.0.1, k.1, t.1) },
  (λ x. checkout_spells (same x.1.0.0 (codes "latest")) x.0.0 x.1.0.0 refl x.1.0.1 x.0.1, tt),
)

-- what holds of the rows of two parts holds of all rows
all_and : (rows more : List CommandRow) → AllByRecursion RowSpells rows → AllByRecursion RowSpells more → AllByRecursion RowSpells (rows ++ more)
all_and [] more a b = b
all_and (x ∷ rows) more a b = (a.0, all_and rows more a.1 b)

rows_spell : AllByRecursion RowSpells commands
rows_spell =
    all_and lone_commands from_graph lone_rows
    (all_and graph_commands from_name graph_rows
    (all_and name_commands from_derive name_rows
    (all_and derive_commands from_pair derive_rows
    (all_and pair_commands from_number pair_rows (all_and number_commands rest_commands number_rows rest_rows)))))

-- ---- a line

-- this row is the command's that begins with a word
record IsRow (word : List ℕ) (r : CommandRow) : Type 0 where
  spells : RowSpells r
  begins : same word r.word ≡ true

row_by : (b : Bool) (word : List ℕ) (x r : CommandRow) (more : Option CommandRow) → same word x.word ≡ b → RowSpells x → (more ≡ Some r → IsRow word r)
    → (if b then Some x else more) ≡ Some r → IsRow word r
row_by true word x r more e p f h = let d : x ≡ r = cc in subst (IsRow word) d (record { spells = p; begins = e })
row_by false word x r more e p f h = f h

row_is : (rows : List CommandRow) (word : List ℕ) (r : CommandRow) → AllByRecursion RowSpells rows → find (λ (x : CommandRow). same word x.word) rows ≡ Some r → IsRow word r
row_is [] word r all h = cc
row_is (x ∷ rows) word r all h = row_by (same word x.word) word x r _ refl all.0 (λ g. row_is rows word r all.1 g) h

spells_row : (r : CommandRow) (words : List (List ℕ)) → IsRow (word_in words 0) r → Behind r.dues words → Spells words (r.form words)
spells_row r words i b =
    let e : words ≡ r.word ∷ fill r.dues b.parts = b.are ∙ ap (λ (w : List ℕ). w ∷ fill r.dues b.parts) (same_is (word_in words 0) r.word i.begins) in
    subst (λ (z : List (List ℕ)). Spells z (r.form z)) (sym e) (i.spells b.parts)

form_by : (found : Option CommandRow) (words : List (List ℕ)) (f : Form) → ((r : CommandRow) → found ≡ Some r → IsRow (word_in words 0) r)
    → by_row found (λ (r : CommandRow). checked r.dues words >>= (λ _. Ok (r.form words))) ≡ Ok f → Spells words f
form_by None words f k h = absurd (err_ok why.Word f h)
form_by (Some r) words f k h =
    let a = first (checked r.dues words) _ f h in
    carried (Spells words) (r.form words) f a.2 (spells_row r words (k r refl) (checked_is r.dues words a.0 a.1))

form_is : (words : List (List ℕ)) (f : Form) → form_of words ≡ Ok f → Spells words f
unfolding form_of
form_is words f h = form_by (row_of (word_in words 0)) words f (λ r e. row_is commands (word_in words 0) r rows_spell e) h

line_spells : (line : List ℕ) (f : Form) → Spells (words_of line) f → IsCommand (record { line = line; form = f })
line_spells line f h = subst (λ (l : List ℕ). IsCommand (record { line = l; form = f })) (join_with_byte-slice_split 32 line) h

-- a command that is read spells its line
pub command_is : (line : List ℕ) (c : Command) → command_of line ≡ Ok c → IsCommand c
unfolding command_of
command_is line c h =
    let a = first (form_of (words_of line)) _ c h in
    carried IsCommand (record { line = line; form = a.0 }) c a.2 (line_spells line a.0 (form_is (words_of line) a.0 a.1))

-- it has the line that it was read from
pub command_line_is : (line : List ℕ) (c : Command) → command_of line ≡ Ok c → c.line ≡ line
unfolding command_of
command_line_is line c h =
    let a = first (form_of (words_of line)) _ c h in
    carried (λ (x : Command). x.line ≡ line) (record { line = line; form = a.0 }) c a.2 refl
