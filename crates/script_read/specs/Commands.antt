-- The commands: a table of their lines, what a line of each stands for, and its first fault.
use Rattle.std.specs.Prelude.{ℕ, List, [], ◌∷◌, ◌++◌, if◌then◌else◌, find, option_map, codes, Option, Some, None, Result, Ok, Err}
use Rattle.script_read.specs.declared.fault.LineWhy.{LineWhy}
use Rattle.script_read.specs.declared.fault.LineWhy.TheVariants as why
use Rattle.script_read.specs.declared.script.Command.{Command}
use Rattle.script_read.specs.declared.script.Form.{Form}
use Rattle.script_read.specs.declared.script.Form.TheVariants as form
use Rattle.script_read.specs.Dues.{Due, text, a_name, a_number, text_or_number, rest, words_why}
use Rattle.script_read.specs.Faults.{◌>>=◌, unless}
use Rattle.script_read.specs.Words.{same, words_of, word_in, number_in, rest_in}

-- a command: its first word, what is due at the words behind it, and the form that its words have, counted from 0
pub record CommandRow : Type 0 where
  pub word : List ℕ
  pub dues : List Due
  pub form : List (List ℕ) → Form

abbrev pub row : List ℕ → List Due → (List (List ℕ) → Form) → CommandRow
row first due f = record { word = first; dues = due; form = f }

-- `NAME from NAME`
abbrev pub from : List Due
from = a_name ∷ text (codes "from") ∷ a_name ∷ []

-- the limits of a line: it keeps 1 to so many snapshots, and a threshold, as the id of a snapshot, is 1 to this
abbrev pub most_keep : ℕ
most_keep = 64

abbrev pub most_long : ℕ
most_long = 9223372036854775807

-- `publish G as L keep K threshold T`
abbrev pub published : List Due
published =
    a_name ∷ text (codes "as") ∷ a_name ∷ text (codes "keep") ∷ a_number 1 most_keep ∷ text (codes "threshold") ∷ a_number 1 most_long ∷ []

abbrev pub publish_form : List (List ℕ) → Form
publish_form w = form.Publish (word_in w 1) (word_in w 3) (number_in 1 most_keep w 5) (number_in 1 most_long w 7)

-- `checkout G at SID`, where SID may be `latest`
abbrev pub checked_out : List Due
checked_out = a_name ∷ text (codes "at") ∷ text_or_number (codes "latest") 1 most_long ∷ []

abbrev pub checkout_form : List (List ℕ) → Form
checkout_form w =
    if same (word_in w 3) (codes "latest") then form.CheckoutLatest (word_in w 1) else form.CheckoutSid (word_in w 1) (number_in 1 most_long w 3)

-- the commands of one word
unfoldable pub lone_commands : List CommandRow
lone_commands =
    row (codes "open") [] (λ w. form.Open)
    ∷ row (codes "close") [] (λ w. form.Close)
    ∷ row (codes "columns") [] (λ w. form.Columns)
    ∷ row (codes "lines") [] (λ w. form.Lines)
    ∷ row (codes "discard") [] (λ w. form.Discard)
    ∷ []

-- the commands with the name of a graph
unfoldable pub graph_commands : List CommandRow
graph_commands =
    row (codes "release") (a_name ∷ []) (λ w. form.Release (word_in w 1))
    ∷ row (codes "rows") (a_name ∷ []) (λ w. form.Rows (word_in w 1))
    ∷ row (codes "snapshot") (a_name ∷ []) (λ w. form.Snapshot (word_in w 1))
    ∷ []

-- the commands with the name of a source or of a line
unfoldable pub name_commands : List CommandRow
name_commands =
    row (codes "show") (a_name ∷ []) (λ w. form.Show (word_in w 1))
    ∷ row (codes "unpublish") (a_name ∷ []) (λ w. form.Unpublish (word_in w 1))
    ∷ []

-- the commands that make a graph from another
unfoldable pub derive_commands : List CommandRow
derive_commands =
    row (codes "clone") from (λ w. form.Clone (word_in w 1) (word_in w 3))
    ∷ row (codes "transpose") from (λ w. form.Transpose (word_in w 1) (word_in w 3))
    ∷ row (codes "undirect") from (λ w. form.Undirect (word_in w 1) (word_in w 3))
    ∷ row (codes "simplify") from (λ w. form.Simplify (word_in w 1) (word_in w 3))
    ∷ row (codes "sortdeg") from (λ w. form.SortByDegree (word_in w 1) (word_in w 3))
    ∷ row (codes "build") from (λ w. form.Build (word_in w 1) (word_in w 3))
    ∷ []

-- the other commands with two names
unfoldable pub pair_commands : List CommandRow
pair_commands =
    row (codes "load") from (λ w. form.Load (word_in w 1) (word_in w 3))
    ∷ row (codes "get") from (λ w. form.Get (word_in w 1) (word_in w 3))
    ∷ []

-- the commands with numbers
unfoldable pub number_commands : List CommandRow
number_commands = row (codes "publish") published publish_form ∷ row (codes "checkout") checked_out checkout_form ∷ []

-- the commands with a name and the rest of the line
unfoldable pub rest_commands : List CommandRow
rest_commands = row (codes "change") (a_name ∷ rest ∷ []) (λ w. form.Change (word_in w 1) (rest_in w 2)) ∷ []

-- the commands of a part and of those behind it
abbrev pub from_number : List CommandRow
from_number = number_commands ++ rest_commands

abbrev pub from_pair : List CommandRow
from_pair = pair_commands ++ from_number

abbrev pub from_derive : List CommandRow
from_derive = derive_commands ++ from_pair

abbrev pub from_name : List CommandRow
from_name = name_commands ++ from_derive

abbrev pub from_graph : List CommandRow
from_graph = graph_commands ++ from_name

-- the commands that are built
abbrev pub commands : List CommandRow
commands = lone_commands ++ from_graph

-- the command of these that begins with a word
abbrev pub row_among : List CommandRow → List ℕ → Option CommandRow
row_among rows word = find (λ (r : CommandRow). same word r.word) rows

-- the command that begins with a word
abbrev pub row_of : List ℕ → Option CommandRow
row_of word = row_among commands word

-- what is due behind the first word of a command, of these and of all
unfoldable pub dues_among : List CommandRow → List ℕ → Option (List Due)
dues_among rows word = option_map (λ (r : CommandRow). r.dues) (row_among rows word)

abbrev pub dues_of : List ℕ → Option (List Due)
dues_of word = dues_among commands word

-- what a row gives, where a word has one
abbrev pub by_row : {A : Type 0} → Option CommandRow → (CommandRow → Result A LineWhy) → Result A LineWhy
by_row None f = Err why.Word
by_row (Some r) f = f r

-- the form that words have by the row of the first, of these and of all
unfoldable pub form_among : List CommandRow → List (List ℕ) → Result Form LineWhy
form_among rows words = by_row (row_among rows (word_in words 0)) (λ r. Ok (r.form words))

abbrev pub form_at : List (List ℕ) → Result Form LineWhy
form_at words = form_among commands words

-- nothing, where the words behind the first are what is due
unfoldable pub checked : List Due → List (List ℕ) → Result (Unit {0}) LineWhy
checked dues words = unless (words_why (dues ∷ []) words)

-- the form of a line's words, where they are what is due by the row of the first
unfoldable pub form_of : List (List ℕ) → Result Form LineWhy
form_of words = by_row (row_of (word_in words 0)) (λ r. checked r.dues words >>= (λ _. Ok (r.form words)))

-- the command of a line: the line itself and the form of its words
unfoldable pub command_of : List ℕ → Result Command LineWhy
command_of line = form_of (words_of line) >>= (λ f. Ok (record { line = line; form = f }))
