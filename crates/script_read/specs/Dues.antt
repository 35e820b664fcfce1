-- What is due at the words of a line, and the first why of words by it.
use Rattle.std.specs.Prelude.{ℕ, ◌==◌, ◌&&◌, ◌||◌, not, Bool, true, false, if◌then◌else◌, is_some, List, [], ◌∷◌, length, Option, Some, None}
use Rattle.script_read.specs.declared.args.Arg.{Arg}
use Rattle.script_read.specs.declared.args.Arg.TheVariants as arg
use Rattle.script_read.specs.declared.fault.LineWhy.{LineWhy}
use Rattle.script_read.specs.declared.fault.LineWhy.TheVariants as why
use Rattle.script_read.specs.Words.{same, joined, word_in, rest_in, is_name, is_file_name, number, key_number}

-- what is due at a word: this text, a name, a file name, a key, a number from the first of these to the second, this text or such
-- a number, or the rest of the line from this word on, behind which nothing is due
pub data Due : Type 0 where
  text : List ℕ → Due
  a_name : Due
  a_file : Due
  a_key : Due
  a_number : ℕ → ℕ → Due
  text_or_number : List ℕ → ℕ → ℕ → Due
  rest : Due

-- what is due where the code's table has this
abbrev pub due_of : Arg → Due
due_of arg.Name = a_name
due_of (arg.Word word) = text word.now
due_of (arg.Number least most) = a_number least most
due_of (arg.WordOrNumber word least most) = text_or_number word.now least most
due_of arg.Rest = rest

-- whether this is the rest of the line
abbrev pub is_rest : Due → Bool
is_rest (text t) = false
is_rest a_name = false
is_rest a_file = false
is_rest a_key = false
is_rest (a_number least most) = false
is_rest (text_or_number t least most) = false
is_rest rest = true

-- what stands where this is due: the word at the place, or the rest of the line from there on
abbrev pub piece_in : Due → List (List ℕ) → ℕ → List ℕ
piece_in due words place = if is_rest due then rest_in words place else word_in words place

-- whether so many words stand, with the texts that are due, and a rest of the line that is not empty where one is due
abbrev pub fits : List Due → List (List ℕ) → Bool
fits [] [] = true
fits [] (word ∷ words) = false
fits (text t ∷ dues) (word ∷ words) = fits dues words && same word t
fits (a_name ∷ dues) (word ∷ words) = fits dues words
fits (a_file ∷ dues) (word ∷ words) = fits dues words
fits (a_key ∷ dues) (word ∷ words) = fits dues words
fits (a_number least most ∷ dues) (word ∷ words) = fits dues words
fits (text_or_number t least most ∷ dues) (word ∷ words) = fits dues words
fits (rest ∷ dues) (word ∷ words) = not (length (joined (word ∷ words)) == 0)
fits (text t ∷ dues) [] = false
fits (a_name ∷ dues) [] = false
fits (a_file ∷ dues) [] = false
fits (a_key ∷ dues) [] = false
fits (a_number least most ∷ dues) [] = false
fits (text_or_number t least most ∷ dues) [] = false
fits (rest ∷ dues) [] = false

-- the why of the leftmost word that is not the name, file name or number that is due
abbrev pub wrong_word : List Due → List (List ℕ) → Option LineWhy
wrong_word [] words = None
wrong_word (text t ∷ dues) (word ∷ words) = wrong_word dues words
wrong_word (a_name ∷ dues) (word ∷ words) = if is_name word then wrong_word dues words else Some why.Name
wrong_word (a_file ∷ dues) (word ∷ words) = if is_file_name word then wrong_word dues words else Some why.Name
wrong_word (a_key ∷ dues) (word ∷ words) = if is_some (key_number word) then wrong_word dues words else Some why.Number
wrong_word (a_number least most ∷ dues) (word ∷ words) = if is_some (number least most word) then wrong_word dues words else Some why.Number
wrong_word (text_or_number t least most ∷ dues) (word ∷ words) =
    if same word t || is_some (number least most word) then wrong_word dues words else Some why.Number
wrong_word (rest ∷ dues) (word ∷ words) = None
wrong_word (text t ∷ dues) [] = None
wrong_word (a_name ∷ dues) [] = None
wrong_word (a_file ∷ dues) [] = None
wrong_word (a_key ∷ dues) [] = None
wrong_word (a_number least most ∷ dues) [] = None
wrong_word (text_or_number t least most ∷ dues) [] = None
wrong_word (rest ∷ dues) [] = None

-- the why of the words behind the first, where they may have these forms: `form` where they have none of them, else that of
-- the form that they have
abbrev pub forms_why : List (List Due) → List (List ℕ) → Option LineWhy
forms_why [] words = Some why.Form
forms_why (dues ∷ forms) words = if fits dues words then wrong_word dues words else forms_why forms words

-- the why of a line's words, where the words behind the first may have these forms
abbrev pub words_why : List (List Due) → List (List ℕ) → Option LineWhy
words_why forms [] = Some why.Form
words_why forms (word ∷ words) = forms_why forms words

-- whether a line's words have a form behind the first
abbrev pub has_form : List Due → List (List ℕ) → Bool
has_form dues [] = false
has_form dues (word ∷ words) = fits dues words

-- the why of the leftmost wrong word behind the first
abbrev pub wrong_behind : List Due → List (List ℕ) → Option LineWhy
wrong_behind dues [] = None
wrong_behind dues (word ∷ words) = wrong_word dues words
