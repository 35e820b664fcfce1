-- The words of the command line.
use Rattle.std.specs.Prelude.{◌+◌, ◌<◌, ◌≤◌, ℕ, List, [], ◌∷◌, ◌++◌, Option, Some, None, IsSome, is_some, if◌then◌else◌, codes, take, length}
use Rattle.std.specs.Str.{bytes_eq}
use Rattle.pgx_shell.specs.declared.words.Action.{Action}
use Rattle.pgx_shell.specs.declared.words.Action.TheVariants.{Once, Check}

-- what the first word asks for
abbrev pub action_of : List ℕ → Option Action
action_of word = if bytes_eq word (codes "once") then Some Once else if bytes_eq word (codes "check") then Some Check else None

-- the form that the words are, where they are one
abbrev pub form_of : List (List ℕ) → Option Action
form_of (word ∷ []) = action_of word
form_of _ = None

-- the words begin a form: with some more words they are one
abbrev pub Begins : List (List ℕ) → Type 0
Begins words = (more : List (List ℕ)) × IsSome (form_of (words ++ more))

-- the place is the least i such that the first i + 1 words begin no form, or the number of words where there is none
pub record IsUsage (words : List (List ℕ)) (place : ℕ) : Type 0 where
  pub within : place ≤ length words
  pub begins : Begins (take place words)
  pub no_further : place < length words → Begins (take (place + 1) words) → ⊥

-- the place, computed
abbrev pub usage_place : List (List ℕ) → ℕ
usage_place [] = 0
usage_place (word ∷ words) = if is_some (action_of word) then 1 else 0
