-- Lines of the journal are words with one space between each two.
use Rattle.std.specs.Prelude.{ℕ, List, [], ◌∷◌, ◌++◌, codes}
use Rattle.std.specs.List.{flat_map}
use Rattle.std.specs.Fmt.{decimal}

-- words, one space before each
abbrev pub spaced : List (List ℕ) → List ℕ
spaced words = flat_map (λ word. codes " " ++ word) words

-- a first word and others
abbrev pub phrase : List ℕ → List (List ℕ) → List ℕ
phrase first words = first ++ spaced words

-- a reply line begins with two spaces and ends with a line feed
abbrev pub reply_line : List ℕ → List (List ℕ) → List ℕ
reply_line first words = codes "  " ++ phrase first words ++ codes "\n"

-- `ok N`
abbrev pub count_reply : ℕ → List ℕ
count_reply count = reply_line (codes "ok") (decimal count ∷ [])
