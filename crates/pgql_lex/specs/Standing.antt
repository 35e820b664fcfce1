-- Where tokens stand in a text.
use Rattle.std.specs.Prelude.{◌≡◌, ℕ, ◌+◌, true, false, List, [], ◌∷◌, ◌++◌, length}
use Rattle.std.specs.List.{AllByRecursion}
use Rattle.pgql_ast.specs.declared.token.Token.{Token}
use Rattle.pgql_ast.specs.declared.token.TokenKind.{TokenKind}
use Rattle.pgql_lex.specs.Bytes.{Text, is_blank}
use Rattle.pgql_lex.specs.Spelling.{Spelled, Begins}

-- White space.
abbrev pub Blank : Text → Type 0
Blank gap = AllByRecursion (λ b. is_blank b ≡ true) gap

-- From place `at` on the text is these tokens and white space, up to place `to`, where `rest` is left: each token's bytes are
-- those of its span, they spell it, and only white space stands between the spans.
abbrev pub Stand : ℕ → Text → List Token → ℕ → Text → Type 0
Stand at z [] to rest = (gap : Text) × (z ≡ gap ++ rest) × Blank gap × (to ≡ at + length gap)
Stand at z (t ∷ more) to rest =
    (gap bytes behind : Text) × (z ≡ gap ++ (bytes ++ behind)) × Blank gap × (t.from ≡ at + length gap) × (t.to ≡ t.from + length bytes)
    × Spelled t.kind bytes behind × Stand t.to behind more to rest

-- Neither white space nor a token begins it, and it is not empty.
abbrev pub Stuck : Text → Type 0
Stuck [] = ⊥
Stuck (b ∷ z) = (is_blank b ≡ false) × ((kind : TokenKind) (n : ℕ) → Begins (b ∷ z) kind n → ⊥)

-- The text is these tokens and white space.
abbrev pub IsSpelled : Text → List Token → Type 0
IsSpelled text found = Stand 0 text found (length text) []

-- The first place where no token begins: up to it the text is tokens and white space.
abbrev pub FirstFault : Text → ℕ → Type 0
FirstFault text place = (found : List Token) × (rest : Text) × Stand 0 text found place rest × Stuck rest
