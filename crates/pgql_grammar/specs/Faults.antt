-- Where a list of pieces first leaves a language.
use Rattle.std.specs.Prelude.{◌≡◌, ◌⊎◌, ℕ, ◌+◌, ◌<◌, List, ◌++◌, length, take}
use Rattle.pgql_grammar.specs.declared.piece.Piece.{Piece}
use Rattle.pgql_grammar.specs.Language.{Lang}

-- the pieces begin a word of the language
abbrev pub Begins : {A : Type 0} → Lang A → List Piece → Type 0
Begins L ts = (more : List Piece) × (a : _) × L (ts ++ more) a

-- The first piece such that the pieces up to it begin no word, or the number of pieces, where all of them begin one and are none.
pub record FirstFault {A : Type 0} (L : Lang A) (ts : List Piece) (at : ℕ) : Type 0 where
  pub before : Begins L (take at ts)
  pub there : (at < length ts) × (Begins L (take (at + 1) ts) → ⊥) ⊎ (at ≡ length ts) × ((a : A) → L ts a → ⊥)
