-- The spans of tokens.
use Rattle.std.specs.Prelude.{◌≤◌, ◌<◌, ℕ, List, [], ◌∷◌, length, drop, slice_range, IsCharBoundary}
use Rattle.pgql_ast.specs.declared.token.Token.{Token}
use Rattle.pgql_lex.specs.Bytes.{Text}
use Rattle.pgql_lex.specs.Spelling.{Spelled}

-- The token lies in the text, the bytes of its span spell it, and the text may be cut at both ends of the span.
pub record IsAt (text : Text) (t : Token) : Type 0 where
  pub some : t.from < t.to
  pub within : t.to ≤ length text
  pub spelled : Spelled t.kind (slice_range text t.from t.to) (drop t.to text)
  pub begins : IsCharBoundary text t.from
  pub ends : IsCharBoundary text t.to

-- No token begins before place `at`, and none before the end of the one in front of it.
abbrev pub InOrder : ℕ → List Token → Type 0
InOrder at [] = Unit {0}
InOrder at (t ∷ more) = (at ≤ t.from) × InOrder t.to more
