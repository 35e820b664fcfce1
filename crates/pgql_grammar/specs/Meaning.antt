-- What a text spells, and why and where it is refused.
use Rattle.std.specs.Prelude.{◌≡◌, ◌⊎◌, ◌≤◌, ◌<◌, ℕ, zero, suc, List, [], ◌∷◌, length, Some, None, Result, Ok, Err}
use Rattle.pgql_ast.specs.declared.token.Token.{Token}
use Rattle.pgql_ast.specs.declared.query.Query.{Query}
use Rattle.pgql_ast.specs.declared.fault.PgqlFault.{PgqlFault}
use Rattle.pgql_ast.specs.declared.fault.PgqlFault.TheVariants.{At, NoMemory}
use Rattle.pgql_lex.specs.Tokens.{tokens}
use Rattle.pgql_grammar.specs.declared.piece.Piece.{Piece}
use Rattle.pgql_grammar.specs.Clauses.{Text, any_query}
use Rattle.pgql_grammar.specs.Faults.{FirstFault}
use Rattle.pgql_grammar.specs.Limits.{too_deep}
use Rattle.pgql_grammar.specs.Pieces.{pieces}

-- The text is these tokens, within the limits.
pub record IsWithin (text : Text) (found : List Token) : Type 0 where
  pub short : length text ≤ 65535
  pub lexed : tokens 0 0 text ≡ Ok found
  pub shallow : too_deep (pieces text found) ≡ None

-- The text spells the query.
abbrev pub Spells : Text → Query → Type 0
Spells text query = (found : List Token) × IsWithin text found × any_query (pieces text found) query

-- ---- refusals, in their order

-- 42 at 65535: the text is too long
abbrev pub IsTooLong : Text → ℕ → ℕ → Type 0
IsTooLong text number place = (65535 < length text) × (number ≡ 42) × (place ≡ 65535)

-- 40 at the first byte where no token begins
abbrev pub HasNoToken : Text → ℕ → ℕ → Type 0
HasNoToken text number place = (length text ≤ 65535) × (tokens 0 0 text ≡ Err place) × (number ≡ 40)

-- 42 at the first token that is too deep
abbrev pub IsTooDeep : Text → ℕ → ℕ → Type 0
IsTooDeep text number place = (found : List Token) × (length text ≤ 65535) × (tokens 0 0 text ≡ Ok found) × (too_deep (pieces text found) ≡ Some place) × (number ≡ 42)

-- the first byte of the piece of this number, or the end
abbrev pub place_at : ℕ → List Piece → ℕ → ℕ
place_at end [] k = end
place_at end (x ∷ more) zero = x.place
place_at end (x ∷ more) (suc k) = place_at end more k

-- 41 at the first token such that the tokens up to it begin no query, or at the text's length
abbrev pub IsNoQuery : Text → ℕ → ℕ → Type 0
IsNoQuery text number place = (found : List Token) × IsWithin text found × (k : ℕ) × FirstFault any_query (pieces text found) k
    × (number ≡ 41) × (place ≡ place_at (length text) (pieces text found) k)

-- The text is refused with this number at this place.
abbrev pub Refused : Text → ℕ → ℕ → Type 0
Refused text number place = IsTooLong text number place ⊎ HasNoToken text number place ⊎ IsTooDeep text number place ⊎ IsNoQuery text number place

-- A query that the text spells, its first refusal, or want of memory.
abbrev pub Parses : Text → Result Query PgqlFault → Type 0
Parses text (Ok query) = Spells text query
Parses text (Err (At number place)) = Refused text number place
Parses text (Err NoMemory) = Unit {0}
