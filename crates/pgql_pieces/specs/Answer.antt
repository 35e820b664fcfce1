-- What `pieces_of` answers.
use Rattle.std.specs.Prelude.{◌≡◌, ◌⊎◌, ℕ, List, [], ◌∷◌, ◌++◌, length, Result, Ok, Err}
use Rattle.pgql_ast.specs.declared.token.Token.{Token}
use Rattle.pgql_ast.specs.declared.fault.PgqlFault.{PgqlFault}
use Rattle.pgql_ast.specs.declared.fault.PgqlFault.TheVariants.{At, NoMemory}
use Rattle.pgql_grammar.specs.declared.piece.Piece.{Piece}
use Rattle.pgql_grammar.specs.declared.piece.Sym.TheVariants.{End}
use Rattle.pgql_grammar.specs.Pieces.{plain, pieces}
use Rattle.pgql_grammar.specs.Meaning.{IsWithin, IsTooLong, HasNoToken, IsTooDeep}

-- the end of a text of so many bytes
abbrev pub end_of : ℕ → Piece
end_of place = plain End place []

-- The pieces of a text within the limits, and its end; or the first refusal before the grammar's.
abbrev pub Cuts : List ℕ → Result (List Piece) PgqlFault → Type 0
Cuts text (Ok found) = (ts : List Token) × IsWithin text ts × (found ≡ pieces text ts ++ end_of (length text) ∷ [])
Cuts text (Err (At number place)) = IsTooLong text number place ⊎ HasNoToken text number place ⊎ IsTooDeep text number place
Cuts text (Err NoMemory) = Unit {0}
