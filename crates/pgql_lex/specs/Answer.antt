-- What `lex` answers.
use Rattle.std.specs.Prelude.{◌≡◌, ◌≤◌, ◌<◌, ◌⊎◌, List, length, Result, Ok, Err}
use Rattle.pgql_ast.specs.declared.token.Token.{Token}
use Rattle.pgql_ast.specs.declared.fault.PgqlFault.{PgqlFault}
use Rattle.pgql_ast.specs.declared.fault.PgqlFault.TheVariants.{At, NoMemory}
use Rattle.pgql_lex.specs.Bytes.{Text}
use Rattle.pgql_lex.specs.Tokens.{tokens}

-- The tokens of a text of at most 65,535 bytes, or 40 at the first byte where no token begins; 42 exactly for a longer text.
-- Of want of memory nothing is said.
abbrev pub Lexes : Text → Result (List Token) PgqlFault → Type 0
Lexes text (Ok found) = (length text ≤ 65535) × (tokens 0 0 text ≡ Ok found)
Lexes text (Err NoMemory) = Unit {0}
Lexes text (Err (At number place)) =
    ((65535 < length text) × (number ≡ 42) × (place ≡ 65535)) ⊎ ((length text ≤ 65535) × (number ≡ 40) × (tokens 0 0 text ≡ Err place))
