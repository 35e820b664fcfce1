-- What the grammar sees of the tokens of a text.
use Rattle.std.specs.Prelude.{ℕ, ℤ, pos, ◌-◌, Bool, false, ◌&&◌, ◌==◌, if◌then◌else◌, List, [], ◌∷◌, map, codes, length, take, drop, Option, Some, None}
use Rattle.std.specs.Str.{str_eq_ignore_ascii_case}
use Rattle.column_types.specs.Date.{date_of}
use Rattle.pgql_ast.specs.declared.token.Token.{Token}
use Rattle.pgql_ast.specs.declared.token.TokenKind.{TokenKind}
use Rattle.pgql_ast.specs.declared.token.TokenKind.TheVariants.{Keyword, Word, Quoted, Number, Chars, Sign}
use Rattle.pgql_lex.specs.Spelling.{decimal}
use Rattle.pgql_grammar.specs.declared.piece.Piece.{Piece}
use Rattle.pgql_grammar.specs.declared.piece.Sym.{Sym}
use Rattle.pgql_grammar.specs.declared.piece.Sym.TheVariants as s
use Rattle.pgql_grammar.specs.Clauses.{Text}

-- the sort that a table gives a word, in any case
abbrev pub sort_in : List (Text × Sym) → Text → Sym
sort_in [] w = s.Question
sort_in (row ∷ rows) w = if str_eq_ignore_ascii_case row.0 w then row.1 else sort_in rows w

-- the keywords
abbrev pub keyword_rows : List (Text × Sym)
keyword_rows =
    (codes "SELECT", s.Select) ∷ (codes "DISTINCT", s.Distinct) ∷ (codes "FROM", s.From) ∷ (codes "MATCH", s.Match) ∷ (codes "ON", s.On) ∷
    (codes "WHERE", s.Where) ∷ (codes "GROUP", s.Group) ∷ (codes "BY", s.By) ∷ (codes "HAVING", s.Having) ∷ (codes "ORDER", s.Order) ∷
    (codes "ASC", s.Asc) ∷ (codes "DESC", s.Desc) ∷ (codes "LIMIT", s.Limit) ∷ (codes "OFFSET", s.Offset) ∷ (codes "AS", s.As) ∷
    (codes "AND", s.And) ∷ (codes "OR", s.Or) ∷ (codes "NOT", s.Not) ∷ (codes "IS", s.Is) ∷ (codes "NULL", s.Null) ∷
    (codes "TRUE", s.True) ∷ (codes "FALSE", s.False) ∷ (codes "IN", s.In) ∷ (codes "DATE", s.Date) ∷ (codes "COUNT", s.Count) ∷
    (codes "MIN", s.Min) ∷ (codes "MAX", s.Max) ∷ (codes "SUM", s.Sum) ∷ []

-- the signs
abbrev pub sign_rows : List (Text × Sym)
sign_rows =
    (codes "(", s.Open) ∷ (codes ")", s.Close) ∷ (codes "[", s.OpenSquare) ∷ (codes "]", s.CloseSquare) ∷ (codes ",", s.Comma) ∷ (codes ".", s.Dot) ∷ (codes ":", s.Colon) ∷
    (codes "|", s.Bar) ∷ (codes "=", s.Equal) ∷ (codes "<>", s.Unequal) ∷ (codes "<", s.Less) ∷ (codes "<=", s.AtMost) ∷ (codes ">", s.Greater) ∷ (codes ">=", s.AtLeast) ∷
    (codes "+", s.Plus) ∷ (codes "-", s.Minus) ∷ (codes "*", s.Star) ∷ (codes "/", s.Slash) ∷ (codes "%", s.Percent) ∷ (codes "?", s.Question) ∷ []

unfoldable pub keyword_sort : Text → Sym
keyword_sort = sort_in keyword_rows

unfoldable pub sign_sort : Text → Sym
sign_sort = sort_in sign_rows

-- what stands between two quotes
abbrev pub inside : Text → Text
inside w = take (length w - 2) (drop 1 w)

-- a text with each doubled quote once; whether a quote that may be the first of two stands before it
abbrev pub undoubled : Bool → Text → Text
undoubled behind_quote [] = []
undoubled behind_quote (b ∷ z) = if behind_quote && b == 39 then undoubled false z else b ∷ undoubled (b == 39) z

abbrev pub plain : Sym → ℕ → Text → Piece
plain sort place text = record { sym = sort; place = place; text = text; number = pos 0; day = pos 0 }

-- a text, which is a date or none
abbrev pub chars_piece : ℕ → Text → Option ℤ → Piece
chars_piece place text None = plain s.Chars place text
chars_piece place text (Some day) = record { sym = s.Day; place = place; text = text; number = pos 0; day = day }

-- a token of a kind, at a place, with these bytes
unfoldable pub piece_of : TokenKind → ℕ → Text → Piece
piece_of Keyword place w = plain (keyword_sort w) place w
piece_of Word place w = plain s.Name place w
piece_of Quoted place w = plain s.Name place (inside w)
piece_of Number place w = record { sym = s.Number; place = place; text = []; number = pos (decimal w); day = pos 0 }
piece_of Chars place w = chars_piece place (undoubled false (inside w)) (date_of (undoubled false (inside w)))
piece_of Sign place w = plain (sign_sort w) place []

-- the bytes of a token's span
abbrev pub bytes_of : Text → Token → Text
bytes_of text t = take (t.to - t.from) (drop t.from text)

-- the pieces of a text's tokens
abbrev pub pieces : Text → List Token → List Piece
pieces text ts = map (λ t. piece_of t.kind t.from (bytes_of text t)) ts
