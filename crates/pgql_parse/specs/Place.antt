-- Where the pieces that are left begin.
use Rattle.std.specs.Prelude.{ℕ, List, [], ◌∷◌}
use Rattle.pgql_grammar.specs.declared.piece.Piece.{Piece}

-- the place of the first piece, or the end
abbrev pub first_place : ℕ → List Piece → ℕ
first_place end [] = end
first_place end (x ∷ ts) = x.place
