-- How deep a text may nest: at most 64 open brackets, 8 NOT in a row and 8 signs `-` in a row.
use Rattle.std.specs.Prelude.{ℕ, ◌+◌, ◌-◌, Bool, ◌&&◌, ◌||◌, nat_lt, if◌then◌else◌, List, [], ◌∷◌, Option, Some, None}
use Rattle.pgql_grammar.specs.declared.piece.Piece.{Piece}
use Rattle.pgql_grammar.specs.declared.piece.Sym.{Sym}
use Rattle.pgql_grammar.specs.declared.piece.Sym.TheVariants as s
use Rattle.pgql_grammar.specs.Sorts.{is}

-- The brackets that are open behind a piece. A `)` closes none where none is open.
unfoldable pub open_behind : ℕ → Sym → ℕ
open_behind brackets k = if is s.Open k then brackets + 1 else (if is s.Close k then brackets - 1 else brackets)

-- how many pieces of the sort stand in a row up to a piece
unfoldable pub run_to : Sym → ℕ → Sym → ℕ
run_to sort run k = if is sort k then run + 1 else 0

-- a `(` with more than 64 brackets open, the ninth NOT of a run or the ninth `-` of a run
abbrev pub is_too_deep : Sym → ℕ → ℕ → ℕ → Bool
is_too_deep k brackets nots dashes = (is s.Open k && nat_lt 64 brackets) || (nat_lt 8 nots || nat_lt 8 dashes)

-- the place of the first piece that is too deep, behind pieces that leave so many open
abbrev pub too_deep_from : ℕ → ℕ → ℕ → List Piece → Option ℕ
too_deep_from brackets nots dashes [] = None
too_deep_from brackets nots dashes (x ∷ more) =
    if is_too_deep x.sym (open_behind brackets x.sym) (run_to s.Not nots x.sym) (run_to s.Minus dashes x.sym) then Some x.place
    else too_deep_from (open_behind brackets x.sym) (run_to s.Not nots x.sym) (run_to s.Minus dashes x.sym) more

abbrev pub too_deep : List Piece → Option ℕ
too_deep = too_deep_from 0 0 0
