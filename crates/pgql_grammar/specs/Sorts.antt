-- Sorts of tokens.
use Rattle.std.specs.Prelude.{Bool, true, false, ◌||◌}
use denote.Enum.Bare.{sameb}
use Rattle.pgql_ast.specs.declared.expr.Op.{Op}
use Rattle.pgql_ast.specs.declared.expr.Op.TheVariants as op
use Rattle.pgql_ast.specs.declared.expr.Aggregate.{Aggregate}
use Rattle.pgql_ast.specs.declared.expr.Aggregate.TheVariants as aggr
use Rattle.pgql_grammar.specs.contracts.piece.Sym.{the_type}
use Rattle.pgql_grammar.specs.declared.piece.Sym.{Sym}
use Rattle.pgql_grammar.specs.declared.piece.Sym.TheVariants as s

-- one sort and no other
unfoldable pub is : Sym → Sym → Bool
is = sameb the_type

-- = <> < <= > >=
abbrev pub is_comparison : Sym → Bool
is_comparison s.Equal = true
is_comparison s.Unequal = true
is_comparison s.Less = true
is_comparison s.AtMost = true
is_comparison s.Greater = true
is_comparison s.AtLeast = true
is_comparison _ = false

-- + -
abbrev pub is_addition : Sym → Bool
is_addition s.Plus = true
is_addition s.Minus = true
is_addition _ = false

-- * / %
abbrev pub is_multiplication : Sym → Bool
is_multiplication s.Star = true
is_multiplication s.Slash = true
is_multiplication s.Percent = true
is_multiplication _ = false

-- the operator that a sign between two operands writes
abbrev pub op_of : Sym → Op
op_of s.Plus = op.Add
op_of s.Minus = op.Subtract
op_of s.Star = op.Multiply
op_of s.Slash = op.Divide
op_of s.Percent = op.Remainder
op_of s.Unequal = op.Unequal
op_of s.Less = op.Less
op_of s.AtMost = op.AtMost
op_of s.Greater = op.Greater
op_of s.AtLeast = op.AtLeast
op_of _ = op.Equal

-- a text, be it a date or not
abbrev pub is_text : Sym → Bool
is_text s.Chars = true
is_text s.Day = true
is_text _ = false

-- TRUE FALSE
abbrev pub is_truth : Sym → Bool
is_truth s.True = true
is_truth s.False = true
is_truth _ = false

-- COUNT MIN MAX SUM
abbrev pub is_aggregate : Sym → Bool
is_aggregate s.Count = true
is_aggregate s.Min = true
is_aggregate s.Max = true
is_aggregate s.Sum = true
is_aggregate _ = false

-- the aggregate that a keyword names
abbrev pub aggregate_of : Sym → Aggregate
aggregate_of s.Min = aggr.Min
aggregate_of s.Max = aggr.Max
aggregate_of s.Sum = aggr.Sum
aggregate_of _ = aggr.Count

-- a word of the language
abbrev pub is_keyword : Sym → Bool
is_keyword s.Select = true
is_keyword s.Distinct = true
is_keyword s.From = true
is_keyword s.Match = true
is_keyword s.On = true
is_keyword s.Where = true
is_keyword s.Group = true
is_keyword s.By = true
is_keyword s.Having = true
is_keyword s.Order = true
is_keyword s.Asc = true
is_keyword s.Desc = true
is_keyword s.Limit = true
is_keyword s.Offset = true
is_keyword s.As = true
is_keyword s.And = true
is_keyword s.Or = true
is_keyword s.Not = true
is_keyword s.Is = true
is_keyword s.Null = true
is_keyword s.True = true
is_keyword s.False = true
is_keyword s.In = true
is_keyword s.Date = true
is_keyword s.Count = true
is_keyword s.Min = true
is_keyword s.Max = true
is_keyword s.Sum = true
is_keyword _ = false

-- a name or a keyword
unfoldable pub is_label : Sym → Bool
is_label k = is s.Name k || is_keyword k

-- the signs that an edge begins with: - <
abbrev pub is_edge : Sym → Bool
is_edge s.Minus = true
is_edge s.Less = true
is_edge _ = false
