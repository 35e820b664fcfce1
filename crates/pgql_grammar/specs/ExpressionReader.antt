-- The reader of expressions: each rule with the choice that the next piece makes.
use Rattle.std.specs.Prelude.{ℕ, zero, suc, Bool, true, false, if◌then◌else◌, List, [], map}
use Rattle.std.specs.Char.{to_ascii_lowercase}
use Rattle.pgql_ast.specs.declared.expr.Expr.{Expr}
use Rattle.pgql_ast.specs.declared.expr.Node.TheVariants as n
use Rattle.pgql_ast.specs.declared.expr.Op.{Op}
use Rattle.pgql_grammar.specs.declared.piece.Piece.{Piece}
use Rattle.pgql_grammar.specs.declared.piece.Level.{Level}
use Rattle.pgql_grammar.specs.declared.piece.Level.TheVariants.{Whole, Negation, Minus}
use Rattle.pgql_grammar.specs.declared.piece.Sym.{Sym}
use Rattle.pgql_grammar.specs.declared.piece.Sym.TheVariants as s
use Rattle.pgql_grammar.specs.Reading.{Parser, pure, ◌>>=◌, ◌>>◌, choose, expect, all, maybe, separated}
use Rattle.pgql_grammar.specs.Sorts.{is, is_comparison, is_addition, is_multiplication, is_text, is_truth, is_aggregate, is_label, op_of, aggregate_of}
use Rattle.pgql_grammar.specs.Expression.{at, place_of, chain, row}

-- what a literal begins with
abbrev pub is_literal : Sym → Bool
is_literal s.Number = true
is_literal s.Chars = true
is_literal s.Day = true
is_literal s.True = true
is_literal s.False = true
is_literal s.Null = true
is_literal s.Date = true
is_literal _ = false

-- NOT IN or IN
abbrev pub is_member : Sym → Bool
is_member s.Not = true
is_member s.In = true
is_member _ = false

unfoldable pub number : Parser Expr
number = do
  x ← expect (is s.Number)
  pure (at x.place (n.Number x.number))

unfoldable pub text : Parser Expr
text = do
  x ← expect is_text
  pure (at x.place (n.Chars x.text))

unfoldable pub truth : Parser Expr
truth = do
  x ← expect is_truth
  pure (at x.place (n.Truth (is s.True x.sym)))

unfoldable pub null : Parser Expr
null = do
  x ← expect (is s.Null)
  pure (at x.place n.Null)

unfoldable pub date : Parser Expr
date = do
  x ← expect (is s.Date)
  day ← expect (is s.Day)
  pure (at x.place (n.Date day.day))

unfoldable pub literal : Parser Expr
literal = choose (is s.Number) number (choose is_text text (choose is_truth truth (choose (is s.Null) null date)))

unfoldable pub property : Piece → Parser Expr
property x = do
  expect (is s.Dot)
  label ← expect is_label
  pure (at x.place (n.Prop x.text label.text))

unfoldable pub count_all : Piece → Parser Expr
count_all x = do
  expect (is s.Star)
  expect (is s.Close)
  pure (at x.place n.CountAll)

unfoldable pub null_test : Expr → Parser Expr
null_test left = do
  expect (is s.Is)
  negative ← maybe s.Not
  expect (is s.Null)
  pure (at (place_of left) (n.IsNull negative left))

-- `inner` reads the expressions inside this one
module _ (inner : Level → Parser Expr) where
  unfoldable pub comma_list : Parser (List Expr)
  comma_list = separated s.Comma (inner Whole)

  unfoldable pub arguments : Parser (List Expr)
  arguments = choose (is s.Close) (pure []) comma_list

  unfoldable pub call : Piece → Parser Expr
  call x = do
    expect (is s.Open)
    found ← arguments
    expect (is s.Close)
    pure (at x.place (n.Function (map to_ascii_lowercase x.text) found))

  unfoldable pub after_name : Piece → Parser Expr
  after_name x = choose (is s.Dot) (property x) (choose (is s.Open) (call x) (pure (at x.place (n.Name x.text))))

  unfoldable pub named : Parser Expr
  named = do
    x ← expect (is s.Name)
    after_name x

  unfoldable pub values_of : Piece → Parser Expr
  values_of x = do
    distinct ← maybe s.Distinct
    e ← inner Whole
    expect (is s.Close)
    pure (at x.place (n.Aggregate (aggregate_of x.sym) distinct e))

  unfoldable pub after_aggregate : Piece → Parser Expr
  after_aggregate x = if is s.Count x.sym then choose (is s.Star) (count_all x) (values_of x) else values_of x

  unfoldable pub aggregate : Parser Expr
  aggregate = do
    x ← expect is_aggregate
    expect (is s.Open)
    after_aggregate x

  unfoldable pub bracketed : Parser Expr
  bracketed = do
    expect (is s.Open)
    e ← inner Whole
    expect (is s.Close)
    pure e

  unfoldable pub prim : Parser Expr
  prim = choose is_literal literal (choose (is s.Name) named (choose is_aggregate aggregate bracketed))

  unfoldable pub negated : Parser Expr
  negated = do
    x ← expect (is s.Minus)
    e ← inner Minus
    pure (at x.place (n.Negate e))

  unfoldable pub minus : Parser Expr
  minus = choose (is s.Minus) negated prim

  unfoldable pub factor : Piece → Parser (Op × Expr)
  factor x = do
    e ← minus
    pure (op_of x.sym, e)

  unfoldable pub product : Parser Expr
  product = do
    first ← minus
    more ← all is_multiplication factor
    pure (chain n.Product first more)

  unfoldable pub term : Piece → Parser (Op × Expr)
  term x = do
    e ← product
    pure (op_of x.sym, e)

  unfoldable pub sum : Parser Expr
  sum = do
    first ← product
    more ← all is_addition term
    pure (chain n.Sum first more)

  unfoldable pub comparison : Expr → Parser Expr
  comparison left = do
    x ← expect is_comparison
    right ← sum
    pure (at (place_of left) (n.Compare (op_of x.sym) left right))

  unfoldable pub member : Expr → Parser Expr
  member left = do
    negative ← maybe s.Not
    expect (is s.In)
    expect (is s.Open)
    found ← comma_list
    expect (is s.Close)
    pure (at (place_of left) (n.Member negative left found))

  unfoldable pub tested : Expr → Parser Expr
  tested left = choose is_comparison (comparison left) (choose (is s.Is) (null_test left) (choose is_member (member left) (pure left)))

  unfoldable pub sum_test : Parser Expr
  sum_test = do
    left ← sum
    tested left

  unfoldable pub refused : Parser Expr
  refused = do
    x ← expect (is s.Not)
    e ← inner Negation
    pure (at x.place (n.Not e))

  unfoldable pub negation : Parser Expr
  negation = choose (is s.Not) refused sum_test

  unfoldable pub conjunction : Parser Expr
  conjunction = do
    first ← negation
    more ← all (is s.And) (λ _. negation)
    pure (row n.And first more)

  unfoldable pub whole : Parser Expr
  whole = do
    first ← conjunction
    more ← all (is s.Or) (λ _. conjunction)
    pure (row n.Or first more)

  abbrev pub at_level : Level → Parser Expr
  at_level Whole = whole
  at_level Negation = negation
  at_level Minus = minus

-- the expressions that nest at most so deep
unfoldable pub nested : ℕ → Level → Parser Expr
nested zero _ = number
nested (suc depth) level = at_level (nested depth) level
