-- The grammar of expressions.
use Rattle.std.specs.Prelude.{ℕ, zero, suc, List, [], ◌∷◌, map}
use Rattle.std.specs.Char.{to_ascii_lowercase}
use Rattle.pgql_ast.specs.declared.expr.Expr.{Expr, out-Expr, roll-Expr}
use Rattle.pgql_ast.specs.declared.expr.Node.{Node}
use Rattle.pgql_ast.specs.declared.expr.Node.TheVariants as n
use Rattle.pgql_ast.specs.declared.expr.Op.{Op}
use Rattle.pgql_grammar.specs.declared.piece.Level.{Level}
use Rattle.pgql_grammar.specs.declared.piece.Level.TheVariants.{Whole, Negation, Minus}
use Rattle.pgql_grammar.specs.declared.piece.Sym.TheVariants as s
use Rattle.pgql_grammar.specs.Language.{Lang, one, pure, ◌>>=◌, ◌>>◌, ◌or◌, many, maybe, separated}
use Rattle.pgql_grammar.specs.Sorts.{is, is_comparison, is_addition, is_multiplication, is_text, is_truth, is_aggregate, is_label, op_of, aggregate_of}

-- ---- trees

abbrev pub at : ℕ → Node → Expr
at place node = roll-Expr (record { place = place; node = node })

abbrev pub place_of : Expr → ℕ
place_of e = (out-Expr e).place

-- a chain of one operand is that operand, and another chain stands where its first operand does
abbrev pub chain : (Expr → List (Op × Expr) → Node) → Expr → List (Op × Expr) → Expr
chain node first [] = first
chain node first (x ∷ more) = at (place_of first) (node first (x ∷ more))

abbrev pub row : (List Expr → Node) → Expr → List Expr → Expr
row node first [] = first
row node first (x ∷ more) = at (place_of first) (node (first ∷ x ∷ more))

-- ---- prim

-- number | text | TRUE | FALSE | NULL | DATE text
unfoldable pub number : Lang Expr
number = do
  x ← one (is s.Number)
  pure (at x.place (n.Number x.number))

unfoldable pub text : Lang Expr
text = do
  x ← one is_text
  pure (at x.place (n.Chars x.text))

unfoldable pub truth : Lang Expr
truth = do
  x ← one is_truth
  pure (at x.place (n.Truth (is s.True x.sym)))

unfoldable pub null : Lang Expr
null = do
  x ← one (is s.Null)
  pure (at x.place n.Null)

unfoldable pub date : Lang Expr
date = do
  x ← one (is s.Date)
  day ← one (is s.Day)
  pure (at x.place (n.Date day.day))

unfoldable pub literal : Lang Expr
literal = number or text or truth or null or date

-- name
unfoldable pub name : Lang Expr
name = do
  x ← one (is s.Name)
  pure (at x.place (n.Name x.text))

-- name "." label
unfoldable pub property : Lang Expr
property = do
  x ← one (is s.Name)
  one (is s.Dot)
  label ← one is_label
  pure (at x.place (n.Prop x.text label.text))

-- COUNT "(" "*" ")"
unfoldable pub count_all : Lang Expr
count_all = do
  x ← one (is s.Count)
  one (is s.Open)
  one (is s.Star)
  one (is s.Close)
  pure (at x.place n.CountAll)

-- IS [NOT] NULL
unfoldable pub null_test : Expr → Lang Expr
null_test left = do
  one (is s.Is)
  negative ← maybe s.Not
  one (is s.Null)
  pure (at (place_of left) (n.IsNull negative left))

-- `inner` are the expressions inside this one
module _ (inner : Level → Lang Expr) where
  -- expr {"," expr}
  unfoldable pub comma_list : Lang (List Expr)
  comma_list = separated s.Comma (inner Whole)

  -- [expr {"," expr}]
  unfoldable pub arguments : Lang (List Expr)
  arguments = pure [] or comma_list

  -- name "(" [expr {"," expr}] ")", the name in small letters
  unfoldable pub function : Lang Expr
  function = do
    x ← one (is s.Name)
    one (is s.Open)
    found ← arguments
    one (is s.Close)
    pure (at x.place (n.Function (map to_ascii_lowercase x.text) found))

  -- (COUNT | MIN | MAX | SUM) "(" [DISTINCT] expr ")"
  unfoldable pub aggregate_of_values : Lang Expr
  aggregate_of_values = do
    x ← one is_aggregate
    one (is s.Open)
    distinct ← maybe s.Distinct
    e ← inner Whole
    one (is s.Close)
    pure (at x.place (n.Aggregate (aggregate_of x.sym) distinct e))

  -- "(" expr ")"
  unfoldable pub bracketed : Lang Expr
  bracketed = do
    one (is s.Open)
    e ← inner Whole
    one (is s.Close)
    pure e

  unfoldable pub prim : Lang Expr
  prim = literal or (name or property or function) or (count_all or aggregate_of_values) or bracketed

  -- ---- operators

  -- "-" minus | prim
  unfoldable pub minus : Lang Expr
  minus = (do x ← one (is s.Minus); e ← inner Minus; pure (at x.place (n.Negate e))) or prim

  -- minus {("*" | "/" | "%") minus}
  unfoldable pub product : Lang Expr
  product = do
    first ← minus
    more ← many (one is_multiplication >>= (λ x. do e ← minus; pure (op_of x.sym, e)))
    pure (chain n.Product first more)

  -- prod {("+" | "-") prod}
  unfoldable pub sum : Lang Expr
  sum = do
    first ← product
    more ← many (one is_addition >>= (λ x. do e ← product; pure (op_of x.sym, e)))
    pure (chain n.Sum first more)

  -- op sum
  unfoldable pub comparison : Expr → Lang Expr
  comparison left = do
    x ← one is_comparison
    right ← sum
    pure (at (place_of left) (n.Compare (op_of x.sym) left right))

  -- [NOT] IN "(" expr {"," expr} ")"
  unfoldable pub member : Expr → Lang Expr
  member left = do
    negative ← maybe s.Not
    one (is s.In)
    one (is s.Open)
    found ← comma_list
    one (is s.Close)
    pure (at (place_of left) (n.Member negative left found))

  -- sum [ op sum | IS [NOT] NULL | [NOT] IN "(" expr {"," expr} ")" ]
  unfoldable pub test : Lang Expr
  test = do
    left ← sum
    (pure left or comparison left or null_test left or member left)

  -- NOT not | test
  unfoldable pub negation : Lang Expr
  negation = (do x ← one (is s.Not); e ← inner Negation; pure (at x.place (n.Not e))) or test

  -- not {AND not}
  unfoldable pub conjunction : Lang Expr
  conjunction = do
    first ← negation
    more ← many (one (is s.And) >> negation)
    pure (row n.And first more)

  -- and {OR and}
  unfoldable pub whole : Lang Expr
  whole = do
    first ← conjunction
    more ← many (one (is s.Or) >> conjunction)
    pure (row n.Or first more)

  abbrev pub at_level : Level → Lang Expr
  at_level Whole = whole
  at_level Negation = negation
  at_level Minus = minus

-- the expressions that nest at most so deep
unfoldable pub nested : ℕ → Level → Lang Expr
nested zero _ = number
nested (suc depth) level = at_level (nested depth) level
