-- The reader of queries: each rule with the choice that the next piece makes.
use Rattle.std.specs.Prelude.{ℕ, ℤ, Bool, false, if◌then◌else◌, List, [], Option, Some, None}
use Rattle.pgql_ast.specs.declared.expr.Expr.{Expr}
use Rattle.pgql_ast.specs.declared.query.Query.{Query}
use Rattle.pgql_ast.specs.declared.query.Item.{Item}
use Rattle.pgql_ast.specs.declared.query.Key.{Key}
use Rattle.pgql_ast.specs.declared.pattern.Match.{Match}
use Rattle.pgql_ast.specs.declared.pattern.PathStep.{PathStep}
use Rattle.pgql_ast.specs.declared.pattern.Element.{Element}
use Rattle.pgql_ast.specs.declared.pattern.Label.{Label}
use Rattle.pgql_ast.specs.declared.pattern.Way.{Way}
use Rattle.pgql_ast.specs.declared.pattern.Way.TheVariants.{Right, Left, Either}
use Rattle.pgql_grammar.specs.declared.piece.Piece.{Piece}
use Rattle.pgql_grammar.specs.declared.piece.Level.TheVariants.{Whole}
use Rattle.pgql_grammar.specs.declared.piece.Sym.TheVariants as s
use Rattle.pgql_grammar.specs.Reading.{Parser, pure, ◌>>=◌, ◌>>◌, choose, expect, all, maybe, optional, separated}
use Rattle.pgql_grammar.specs.Sorts.{is, is_label, is_edge}
use Rattle.pgql_grammar.specs.Clauses.{Text, Cut, nameless}
use Rattle.pgql_grammar.specs.ExpressionReader.{nested}

unfoldable pub name : Parser Text
name = do
  x ← expect (is s.Name)
  pure x.text

unfoldable pub graph_name : Parser Label
graph_name = do
  x ← expect (is s.Name)
  pure (record { name = x.text; place = x.place })

unfoldable pub label : Parser Label
label = do
  x ← expect is_label
  pure (record { name = x.text; place = x.place })

unfoldable pub some_labels : Parser (List Label)
some_labels = do
  expect (is s.Colon)
  found ← separated s.Bar label
  pure found

unfoldable pub labels : Parser (List Label)
labels = choose (is s.Colon) some_labels (pure [])

unfoldable pub some_name : Parser (Option Text)
some_name = do
  x ← expect (is s.Name)
  pure (Some x.text)

unfoldable pub variable : Parser (Option Text)
variable = choose (is s.Name) some_name (pure None)

unfoldable pub element : Piece → Parser Element
element x = do
  bound ← variable
  found ← labels
  pure (record { place = x.place; name = bound; labels = found })

unfoldable pub vertex : Parser Element
vertex = do
  x ← expect (is s.Open)
  e ← element x
  expect (is s.Close)
  pure e

unfoldable pub inner : Piece → Parser Element
inner x = do
  expect (is s.OpenSquare)
  e ← element x
  expect (is s.CloseSquare)
  pure e

-- inner "-"
unfoldable pub described : Piece → Parser Element
described x = do
  e ← inner x
  expect (is s.Minus)
  pure e

-- what stands between the two ends of an edge
unfoldable pub middle : Piece → Parser Element
middle x = choose (is s.OpenSquare) (described x) (pure (nameless x))

unfoldable pub pointed : Parser Way
pointed = expect (is s.Greater) >> pure Right

unfoldable pub arrow : Parser Way
arrow = choose (is s.Greater) pointed (pure Either)

-- an edge behind its first piece, a dash
unfoldable pub forward : Piece → Parser (Way × Element)
forward x = do
  e ← middle x
  way ← arrow
  pure (way, e)

-- an edge behind its first piece, `<`
unfoldable pub backward : Piece → Parser (Way × Element)
backward x = do
  expect (is s.Minus)
  e ← middle x
  pure (Left, e)

unfoldable pub behind : Piece → Parser (Way × Element)
behind x = if is s.Minus x.sym then forward x else backward x

unfoldable pub step : Piece → Parser PathStep
step x = do
  e ← behind x
  v ← vertex
  pure (record { way = e.0; edge = e.1; vertex = v })

unfoldable pub steps : Parser (List PathStep)
steps = all is_edge step

unfoldable pub pattern : Parser Match
pattern = do
  expect (is s.Match)
  first ← vertex
  found ← steps
  graph ← optional s.On graph_name
  pure (record { first = first; steps = found; graph = graph })

unfoldable pub amount : Parser ℤ
amount = do
  x ← expect (is s.Number)
  pure x.number

unfoldable pub limit_first : Parser Cut
limit_first = do
  expect (is s.Limit)
  most ← amount
  skipped ← optional s.Offset amount
  pure (Some most, skipped)

unfoldable pub offset_first : Parser Cut
offset_first = do
  expect (is s.Offset)
  skipped ← amount
  most ← optional s.Limit amount
  pure (most, Some skipped)

unfoldable pub cut : Parser Cut
cut = choose (is s.Limit) limit_first (choose (is s.Offset) offset_first (pure (None, None)))

unfoldable pub direction : Parser Bool
direction = choose (is s.Asc) (expect (is s.Asc) >> pure false) (maybe s.Desc)

-- `expr` reads the expressions
module _ (expr : Parser Expr) where
  unfoldable pub item : Parser Item
  item = do
    value ← expr
    alias ← optional s.As name
    pure (record { value = value; alias = alias })

  unfoldable pub key : Parser Key
  key = do
    value ← expr
    descending ← direction
    pure (record { value = value; descending = descending })

  unfoldable pub some_groups : Parser (List Expr)
  some_groups = do
    expect (is s.Group)
    expect (is s.By)
    found ← separated s.Comma expr
    pure found

  unfoldable pub groups : Parser (List Expr)
  groups = choose (is s.Group) some_groups (pure [])

  unfoldable pub some_keys : Parser (List Key)
  some_keys = do
    expect (is s.Order)
    expect (is s.By)
    found ← separated s.Comma key
    pure found

  unfoldable pub keys : Parser (List Key)
  keys = choose (is s.Order) some_keys (pure [])

  unfoldable pub query : Parser Query
  query = do
    expect (is s.Select)
    distinct ← maybe s.Distinct
    items ← separated s.Comma item
    expect (is s.From)
    matches ← separated s.Comma pattern
    condition ← optional s.Where expr
    groups ← groups
    having ← optional s.Having expr
    keys ← keys
    bounds ← cut
    pure (record {
      distinct = distinct;
      items = items;
      matches = matches;
      condition = condition;
      groups = groups;
      having = having;
      keys = keys;
      limit = bounds.0;
      offset = bounds.1;
    })

-- a query whose expressions nest at most so deep
abbrev pub query_to : ℕ → Parser Query
query_to depth = query (nested depth Whole)
