-- The grammar of queries.
use Rattle.std.specs.Prelude.{ℕ, ℤ, Bool, false, List, [], Option, Some, None}
use Rattle.pgql_ast.specs.declared.expr.Expr.{Expr}
use Rattle.pgql_ast.specs.declared.query.Query.{Query}
use Rattle.pgql_ast.specs.declared.query.Item.{Item}
use Rattle.pgql_ast.specs.declared.query.Key.{Key}
use Rattle.pgql_ast.specs.declared.pattern.Match.{Match}
use Rattle.pgql_ast.specs.declared.pattern.PathStep.{PathStep}
use Rattle.pgql_ast.specs.declared.pattern.Element.{Element}
use Rattle.pgql_ast.specs.declared.pattern.Label.{Label}
use Rattle.pgql_ast.specs.declared.pattern.Way.{Way}
use Rattle.pgql_ast.specs.declared.pattern.Way.TheVariants.{Right, Left, Either}
use Rattle.pgql_grammar.specs.declared.piece.Piece.{Piece}
use Rattle.pgql_grammar.specs.declared.piece.Level.TheVariants.{Whole}
use Rattle.pgql_grammar.specs.declared.piece.Sym.TheVariants as s
use Rattle.pgql_grammar.specs.Language.{Lang, one, pure, ◌>>=◌, ◌>>◌, ◌or◌, many, maybe, optional, separated}
use Rattle.pgql_grammar.specs.Sorts.{is, is_label}
use Rattle.pgql_grammar.specs.Expression.{nested}

-- ---- names

abbrev pub Text : Type 0
Text = List ℕ

unfoldable pub name : Lang Text
name = do
  x ← one (is s.Name)
  pure x.text

-- a name with its place
unfoldable pub graph_name : Lang Label
graph_name = do
  x ← one (is s.Name)
  pure (record { name = x.text; place = x.place })

-- a name or a keyword, with its place
unfoldable pub label : Lang Label
label = do
  x ← one is_label
  pure (record { name = x.text; place = x.place })

-- ---- patterns

-- [":" label {"|" label}]
unfoldable pub labels : Lang (List Label)
labels = (do one (is s.Colon); found ← separated s.Bar label; pure found) or pure []

-- [name]
unfoldable pub variable : Lang (Option Text)
variable = (do x ← one (is s.Name); pure (Some x.text)) or pure None

-- [name] [":" label {"|" label}], of an element that begins with the piece x
unfoldable pub element : Piece → Lang Element
element x = do
  bound ← variable
  found ← labels
  pure (record { place = x.place; name = bound; labels = found })

-- "(" [name] [":" label {"|" label}] ")"
unfoldable pub vertex : Lang Element
vertex = do
  x ← one (is s.Open)
  e ← element x
  one (is s.Close)
  pure e

-- "[" [name] [":" label {"|" label}] "]", of an edge that begins with the piece x
unfoldable pub inner : Piece → Lang Element
inner x = do
  one (is s.OpenSquare)
  e ← element x
  one (is s.CloseSquare)
  pure e

-- an edge without a name and without labels
abbrev pub nameless : Piece → Element
nameless x = record { place = x.place; name = None; labels = [] }

-- "-" inner "-" ">" | "<" "-" inner "-" | "-" inner "-" | "-" ">" | "<" "-" | "-"
unfoldable pub edge : Lang (Way × Element)
edge =
    (do x ← one (is s.Minus); e ← inner x; one (is s.Minus); one (is s.Greater); pure (Right, e))
    or (do x ← one (is s.Less); one (is s.Minus); e ← inner x; one (is s.Minus); pure (Left, e))
    or (do x ← one (is s.Minus); e ← inner x; one (is s.Minus); pure (Either, e))
    or (do x ← one (is s.Minus); one (is s.Greater); pure (Right, nameless x))
    or (do x ← one (is s.Less); one (is s.Minus); pure (Left, nameless x))
    or (do x ← one (is s.Minus); pure (Either, nameless x))

-- edge vertex
unfoldable pub step : Lang PathStep
step = do
  e ← edge
  v ← vertex
  pure (record { way = e.0; edge = e.1; vertex = v })

-- MATCH vertex { edge vertex } [ON name]
unfoldable pub pattern : Lang Match
pattern = do
  one (is s.Match)
  first ← vertex
  steps ← many step
  graph ← optional s.On graph_name
  pure (record { first = first; steps = steps; graph = graph })

-- ---- bounds

unfoldable pub amount : Lang ℤ
amount = do
  x ← one (is s.Number)
  pure x.number

-- how many rows are kept, and how many are dropped before
abbrev pub Cut : Type 0
Cut = Option ℤ × Option ℤ

-- LIMIT number [OFFSET number] | OFFSET number [LIMIT number], or nothing
unfoldable pub cut : Lang Cut
cut =
    (do one (is s.Limit); most ← amount; skipped ← optional s.Offset amount; pure (Some most, skipped))
    or (do one (is s.Offset); skipped ← amount; most ← optional s.Limit amount; pure (most, Some skipped))
    or pure (None, None)

-- ---- queries

-- [ASC | DESC]: whether it descends
unfoldable pub direction : Lang Bool
direction = (one (is s.Asc) >> pure false) or maybe s.Desc

-- `expr` are the expressions
module _ (expr : Lang Expr) where
  -- expr [AS name]
  unfoldable pub item : Lang Item
  item = do
    value ← expr
    alias ← optional s.As name
    pure (record { value = value; alias = alias })

  -- expr [ASC | DESC]
  unfoldable pub key : Lang Key
  key = do
    value ← expr
    descending ← direction
    pure (record { value = value; descending = descending })

  -- [GROUP BY expr {"," expr}]
  unfoldable pub groups : Lang (List Expr)
  groups = (do one (is s.Group); one (is s.By); found ← separated s.Comma expr; pure found) or pure []

  -- [ORDER BY key {"," key}]
  unfoldable pub keys : Lang (List Key)
  keys = (do one (is s.Order); one (is s.By); found ← separated s.Comma key; pure found) or pure []

  unfoldable pub query : Lang Query
  query = do
    one (is s.Select)
    distinct ← maybe s.Distinct
    items ← separated s.Comma item
    one (is s.From)
    matches ← separated s.Comma pattern
    condition ← optional s.Where expr
    groups ← groups
    having ← optional s.Having expr
    keys ← keys
    bounds ← cut
    pure (record {
      distinct = distinct;
      items = items;
      matches = matches;
      condition = condition;
      groups = groups;
      having = having;
      keys = keys;
      limit = bounds.0;
      offset = bounds.1;
    })

-- a query whose expressions nest at most so deep
abbrev pub query_to : ℕ → Lang Query
query_to depth = query (nested depth Whole)

-- a query, however deep its expressions nest
abbrev pub any_query : Lang Query
any_query ts q = (depth : ℕ) × query_to depth ts q
