-- What whoever reads the tree of a query may count on, besides its types.
use Rattle.std.specs.Prelude.{◌≡◌, ℕ, ℤ, pos, int_lt, Bool, true, false, not, ◌&&◌, List, [], ◌∷◌, map, IfSome}
use Rattle.std.specs.Char.{to_ascii_lowercase}
use Rattle.std.specs.List.{AllByRecursion}
use Rattle.std.specs.Str.{bytes_eq}
use Rattle.column_types.specs.Date.{is_day}
use Rattle.pgql_ast.specs.declared.expr.Op.{Op}
use Rattle.pgql_ast.specs.declared.expr.Op.TheVariants as op
use Rattle.pgql_ast.specs.declared.expr.Expr.{Expr, fold-Expr}
use Rattle.pgql_ast.specs.declared.expr.Node.{Node, fold-Node}
use Rattle.pgql_ast.specs.declared.expr.Node.TheOpen.{Node-F, Expr-F}
use Rattle.pgql_ast.specs.declared.query.Query.{Query}
use Rattle.pgql_ast.specs.declared.query.Item.{Item}
use Rattle.pgql_ast.specs.declared.query.Key.{Key}

-- ---- operators

-- * / %
abbrev pub multiplies : Op → Bool
multiplies op.Add = false
multiplies op.Subtract = false
multiplies op.Multiply = true
multiplies op.Divide = true
multiplies op.Remainder = true
multiplies op.Equal = false
multiplies op.Unequal = false
multiplies op.Less = false
multiplies op.AtMost = false
multiplies op.Greater = false
multiplies op.AtLeast = false

-- + -
abbrev pub adds : Op → Bool
adds op.Add = true
adds op.Subtract = true
adds op.Multiply = false
adds op.Divide = false
adds op.Remainder = false
adds op.Equal = false
adds op.Unequal = false
adds op.Less = false
adds op.AtMost = false
adds op.Greater = false
adds op.AtLeast = false

-- = <> < <= > >=
abbrev pub compares : Op → Bool
compares op.Add = false
compares op.Subtract = false
compares op.Multiply = false
compares op.Divide = false
compares op.Remainder = false
compares op.Equal = true
compares op.Unequal = true
compares op.Less = true
compares op.AtMost = true
compares op.Greater = true
compares op.AtLeast = true

-- ---- numbers, names and lists

-- from 0 to 9223372036854775807
abbrev pub is_amount : ℤ → Bool
is_amount n = not (int_lt n (pos 0)) && not (int_lt (pos 9223372036854775807) n)

-- without a capital letter
abbrev pub is_small : List ℕ → Bool
is_small name = bytes_eq (map to_ascii_lowercase name) name

-- at least one
abbrev pub some : {A : Type 0} → List A → Bool
some [] = false
some (x ∷ more) = true

-- at least two
abbrev pub several : {A : Type 0} → List A → Bool
several [] = false
several (x ∷ more) = some more

abbrev pub all : List Bool → Bool
all [] = true
all (b ∷ more) = b && all more

-- each operator is one of these, and each operand is well formed
abbrev pub all_operands : (Op → Bool) → List (Op × Bool) → Bool
all_operands these [] = true
all_operands these (x ∷ more) = these x.0 && x.1 && all_operands these more

-- ---- expressions

-- The node, where for each expression in it stands whether that is well formed.
abbrev pub node_fits : Node-F Bool Bool → Bool
node_fits (Node-F.Number n) = is_amount n
node_fits (Node-F.Chars text) = true
node_fits (Node-F.Truth value) = true
node_fits Node-F.Null = true
node_fits (Node-F.Date day) = is_day day
node_fits (Node-F.Name name) = true
node_fits (Node-F.Prop name prop) = true
node_fits (Node-F.Function name arguments) = is_small name && all arguments
node_fits Node-F.CountAll = true
node_fits (Node-F.Aggregate which distinct argument) = argument
node_fits (Node-F.Negate operand) = operand
node_fits (Node-F.Not operand) = operand
node_fits (Node-F.Product first more) = first && some more && all_operands multiplies more
node_fits (Node-F.Sum first more) = first && some more && all_operands adds more
node_fits (Node-F.Compare sign left right) = compares sign && left && right
node_fits (Node-F.IsNull negative operand) = operand
node_fits (Node-F.Member negative operand list) = operand && some list && all list
node_fits (Node-F.And operands) = several operands && all operands
node_fits (Node-F.Or operands) = several operands && all operands

-- The place is not read.
abbrev pub expr_fits : Expr-F Bool Bool → Bool
expr_fits e = e.node

-- whether the expression and each expression in it are well formed
abbrev pub well_formed : Expr → Bool
well_formed = fold-Expr Bool Bool node_fits expr_fits

-- the same of a node
abbrev pub well_formed_node : Node → Bool
well_formed_node = fold-Node Bool Bool node_fits expr_fits

-- In words: a Number lies from 0 to 9223372036854775807 and a Date from 0000-01-01 to 9999-12-31; each operator stands in the
-- node of its own rule; a Product or a Sum has an operator, an And or an Or two operands, and the list of a Member an
-- expression; the name of a Function has no capital letter.
abbrev pub IsWellFormedExpr : Expr → Type 0
IsWellFormedExpr e = well_formed e ≡ true

-- ---- queries

-- An item and a match at least; each expression well formed; LIMIT and OFFSET from 0 to 9223372036854775807.
pub record IsWellFormed (query : Query) : Type 0 where
  pub selects : some query.items ≡ true
  pub items : AllByRecursion (λ (item : Item). IsWellFormedExpr item.value) query.items
  pub matches : some query.matches ≡ true
  pub condition : IfSome query.condition IsWellFormedExpr
  pub groups : AllByRecursion IsWellFormedExpr query.groups
  pub having : IfSome query.having IsWellFormedExpr
  pub keys : AllByRecursion (λ (key : Key). IsWellFormedExpr key.value) query.keys
  pub limit : IfSome query.limit (λ n. is_amount n ≡ true)
  pub offset : IfSome query.offset (λ n. is_amount n ≡ true)
