-- Which trees are well formed, node by node.
use Rattle.std.proofs.Common.{◌≡◌, ℕ, Bool, true, false, cond, ◌&&◌, nat_lt, List, [], ◌∷◌, map, ℤ, ◌+◌, refl, sym, ap, ◌∙◌, arith}
use Rattle.std.proofs.lemmas.Bool.{and_from}
use Rattle.std.proofs.lemmas.Bool.Decides.{nat_tests}
use Rattle.std.proofs.lemmas.Slice.Eq.{bytes_eq-Decides}
use Rattle.std.specs.Char.{to_ascii_lowercase}
use Rattle.std.specs.List.{AllByRecursion}
use Rattle.column_types.specs.Date.{is_day}
use Rattle.pgql_ast.specs.declared.expr.Aggregate.{Aggregate}
use Rattle.pgql_ast.specs.declared.expr.Op.{Op}
use Rattle.pgql_ast.specs.declared.expr.Expr.{Expr}
use Rattle.pgql_ast.specs.declared.expr.Node.{Node}
use Rattle.pgql_ast.specs.declared.expr.Node.TheVariants as n
use Rattle.pgql_ast.specs.declared.expr.Node.TheOpen.{Node-F}
use Rattle.pgql_ast.specs.declared.expr.Node.TheFolds.{fold-roll-Node, fold-roll-Expr}
use Rattle.pgql_grammar.specs.Expression.{at, place_of, chain, row}
use Rattle.pgql_forms.specs.WellFormed.{multiplies, adds, compares, is_amount, is_small, some, all, all_operands, node_fits, expr_fits, well_formed, well_formed_node, IsWellFormedExpr}

-- ---- lists

-- an operator that is one of these, and its right operand
abbrev pub IsOperand : (Op → Bool) → Op × Expr → Type 0
IsOperand these p = (these p.0 ≡ true) × IsWellFormedExpr p.1

abbrev pub AllExprs : List Expr → Type 0
AllExprs xs = AllByRecursion IsWellFormedExpr xs

abbrev pub AllOperands : (Op → Bool) → List (Op × Expr) → Type 0
AllOperands these xs = AllByRecursion (IsOperand these) xs

all_fit : (xs : List Expr) → AllExprs xs → all (map well_formed xs) ≡ true
all_fit [] h = refl
all_fit (x ∷ xs) h = and_from (well_formed x) (all (map well_formed xs)) h.0 (all_fit xs h.1)

abbrev seen : List (Op × Expr) → List (Op × Bool)
seen = map (λ p. (p.0, well_formed p.1))

operands_fit : (these : Op → Bool) (xs : List (Op × Expr)) → AllOperands these xs → all_operands these (seen xs) ≡ true
operands_fit these [] h = refl
operands_fit these (x ∷ xs) h =
    and_from (these x.0 && well_formed x.1) (all_operands these (seen xs)) (and_from (these x.0) (well_formed x.1) h.0.0 h.0.1) (operands_fit these xs h.1)

some_fit : (xs : List Expr) → some xs ≡ true → some (map well_formed xs) ≡ true
some_fit [] e = e
some_fit (x ∷ xs) e = refl

-- ---- names

small_byte : (c : ℕ) → to_ascii_lowercase (to_ascii_lowercase c) ≡ to_ascii_lowercase c
small_byte c = by (nat_lt c 65) (nat_lt c 91) refl refl
  where
    stays : (b : ℕ) → nat_lt b 65 ≡ false → nat_lt b 91 ≡ false → to_ascii_lowercase b ≡ b
    stays b low high = ap (λ (v : Bool). cond v b (cond (nat_lt b 91) (b + 32) b)) low ∙ ap (λ (v : Bool). cond v (b + 32) b) high

    by : (low high : Bool) → nat_lt c 65 ≡ low → nat_lt c 91 ≡ high → to_ascii_lowercase (cond low c (cond high (c + 32) c)) ≡ cond low c (cond high (c + 32) c)
    by true high e h = ap (λ (v : Bool). cond v c (cond (nat_lt c 91) (c + 32) c)) e
    by false true e h = stays (c + 32) (grind (arith, nat_tests, e, h)) (grind (arith, nat_tests, e, h))
    by false false e h = stays c e h

small_twice : (w : List ℕ) → map to_ascii_lowercase (map to_ascii_lowercase w) ≡ map to_ascii_lowercase w
small_twice [] = refl
small_twice (c ∷ w) = ap (λ b. b ∷ map to_ascii_lowercase (map to_ascii_lowercase w)) (small_byte c) ∙ ap (λ (l : List ℕ). to_ascii_lowercase c ∷ l) (small_twice w)

small_name : (w : List ℕ) → is_small (map to_ascii_lowercase w) ≡ true
small_name w = (bytes_eq-Decides (map to_ascii_lowercase (map to_ascii_lowercase w)) (map to_ascii_lowercase w)).1 (small_twice w)

-- ---- nodes

-- an expression of a node that is well formed
at_fits : (place : ℕ) (node : Node) → well_formed_node node ≡ true → IsWellFormedExpr (at place node)
at_fits place node h = fold-roll-Expr Bool Bool node_fits expr_fits (record { place = place; node = node }) ∙ h

module _ (place : ℕ) where
  pub number_fits : (k : ℤ) → is_amount k ≡ true → IsWellFormedExpr (at place (n.Number k))
  number_fits k h = at_fits place (n.Number k) (ap well_formed_node (sym (n.rolls-Number k)) ∙ fold-roll-Node Bool Bool node_fits expr_fits (Node-F.Number k) ∙ h)

  pub chars_fit : (text : List ℕ) → IsWellFormedExpr (at place (n.Chars text))
  chars_fit text = at_fits place (n.Chars text) (ap well_formed_node (sym (n.rolls-Chars text)) ∙ fold-roll-Node Bool Bool node_fits expr_fits (Node-F.Chars text))

  pub truth_fits : (value : Bool) → IsWellFormedExpr (at place (n.Truth value))
  truth_fits value = at_fits place (n.Truth value) (ap well_formed_node (sym (n.rolls-Truth value)) ∙ fold-roll-Node Bool Bool node_fits expr_fits (Node-F.Truth value))

  pub null_fits : IsWellFormedExpr (at place n.Null)
  null_fits = at_fits place n.Null (ap well_formed_node (sym n.rolls-Null) ∙ fold-roll-Node Bool Bool node_fits expr_fits Node-F.Null)

  pub date_fits : (day : ℤ) → is_day day ≡ true → IsWellFormedExpr (at place (n.Date day))
  date_fits day h = at_fits place (n.Date day) (ap well_formed_node (sym (n.rolls-Date day)) ∙ fold-roll-Node Bool Bool node_fits expr_fits (Node-F.Date day) ∙ h)

  pub name_fits : (name : List ℕ) → IsWellFormedExpr (at place (n.Name name))
  name_fits name = at_fits place (n.Name name) (ap well_formed_node (sym (n.rolls-Name name)) ∙ fold-roll-Node Bool Bool node_fits expr_fits (Node-F.Name name))

  pub prop_fits : (name prop : List ℕ) → IsWellFormedExpr (at place (n.Prop name prop))
  prop_fits name prop = at_fits place (n.Prop name prop) (ap well_formed_node (sym (n.rolls-Prop name prop)) ∙ fold-roll-Node Bool Bool node_fits expr_fits (Node-F.Prop name prop))

  pub function_fits : (name : List ℕ) (arguments : List Expr) → AllExprs arguments → IsWellFormedExpr (at place (n.Function (map to_ascii_lowercase name) arguments))
  function_fits name arguments h =
      let small : List ℕ = map to_ascii_lowercase name in
      at_fits place (n.Function small arguments)
      (ap well_formed_node (sym (n.rolls-Function small arguments)) ∙ fold-roll-Node Bool Bool node_fits expr_fits (Node-F.Function small arguments)
      ∙ and_from (is_small small) (all (map well_formed arguments)) (small_name name) (all_fit arguments h))

  pub count_all_fits : IsWellFormedExpr (at place n.CountAll)
  count_all_fits = at_fits place n.CountAll (ap well_formed_node (sym n.rolls-CountAll) ∙ fold-roll-Node Bool Bool node_fits expr_fits Node-F.CountAll)

  pub aggregate_fits : (which : Aggregate) (distinct : Bool) (e : Expr) → IsWellFormedExpr e → IsWellFormedExpr (at place (n.Aggregate which distinct e))
  aggregate_fits which distinct e h =
      at_fits place (n.Aggregate which distinct e) (ap well_formed_node (sym (n.rolls-Aggregate which distinct e)) ∙ fold-roll-Node Bool Bool node_fits expr_fits (Node-F.Aggregate which distinct e) ∙ h)

  pub negate_fits : (e : Expr) → IsWellFormedExpr e → IsWellFormedExpr (at place (n.Negate e))
  negate_fits e h = at_fits place (n.Negate e) (ap well_formed_node (sym (n.rolls-Negate e)) ∙ fold-roll-Node Bool Bool node_fits expr_fits (Node-F.Negate e) ∙ h)

  pub not_fits : (e : Expr) → IsWellFormedExpr e → IsWellFormedExpr (at place (n.Not e))
  not_fits e h = at_fits place (n.Not e) (ap well_formed_node (sym (n.rolls-Not e)) ∙ fold-roll-Node Bool Bool node_fits expr_fits (Node-F.Not e) ∙ h)

  pub compare_fits : (sign : Op) (left right : Expr) → compares sign ≡ true → IsWellFormedExpr left → IsWellFormedExpr right → IsWellFormedExpr (at place (n.Compare sign left right))
  compare_fits sign left right e h i =
      at_fits place (n.Compare sign left right)
      (ap well_formed_node (sym (n.rolls-Compare sign left right)) ∙ fold-roll-Node Bool Bool node_fits expr_fits (Node-F.Compare sign left right)
      ∙ and_from (compares sign && well_formed left) (well_formed right) (and_from (compares sign) (well_formed left) e h) i)

  pub is_null_fits : (negative : Bool) (e : Expr) → IsWellFormedExpr e → IsWellFormedExpr (at place (n.IsNull negative e))
  is_null_fits negative e h = at_fits place (n.IsNull negative e) (ap well_formed_node (sym (n.rolls-IsNull negative e)) ∙ fold-roll-Node Bool Bool node_fits expr_fits (Node-F.IsNull negative e) ∙ h)

  pub member_fits : (negative : Bool) (e : Expr) (list : List Expr) → IsWellFormedExpr e → some list ≡ true → AllExprs list → IsWellFormedExpr (at place (n.Member negative e list))
  member_fits negative e list h one i =
      at_fits place (n.Member negative e list)
      (ap well_formed_node (sym (n.rolls-Member negative e list)) ∙ fold-roll-Node Bool Bool node_fits expr_fits (Node-F.Member negative e list)
      ∙ and_from (well_formed e && some (map well_formed list)) (all (map well_formed list)) (and_from (well_formed e) (some (map well_formed list)) h (some_fit list one)) (all_fit list i))

-- ---- chains

abbrev chained : (Op → Bool) → Expr → List (Op × Expr) → Bool
chained these first more = well_formed first && some (seen more) && all_operands these (seen more)

chain_true : (these : Op → Bool) (first : Expr) (x : Op × Expr) (more : List (Op × Expr)) → IsWellFormedExpr first → AllOperands these (x ∷ more) → chained these first (x ∷ more) ≡ true
chain_true these first x more h i =
    and_from (well_formed first && true) (all_operands these (seen (x ∷ more))) (and_from (well_formed first) true h refl) (operands_fit these (x ∷ more) i)

pub product_fits : (first : Expr) (more : List (Op × Expr)) → IsWellFormedExpr first → AllOperands multiplies more → IsWellFormedExpr (chain n.Product first more)
product_fits first [] h i = h
product_fits first (x ∷ more) h i =
    at_fits (place_of first) (n.Product first (x ∷ more))
    (ap well_formed_node (sym (n.rolls-Product first (x ∷ more))) ∙ fold-roll-Node Bool Bool node_fits expr_fits (Node-F.Product first (x ∷ more)) ∙ chain_true multiplies first x more h i)

pub sum_fits : (first : Expr) (more : List (Op × Expr)) → IsWellFormedExpr first → AllOperands adds more → IsWellFormedExpr (chain n.Sum first more)
sum_fits first [] h i = h
sum_fits first (x ∷ more) h i =
    at_fits (place_of first) (n.Sum first (x ∷ more))
    (ap well_formed_node (sym (n.rolls-Sum first (x ∷ more))) ∙ fold-roll-Node Bool Bool node_fits expr_fits (Node-F.Sum first (x ∷ more)) ∙ chain_true adds first x more h i)

pub and_fits : (first : Expr) (more : List Expr) → IsWellFormedExpr first → AllExprs more → IsWellFormedExpr (row n.And first more)
and_fits first [] h i = h
and_fits first (x ∷ more) h i =
    at_fits (place_of first) (n.And (first ∷ x ∷ more))
    (ap well_formed_node (sym (n.rolls-And (first ∷ x ∷ more))) ∙ fold-roll-Node Bool Bool node_fits expr_fits (Node-F.And (first ∷ x ∷ more)) ∙ all_fit (first ∷ x ∷ more) (h, i))

pub or_fits : (first : Expr) (more : List Expr) → IsWellFormedExpr first → AllExprs more → IsWellFormedExpr (row n.Or first more)
or_fits first [] h i = h
or_fits first (x ∷ more) h i =
    at_fits (place_of first) (n.Or (first ∷ x ∷ more))
    (ap well_formed_node (sym (n.rolls-Or (first ∷ x ∷ more))) ∙ fold-roll-Node Bool Bool node_fits expr_fits (Node-F.Or (first ∷ x ∷ more)) ∙ all_fit (first ∷ x ∷ more) (h, i))
