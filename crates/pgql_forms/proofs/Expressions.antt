-- Each expression that fair pieces spell is well formed, rule by rule.
use Rattle.std.proofs.Common.{ℕ, zero, suc, [], refl}
use Rattle.pgql_ast.specs.declared.expr.Expr.{Expr}
use Rattle.pgql_grammar.specs.declared.piece.Level.{Level}
use Rattle.pgql_grammar.specs.declared.piece.Level.TheVariants.{Whole, Negation, Minus}
use Rattle.pgql_grammar.specs.declared.piece.Sym.TheVariants as s
use Rattle.pgql_grammar.specs.Sorts.{is, is_comparison, is_addition, is_multiplication, is_text, is_truth, is_aggregate, is_label, op_of, aggregate_of}
use Rattle.pgql_grammar.specs.Language.{Lang, maybe}
use Rattle.pgql_grammar.specs.Expression as g
use Rattle.pgql_grammar.specs.Expression.{place_of}
use Rattle.pgql_grammar.proofs.Sets.{below_at}
use Rattle.pgql_forms.specs.WellFormed.{multiplies, adds, compares, IsWellFormedExpr}
use Rattle.pgql_forms.proofs.Gives.{Gives, gives-any, gives-one, gives-pure, gives-bind, gives-or, gives-many, gives-separated, AtLeastOne}
use Rattle.pgql_forms.proofs.Trees as tree
use Rattle.pgql_forms.proofs.Trees.{IsOperand, AllExprs}

abbrev GivesExpr : Lang Expr → Type 0
GivesExpr L = Gives L IsWellFormedExpr

-- ---- rules with no expression inside

gives-number : GivesExpr g.number
unfolding g.number
gives-number = gives-bind (gives-one (is s.Number)) (λ x h. gives-pure _ (tree.number_fits x.place x.number h.0.number))

gives-text : GivesExpr g.text
unfolding g.text
gives-text = gives-bind (gives-one is_text) (λ x h. gives-pure _ (tree.chars_fit x.place x.text))

gives-truth : GivesExpr g.truth
unfolding g.truth
gives-truth = gives-bind (gives-one is_truth) (λ x h. gives-pure _ (tree.truth_fits x.place (is s.True x.sym)))

gives-null : GivesExpr g.null
unfolding g.null
gives-null = gives-bind (gives-one (is s.Null)) (λ x h. gives-pure _ (tree.null_fits x.place))

gives-date : GivesExpr g.date
unfolding g.date
gives-date = gives-bind (gives-one (is s.Date)) (λ x h. gives-bind (gives-one (is s.Day)) (λ day i. gives-pure _ (tree.date_fits x.place day.day i.0.day)))

gives-literal : GivesExpr g.literal
unfolding g.literal
gives-literal = gives-or gives-number (gives-or gives-text (gives-or gives-truth (gives-or gives-null gives-date)))

gives-name : GivesExpr g.name
unfolding g.name
gives-name = gives-bind (gives-one (is s.Name)) (λ x h. gives-pure _ (tree.name_fits x.place x.text))

gives-property : GivesExpr g.property
unfolding g.property
gives-property = gives-bind (gives-one (is s.Name)) (λ x h. gives-bind (gives-one (is s.Dot)) (λ _ i. gives-bind (gives-one is_label) (λ label j. gives-pure _ (tree.prop_fits x.place x.text label.text))))

gives-count_all : GivesExpr g.count_all
unfolding g.count_all
gives-count_all = gives-bind (gives-one (is s.Count)) (λ x h. gives-bind (gives-one (is s.Open)) (λ _ i. gives-bind (gives-one (is s.Star)) (λ _ j. gives-bind (gives-one (is s.Close)) (λ _ l.
    gives-pure _ (tree.count_all_fits x.place)))))

gives-null_test : (left : Expr) → IsWellFormedExpr left → GivesExpr (g.null_test left)
unfolding g.null_test
gives-null_test left p = gives-bind (gives-one (is s.Is)) (λ _ h. gives-bind (gives-any (maybe s.Not)) (λ negative i. gives-bind (gives-one (is s.Null)) (λ _ j.
    gives-pure _ (tree.is_null_fits (place_of left) negative left p))))

-- ---- rules over the expressions inside

module _ (L : Level → Lang Expr) (inner : (l : Level) → GivesExpr (L l)) where
  gives-comma_list : Gives (g.comma_list L) (AtLeastOne IsWellFormedExpr)
  unfolding g.comma_list
  gives-comma_list = gives-separated s.Comma (inner Whole)

  gives-arguments : Gives (g.arguments L) AllExprs
  unfolding g.arguments g.comma_list
  gives-arguments = gives-or (gives-pure [] tt) (record { at = λ ts a fair h. (gives-comma_list.at ts a fair h).1 })

  gives-function : GivesExpr (g.function L)
  unfolding g.function
  gives-function = gives-bind (gives-one (is s.Name)) (λ x h. gives-bind (gives-one (is s.Open)) (λ _ i. gives-bind gives-arguments (λ found p. gives-bind (gives-one (is s.Close)) (λ _ j.
      gives-pure _ (tree.function_fits x.place x.text found p)))))

  gives-aggregate : GivesExpr (g.aggregate_of_values L)
  unfolding g.aggregate_of_values
  gives-aggregate = gives-bind (gives-one is_aggregate) (λ x h. gives-bind (gives-one (is s.Open)) (λ _ i. gives-bind (gives-any (maybe s.Distinct)) (λ distinct j. gives-bind (inner Whole) (λ e p.
      gives-bind (gives-one (is s.Close)) (λ _ l. gives-pure _ (tree.aggregate_fits x.place (aggregate_of x.sym) distinct e p))))))

  gives-bracketed : GivesExpr (g.bracketed L)
  unfolding g.bracketed
  gives-bracketed = gives-bind (gives-one (is s.Open)) (λ _ h. gives-bind (inner Whole) (λ e p. gives-bind (gives-one (is s.Close)) (λ _ i. gives-pure e p)))

  gives-prim : GivesExpr (g.prim L)
  unfolding g.prim
  gives-prim = gives-or gives-literal (gives-or (gives-or gives-name (gives-or gives-property gives-function)) (gives-or (gives-or gives-count_all gives-aggregate) gives-bracketed))

  gives-minus : GivesExpr (g.minus L)
  unfolding g.minus
  gives-minus = gives-or (gives-bind (gives-one (is s.Minus)) (λ x h. gives-bind (inner Minus) (λ e p. gives-pure _ (tree.negate_fits x.place e p)))) gives-prim

  gives-product : GivesExpr (g.product L)
  unfolding g.product
  gives-product = gives-bind gives-minus (λ first p. gives-bind (gives-many (gives-bind (gives-one is_multiplication) (λ x h. gives-bind gives-minus (λ e q.
      gives-pure {P = IsOperand multiplies} (op_of x.sym, e) (below_at is_multiplication (λ k. multiplies (op_of k)) refl x.sym h.1, q)))))
      (λ more ps. gives-pure _ (tree.product_fits first more p ps)))

  gives-sum : GivesExpr (g.sum L)
  unfolding g.sum
  gives-sum = gives-bind gives-product (λ first p. gives-bind (gives-many (gives-bind (gives-one is_addition) (λ x h. gives-bind gives-product (λ e q.
      gives-pure {P = IsOperand adds} (op_of x.sym, e) (below_at is_addition (λ k. adds (op_of k)) refl x.sym h.1, q)))))
      (λ more ps. gives-pure _ (tree.sum_fits first more p ps)))

  gives-comparison : (left : Expr) → IsWellFormedExpr left → GivesExpr (g.comparison L left)
  unfolding g.comparison
  gives-comparison left p = gives-bind (gives-one is_comparison) (λ x h. gives-bind gives-sum (λ right q.
      gives-pure _ (tree.compare_fits (place_of left) (op_of x.sym) left right (below_at is_comparison (λ k. compares (op_of k)) refl x.sym h.1) p q)))

  gives-member : (left : Expr) → IsWellFormedExpr left → GivesExpr (g.member L left)
  unfolding g.member
  gives-member left p = gives-bind (gives-any (maybe s.Not)) (λ negative h. gives-bind (gives-one (is s.In)) (λ _ i. gives-bind (gives-one (is s.Open)) (λ _ j. gives-bind gives-comma_list (λ found q.
      gives-bind (gives-one (is s.Close)) (λ _ l. gives-pure _ (tree.member_fits (place_of left) negative left found p q.0 q.1))))))

  gives-test : GivesExpr (g.test L)
  unfolding g.test
  gives-test = gives-bind gives-sum (λ left p. gives-or (gives-pure left p) (gives-or (gives-comparison left p) (gives-or (gives-null_test left p) (gives-member left p))))

  gives-negation : GivesExpr (g.negation L)
  unfolding g.negation
  gives-negation = gives-or (gives-bind (gives-one (is s.Not)) (λ x h. gives-bind (inner Negation) (λ e p. gives-pure _ (tree.not_fits x.place e p)))) gives-test

  gives-conjunction : GivesExpr (g.conjunction L)
  unfolding g.conjunction
  gives-conjunction = gives-bind gives-negation (λ first p. gives-bind (gives-many (gives-bind (gives-one (is s.And)) (λ x h. gives-negation))) (λ more ps. gives-pure _ (tree.and_fits first more p ps)))

  gives-whole : GivesExpr (g.whole L)
  unfolding g.whole
  gives-whole = gives-bind gives-conjunction (λ first p. gives-bind (gives-many (gives-bind (gives-one (is s.Or)) (λ x h. gives-conjunction))) (λ more ps. gives-pure _ (tree.or_fits first more p ps)))

  gives-level : (l : Level) → GivesExpr (g.at_level L l)
  gives-level Whole = gives-whole
  gives-level Negation = gives-negation
  gives-level Minus = gives-minus

-- however deep they nest
pub gives-nested : (depth : ℕ) (l : Level) → GivesExpr (g.nested depth l)
unfolding g.nested
gives-nested zero l = gives-number
gives-nested (suc depth) l = gives-level (g.nested depth) (gives-nested depth) l
