-- Each query that a text spells is well formed.
use Rattle.std.proofs.Common.{◌≡◌, true, ℤ, [], Some, None, Result, Ok, Err}
use Rattle.std.specs.Prelude.{IfSome, IfOk}
use Rattle.std.specs.List.{AllByRecursion}
use Rattle.pgql_ast.specs.declared.expr.Expr.{Expr}
use Rattle.pgql_ast.specs.declared.query.Query.{Query}
use Rattle.pgql_ast.specs.declared.query.Item.{Item}
use Rattle.pgql_ast.specs.declared.query.Key.{Key}
use Rattle.pgql_ast.specs.declared.fault.PgqlFault.{PgqlFault}
use Rattle.pgql_ast.specs.declared.fault.PgqlFault.TheVariants.{At, NoMemory}
use Rattle.pgql_grammar.specs.declared.piece.Level.TheVariants.{Whole}
use Rattle.pgql_grammar.specs.declared.piece.Sym.TheVariants as s
use Rattle.pgql_grammar.specs.Sorts.{is}
use Rattle.pgql_grammar.specs.Language.{Lang, maybe}
use Rattle.pgql_grammar.specs.Clauses as g
use Rattle.pgql_grammar.specs.Clauses.{Text, Cut}
use Rattle.pgql_grammar.specs.Expression.{nested}
use Rattle.pgql_grammar.specs.Meaning.{Spells, Parses}
use Rattle.pgql_grammar.specs.Pieces.{pieces}
use Rattle.pgql_forms.specs.WellFormed.{is_amount, IsWellFormedExpr, IsWellFormed}
use Rattle.pgql_forms.proofs.Fair.{fair-text}
use Rattle.pgql_forms.proofs.Gives.{Gives, gives-any, gives-one, gives-pure, gives-bind, gives-or, gives-optional, gives-separated}
use Rattle.pgql_forms.proofs.Expressions.{gives-nested}

-- ---- bounds

abbrev IsAmount : ℤ → Type 0
IsAmount n = is_amount n ≡ true

abbrev IsCut : Cut → Type 0
IsCut bounds = IfSome bounds.0 IsAmount × IfSome bounds.1 IsAmount

gives-amount : Gives g.amount IsAmount
unfolding g.amount
gives-amount = gives-bind (gives-one (is s.Number)) (λ x h. gives-pure x.number h.0.number)

gives-cut : Gives g.cut IsCut
unfolding g.cut
gives-cut = gives-or
    (gives-bind (gives-one (is s.Limit)) (λ _ h. gives-bind gives-amount (λ most p. gives-bind (gives-optional s.Offset gives-amount) (λ skipped q. gives-pure {P = IsCut} (Some most, skipped) (p, q)))))
    (gives-or
    (gives-bind (gives-one (is s.Offset)) (λ _ h. gives-bind gives-amount (λ skipped p. gives-bind (gives-optional s.Limit gives-amount) (λ most q. gives-pure {P = IsCut} (most, Some skipped) (q, p)))))
    (gives-pure {P = IsCut} (None, None) (tt, tt)))

-- ---- clauses

module _ (L : Lang Expr) (expr : Gives L IsWellFormedExpr) where
  gives-item : Gives (g.item L) (λ (item : Item). IsWellFormedExpr item.value)
  unfolding g.item
  gives-item = gives-bind expr (λ value p. gives-bind (gives-any _) (λ alias h. gives-pure _ p))

  gives-key : Gives (g.key L) (λ (key : Key). IsWellFormedExpr key.value)
  unfolding g.key
  gives-key = gives-bind expr (λ value p. gives-bind (gives-any _) (λ descending h. gives-pure _ p))

  gives-groups : Gives (g.groups L) (AllByRecursion IsWellFormedExpr)
  unfolding g.groups
  gives-groups = gives-or
      (gives-bind (gives-one (is s.Group)) (λ _ h. gives-bind (gives-one (is s.By)) (λ _ i. gives-bind (gives-separated s.Comma expr) (λ found p. gives-pure found p.1))))
      (gives-pure [] tt)

  gives-keys : Gives (g.keys L) (AllByRecursion (λ (key : Key). IsWellFormedExpr key.value))
  unfolding g.keys
  gives-keys = gives-or
      (gives-bind (gives-one (is s.Order)) (λ _ h. gives-bind (gives-one (is s.By)) (λ _ i. gives-bind (gives-separated s.Comma gives-key) (λ found p. gives-pure found p.1))))
      (gives-pure [] tt)

  gives-query : Gives (g.query L) IsWellFormed
  unfolding g.query
  gives-query = gives-bind (gives-one (is s.Select)) (λ _ h1.
      gives-bind (gives-any (maybe s.Distinct)) (λ distinct h2.
      gives-bind (gives-separated s.Comma gives-item) (λ items items_fit.
      gives-bind (gives-one (is s.From)) (λ _ h3.
      gives-bind (gives-separated s.Comma (gives-any g.pattern)) (λ matches matches_fit.
      gives-bind (gives-optional s.Where expr) (λ condition condition_fits.
      gives-bind gives-groups (λ groups groups_fit.
      gives-bind (gives-optional s.Having expr) (λ having having_fits.
      gives-bind gives-keys (λ keys keys_fit.
      gives-bind gives-cut (λ bounds bounds_fit. gives-pure _ (record {
        selects = items_fit.0;
        items = items_fit.1;
        matches = matches_fit.0;
        condition = condition_fits;
        groups = groups_fit;
        having = having_fits;
        keys = keys_fit;
        limit = bounds_fit.0;
        offset = bounds_fit.1;
      })))))))))))

-- ---- texts

pub spelled_well : (text : Text) (query : Query) → Spells text query → IsWellFormed query
spelled_well text query h = (gives-query (nested h.2.0 Whole) (gives-nested h.2.0 Whole)).at (pieces text h.0) query (fair-text text h.0 h.1.lexed) h.2.1

pub parsed_well : (text : Text) (answer : Result Query PgqlFault) → Parses text answer → IfOk answer IsWellFormed
parsed_well text (Ok query) h = spelled_well text query h
parsed_well text (Err (At number place)) h = tt
parsed_well text (Err NoMemory) h = tt
