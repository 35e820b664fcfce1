use Rattle.std.proofs.Common.{rules, ◌≡◌, ◌∙◌, false, sym, subst}
use Rattle.pgql_ast.specs.declared.expr.Expr.{Expr}
use Rattle.pgql_grammar.specs.declared.piece.Sym.TheVariants as s
use Rattle.pgql_grammar.specs.Reading.{Parser, head, choose, pure}
use Rattle.pgql_grammar.specs.Sorts.{is, is_comparison}
use Rattle.pgql_grammar.specs.ExpressionReader as rule
use Rattle.pgql_parse.specs.Steps.{Reads}
use Rattle.pgql_parse.proofs.Loops.{passed}
use Rattle.pgql_parse.proofs.expr.Grammar.tested.Goals as goal

pub returns : goal.returns
unfolding rule.tested
returns g c =
    let ts = c.args.rest.now in
    let left = c.args.left in
    let inner = rule.nested c.args.self.now.depth in
    let last : Parser Expr = choose rule.is_member (rule.member inner left) (pure left) in
    let one : is_comparison (head ts) ≡ false = search rules in
    let two : is s.Is (head ts) ≡ false = search rules in
    let whole : rule.tested inner left ts ≡ last ts = passed is_comparison (rule.comparison inner left) (choose (is s.Is) (rule.null_test left) last) ts one ∙ passed (is s.Is) (rule.null_test left) last ts two in
    subst (λ o. Reads o c.member_if_any.result c.member_if_any.new.rest) (sym whole) c.member_if_any.ensures
