use Rattle.std.proofs.Common.{rules, ◌≡◌, ◌∙◌, false, sym, subst}
use Rattle.pgql_ast.specs.declared.expr.Expr.{Expr}
use Rattle.pgql_grammar.specs.declared.piece.Sym.TheVariants as s
use Rattle.pgql_grammar.specs.Reading.{Parser, head, choose}
use Rattle.pgql_grammar.specs.Sorts.{is, is_text, is_truth}
use Rattle.pgql_grammar.specs.ExpressionReader as rule
use Rattle.pgql_parse.specs.Steps.{Reads}
use Rattle.pgql_parse.proofs.Loops.{passed}
use Rattle.pgql_parse.proofs.atoms.literal.Goals as goal

pub returns : goal.returns
unfolding rule.literal
returns c =
    let ts = c.args.rest.now in
    let last : Parser Expr = choose is_truth rule.truth (choose (is s.Null) rule.null rule.date) in
    let one : is s.Number (head ts) ≡ false = search rules in
    let two : is_text (head ts) ≡ false = search rules in
    let whole : rule.literal ts ≡ last ts = passed (is s.Number) rule.number (choose is_text rule.text last) ts one ∙ passed is_text rule.text last ts two in
    subst (λ o. Reads o c.fixed.result c.fixed.new.rest) (sym whole) c.fixed.ensures
