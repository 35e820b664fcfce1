use Rattle.std.proofs.Common.{rules, ◌≡◌, ◌∙◌, false, sym, subst}
use Rattle.pgql_ast.specs.declared.expr.Expr.{Expr}
use Rattle.pgql_grammar.specs.declared.piece.Sym.TheVariants as s
use Rattle.pgql_grammar.specs.Reading.{Parser, head, choose}
use Rattle.pgql_grammar.specs.Sorts.{is, is_aggregate}
use Rattle.pgql_grammar.specs.ExpressionReader as rule
use Rattle.pgql_parse.specs.Steps.{Reads}
use Rattle.pgql_parse.proofs.Loops.{passed}
use Rattle.pgql_parse.proofs.expr.Grammar.prim.Goals as goal

pub returns : goal.returns
unfolding rule.prim
returns g c =
    let ts = c.args.rest.now in
    let inner = rule.nested c.args.self.now.depth in
    let last : Parser Expr = choose is_aggregate (rule.aggregate inner) (rule.bracketed inner) in
    let one : rule.is_literal (head ts) ≡ false = search rules in
    let two : is s.Name (head ts) ≡ false = search rules in
    let whole : rule.prim inner ts ≡ last ts = passed rule.is_literal rule.literal (choose (is s.Name) (rule.named inner) last) ts one ∙ passed (is s.Name) (rule.named inner) last ts two in
    subst (λ o. Reads o c.enclosed.result c.enclosed.new.rest) (sym whole) c.enclosed.ensures
