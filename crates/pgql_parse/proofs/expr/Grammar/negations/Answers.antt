use Rattle.std.proofs.Common.{rules, ◌≡◌, List, ◌-◌, ◌+◌, true, Err, ap, subst, sym, ◌∙◌}
use Rattle.pgql_ast.specs.declared.expr.Expr.{Expr}
use Rattle.pgql_grammar.specs.declared.piece.Sym.TheVariants as s
use Rattle.pgql_grammar.specs.Reading.{turns, head, all}
use Rattle.pgql_parse.specs.declared.rest.Stop.{Stop}
use Rattle.pgql_parse.specs.Front.{front}
use Rattle.pgql_parse.specs.Steps.{Fails, Reads}
use Rattle.pgql_grammar.specs.Sorts.{is}
use Rattle.pgql_grammar.specs.ExpressionReader as rule
use Rattle.pgql_parse.proofs.Loops.{more, begins, item_fails}
use Rattle.pgql_parse.proofs.expr.Grammar.negations.Goals as goal

pub loop-turn-init : goal.loop-turn-init
loop-turn-init g c = begins (is s.And) (λ _. rule.negation (rule.nested c.args.self.now.depth)) c.args.rest.now c.len-most.result c.new-found.result c.len-most.ensures c.new-found.ensures

pub loop-turn-preserved : goal.loop-turn-preserved
loop-turn-preserved g c =
    let sees : (is s.And) (head c.loop-turn.rest) ≡ true = search rules in
    let step = more (is s.And) (λ _. rule.negation (rule.nested c.args.self.now.depth)) c.loop-turn.found c.len-most.result c.loop-turn._turn c.loop-turn.rest
    c.in_ok-expect.field-0.now c.expect.new.self c.negation.new.rest c.in_ok-negation.field-0 c.loop-turn-test.true sees c.in_ok-expect.ensures c.in_ok-negation.ensures in
    c.loop-turn.invariant ∙ step ∙ ap (λ (l : List Expr). front l (turns (c.len-most.result - (c.loop-turn._turn + 1)) (is s.And) (λ _. rule.negation (rule.nested c.args.self.now.depth)) c.negation.new.rest)) (sym c.in_ok-push.ensures.ok)

pub returns-in_err-negation : goal.returns-in_err-negation
returns-in_err-negation g c =
    let item = rule.negation (rule.nested c.args.self.now.depth) in
    let left = c.negation.new.rest in
    let why : Stop = c.in_err-negation.field-0.0 in
    let answer : c.from_residual-in_err-negation.result ≡ Err why = search rules in
    let sees : is s.And (head c.loop-turn.rest) ≡ true = search rules in
    let whole = all (is s.And) (λ _. item) c.args.rest.now in
    let failed : Fails (item c.expect.new.self) why left = c.in_err-negation.ensures in
    subst (λ r. Reads whole r left) (sym answer)
    (item_fails (is s.And) (λ _. item) c.loop-turn.found c.len-most.result c.loop-turn._turn c.loop-turn.rest
    why whole c.in_ok-expect.field-0.now c.expect.new.self left c.loop-turn.invariant c.loop-turn-test.true sees c.in_ok-expect.ensures failed)
