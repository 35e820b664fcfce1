use Rattle.std.proofs.Common.{rules, ◌≡◌, List, ◌-◌, ◌+◌, true, false, ap, sym, ◌∙◌}
use Rattle.pgql_ast.specs.declared.expr.Expr.{Expr}
use Rattle.pgql_ast.specs.declared.expr.Op.{Op}
use Rattle.pgql_grammar.specs.Reading.{turns, head}
use Rattle.pgql_parse.specs.Front.{front}
use Rattle.pgql_grammar.specs.Sorts.{is_multiplication}
use Rattle.pgql_grammar.specs.ExpressionReader as rule
use Rattle.pgql_parse.proofs.Loops.{more, begins, stop}
use Rattle.pgql_parse.proofs.expr.Grammar.factors.Goals as goal

pub loop-turn-init : goal.loop-turn-init
loop-turn-init g c = begins is_multiplication (rule.factor (rule.nested c.args.self.now.depth)) c.args.rest.now c.len-most.result c.new-found.result c.len-most.ensures c.new-found.ensures

pub loop-turn-preserved : goal.loop-turn-preserved
loop-turn-preserved g c =
    let sees : is_multiplication (head c.loop-turn.rest) ≡ true = search rules in
    let step = more is_multiplication (rule.factor (rule.nested c.args.self.now.depth)) c.loop-turn.found c.len-most.result c.loop-turn._turn c.loop-turn.rest
    c.in_ok-x.x.now c.expect_multiplication.new.self c.factor.new.rest c.in_ok-factor.field-0 c.loop-turn-test.true sees c.in_ok-x.ensures c.in_ok-factor.ensures in
    c.loop-turn.invariant ∙ step ∙ ap (λ (l : List (Op × Expr)). front l (turns (c.len-most.result - (c.loop-turn._turn + 1)) is_multiplication (rule.factor (rule.nested c.args.self.now.depth)) c.factor.new.rest)) (sym c.in_ok-push.ensures.ok)

pub returns-then-not-is_multiplication : goal.returns-then-not-is_multiplication
returns-then-not-is_multiplication g c =
    let sees : is_multiplication (head c.loop-turn.rest) ≡ false = search rules in
    c.loop-turn.invariant ∙ stop is_multiplication (rule.factor (rule.nested c.args.self.now.depth)) c.loop-turn.found c.len-most.result c.loop-turn._turn c.loop-turn.rest sees
