use Rattle.std.proofs.Common.{rules, ◌≡◌, List, ◌-◌, ◌+◌, true, false, ap, sym, ◌∙◌}
use Rattle.pgql_ast.specs.declared.expr.Expr.{Expr}
use Rattle.pgql_ast.specs.declared.expr.Op.{Op}
use Rattle.pgql_grammar.specs.Reading.{turns, head}
use Rattle.pgql_parse.specs.Front.{front}
use Rattle.pgql_grammar.specs.Sorts.{is_addition}
use Rattle.pgql_grammar.specs.ExpressionReader as rule
use Rattle.pgql_parse.proofs.Loops.{more, begins, stop}
use Rattle.pgql_parse.proofs.expr.Grammar.terms.Goals as goal

pub loop-turn-init : goal.loop-turn-init
loop-turn-init g c = begins (is_addition) (rule.term (rule.nested c.args.self.now.depth)) c.args.rest.now c.len-most.result c.new-found.result c.len-most.ensures c.new-found.ensures

pub loop-turn-preserved : goal.loop-turn-preserved
loop-turn-preserved g c =
    let sees : (is_addition) (head c.loop-turn.rest) ≡ true = search rules in
    let step = more (is_addition) (rule.term (rule.nested c.args.self.now.depth)) c.loop-turn.found c.len-most.result c.loop-turn._turn c.loop-turn.rest
    c.in_ok-x.x.now c.expect_addition.new.self c.term.new.rest c.in_ok-term.field-0 c.loop-turn-test.true sees c.in_ok-x.ensures c.in_ok-term.ensures in
    c.loop-turn.invariant ∙ step ∙ ap (λ (l : List (Op × Expr)). front l (turns (c.len-most.result - (c.loop-turn._turn + 1)) (is_addition) (rule.term (rule.nested c.args.self.now.depth)) c.term.new.rest)) (sym c.in_ok-push.ensures.ok)

pub returns-then-not-is_addition : goal.returns-then-not-is_addition
returns-then-not-is_addition g c =
    let sees : is_addition (head c.loop-turn.rest) ≡ false = search rules in
    c.loop-turn.invariant ∙ stop is_addition (rule.term (rule.nested c.args.self.now.depth)) c.loop-turn.found c.len-most.result c.loop-turn._turn c.loop-turn.rest sees
