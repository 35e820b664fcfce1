use Rattle.std.proofs.Common.{rules, ◌≡◌, ◌-◌, ◌+◌, true, false, ap, sym, ◌∙◌}
use Rattle.pgql_grammar.specs.Reading.{turns, head}
use Rattle.pgql_grammar.specs.Sorts.{is_edge}
use Rattle.pgql_grammar.specs.QueryReader as rule
use Rattle.pgql_parse.specs.Front.{front}
use Rattle.pgql_parse.proofs.Loops.{more, begins, stop}
use Rattle.pgql_parse.proofs.patterns.steps.Goals as goal

pub loop-turn-init : goal.loop-turn-init
unfolding rule.steps
loop-turn-init c = begins is_edge rule.step c.args.rest.now c.len-most.result c.new-found.result c.len-most.ensures c.new-found.ensures

pub loop-turn-preserved : goal.loop-turn-preserved
loop-turn-preserved c =
    let sees : is_edge (head c.loop-turn.rest) ≡ true = search rules in
    let step = more is_edge rule.step c.loop-turn.found c.len-most.result c.loop-turn._turn c.loop-turn.rest
    c.in_ok-x.x.now c.expect_edge.new.self c.step.new.rest c.in_ok-step.field-0 c.loop-turn-test.true sees c.in_ok-x.ensures c.in_ok-step.ensures in
    c.loop-turn.invariant ∙ step ∙ ap (λ l. front l (turns (c.len-most.result - (c.loop-turn._turn + 1)) is_edge rule.step c.step.new.rest)) (sym c.in_ok-push.ensures.ok)

pub returns-then-not-is_edge : goal.returns-then-not-is_edge
returns-then-not-is_edge c =
    let sees : is_edge (head c.loop-turn.rest) ≡ false = search rules in
    c.loop-turn.invariant ∙ stop is_edge rule.step c.loop-turn.found c.len-most.result c.loop-turn._turn c.loop-turn.rest sees
