use Rattle.std.proofs.Common.{rules, ◌≡◌, ◌-◌, ◌+◌, true, ap, sym, ◌∙◌}
use Rattle.pgql_grammar.specs.declared.piece.Sym.TheVariants as s
use Rattle.pgql_grammar.specs.declared.piece.Level.TheVariants.{Whole}
use Rattle.pgql_grammar.specs.ExpressionReader.{nested}
use Rattle.pgql_grammar.specs.Reading.{turns, head}
use Rattle.pgql_grammar.specs.Sorts.{is}
use Rattle.pgql_parse.specs.Front.{front}
use Rattle.pgql_parse.proofs.Loops.{more}
use Rattle.pgql_parse.proofs.clauses.group_list.Goals as goal

pub loop-turn-preserved : goal.loop-turn-preserved
loop-turn-preserved c =
    let sees : is s.Comma (head c.loop-turn.rest) ≡ true = search rules in
    let step = more (is s.Comma) (λ _. (nested c.args.depth Whole)) c.loop-turn.found c.len-most.result c.loop-turn._turn c.loop-turn.rest
    c.in_ok-expect.field-0.now c.expect.new.self c.expr-in-loop-turn.new.rest c.in_ok-expr-2.field-0 c.loop-turn-test.true sees c.in_ok-expect.ensures c.in_ok-expr-2.ensures in
    c.loop-turn.invariant ∙ step ∙ ap (λ l. front l (turns (c.len-most.result - (c.loop-turn._turn + 1)) (is s.Comma) (λ _. (nested c.args.depth Whole)) c.expr-in-loop-turn.new.rest)) (sym c.in_ok-push-2.ensures.ok)
