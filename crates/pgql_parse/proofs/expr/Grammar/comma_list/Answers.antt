use Rattle.std.proofs.Common.{rules, ◌≡◌, List, ◌-◌, ◌+◌, true, false, ap, sym, ◌∙◌}
use Rattle.pgql_ast.specs.declared.expr.Expr.{Expr}
use Rattle.pgql_grammar.specs.declared.piece.Sym.TheVariants as s
use Rattle.pgql_grammar.specs.declared.piece.Level.TheVariants.{Whole}
use Rattle.pgql_grammar.specs.Reading.{turns, head}
use Rattle.pgql_parse.specs.Front.{front}
use Rattle.pgql_grammar.specs.Sorts.{is}
use Rattle.pgql_grammar.specs.ExpressionReader.{nested}
use Rattle.pgql_parse.proofs.Loops.{more, stop}
use Rattle.pgql_parse.proofs.expr.Grammar.comma_list.Goals as goal

pub loop-turn-preserved : goal.loop-turn-preserved
loop-turn-preserved g c =
    let sees : is s.Comma (head c.loop-turn.rest) ≡ true = search rules in
    let step = more (is s.Comma) (λ _. nested c.args.self.now.depth Whole) c.loop-turn.found c.len-most.result c.loop-turn._turn c.loop-turn.rest
    c.in_ok-expect.field-0.now c.expect.new.self c.inner-in-loop-turn.new.rest c.in_ok-inner-2.field-0 c.loop-turn-test.true sees c.in_ok-expect.ensures c.in_ok-inner-2.ensures in
    c.loop-turn.invariant ∙ step ∙ ap (λ (l : List Expr). front l (turns (c.len-most.result - (c.loop-turn._turn + 1)) (is s.Comma) (λ _. nested c.args.self.now.depth Whole) c.inner-in-loop-turn.new.rest)) (sym c.in_ok-push-2.ensures.ok)

pub returns-then-not-is : goal.returns-then-not-is
returns-then-not-is g c =
    let sees : is s.Comma (head c.loop-turn.rest) ≡ false = search rules in
    c.loop-turn.invariant ∙ stop (is s.Comma) (λ _. nested c.args.self.now.depth Whole) c.loop-turn.found c.len-most.result c.loop-turn._turn c.loop-turn.rest sees
