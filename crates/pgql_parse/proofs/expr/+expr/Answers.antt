use Rattle.std.proofs.Common.{◌≡◌, arith}
use Rattle.pgql_grammar.specs.ExpressionReader.{nested}
use Rattle.pgql_parse.proofs.Loops.{deeper}
use Rattle.pgql_parse.proofs.expr.+expr.Goals as goal

pub returns-then-depth-eq0 : goal.returns-then-depth-eq0
unfolding nested
returns-then-depth-eq0 t c = let none : c.args.depth ≡ 0 = omega arith in rw none c.number.ensures

pub returns : goal.returns
unfolding nested
returns t c = rw (deeper (λ n. nested n c.args.level c.args.rest.now) c.args.depth (omega arith)) c.at_level.ensures
