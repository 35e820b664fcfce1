use Rattle.std.proofs.Common.{arith}
use Rattle.algo_rank.proofs.Ends.{closed_within}
use Rattle.algo_rank.proofs.strong.labels_in.Goals as goal

pub returns-clause-each : goal.returns-clause-each
returns-clause-each c = λ v l at. c.loop-stage.invariant.each v l (omega (arith, closed_within c.args.stages.now v l at, c.loop-stage-test.false)) at
