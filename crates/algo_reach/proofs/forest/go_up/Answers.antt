use Rattle.std.proofs.Common.{arith}
use Rattle.algo_reach.proofs.Forests.{halved_by}
use Rattle.algo_reach.proofs.forest.go_up.Goals as goal

pub returns-clause-forest : goal.returns-clause-forest
returns-clause-forest c = λ g root forest.
    halved_by g c.args.parents.now root forest c.args.at (omega (arith, c.requires.vertex, forest.long)) c.as_slice.result.now c.as_slice-2.result.now c.set.new.self c.as_slice.ensures c.as_slice-2.ensures
    c.set.ensures
