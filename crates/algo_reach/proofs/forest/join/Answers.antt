use Rattle.std.proofs.Common.{arith}
use Rattle.algo_reach.proofs.Forests.{joined_by}
use Rattle.algo_reach.proofs.forest.join.Goals as goal

pub returns : goal.returns
returns c = λ g together root forest.
    let one = c.root_of-x.ensures.forest g root forest in
    let two = c.root_of-y.ensures.forest g root one.0 in
    let linked = c.link.ensures in
    joined_by g c.root_of-y.new.parents root two.0 c.args.a c.args.b c.root_of-x.result c.root_of-y.result (omega (arith, c.requires.first, forest.long)) (omega (arith, c.requires.second, forest.long)) one.1 two.1
    together c.link.new.parents linked.rises linked.falls linked.same
