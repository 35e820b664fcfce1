use Rattle.std.proofs.Common.{◌<◌, length, ap, sym, subst, arith}
use Rattle.algo_digraph.specs.Walks.{IsLabel}
use Rattle.algo_reach.specs.Forest.{IsForest}
use Rattle.algo_reach.proofs.Forests.{roots_label}
use Rattle.algo_reach.proofs.forest.forest_components.Goals as goal

pub root_labels-requires : goal.root_labels-requires
root_labels-requires c = record { falls = rw c.as_slice.ensures c.in_ok-parents.ensures.1.falls }

pub returns-clause-len : goal.returns-clause-len
returns-clause-len c = omega (arith, c.in_ok-labels.ensures.len, ap length c.as_slice.ensures, c.in_ok-parents.ensures.1.long)

pub returns-clause-each : goal.returns-clause-each
returns-clause-each c = λ v lt.
    let g = c.args.digraph.now in
    let trees = c.in_ok-parents.ensures in
    let forest = subst (λ ps. IsForest g ps trees.0) (sym c.as_slice.ensures) trees.1 in
    let within : v < length c.as_slice.result.now = omega (arith, lt, forest.long) in
    subst (IsLabel g v) (sym (c.in_ok-labels.ensures.each g trees.0 forest v within)) (roots_label g _ trees.0 trees.1 trees.2 v lt)
