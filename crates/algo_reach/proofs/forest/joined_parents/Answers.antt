use Rattle.std.proofs.Common.{arith}
use Rattle.algo_reach.proofs.Forests.{none_joined, joined_more, all_joined}
use Rattle.algo_reach.proofs.forest.joined_parents.Goals as goal

pub loop-v-init : goal.loop-v-init
loop-v-init c =
    let own = c.in_ok-parents.ensures in
    none_joined c.args.digraph.now _ (omega (arith, own.len, c.vertex_count-n.ensures.count)) (λ v lt. own.own v (omega (arith, lt, c.vertex_count-n.ensures.count)))

pub join_targets-requires-clause-forest : goal.join_targets-requires-clause-forest
join_targets-requires-clause-forest c = (c.loop-v.invariant.0, c.loop-v.invariant.1)

pub loop-v-preserved : goal.loop-v-preserved
loop-v-preserved c = joined_more c.args.digraph.now c.loop-v.v c.loop-v.parents c.join_targets.new.parents c.loop-v.invariant c.join_targets.ensures

pub returns : goal.returns
returns c = all_joined c.args.digraph.now c.loop-v.v c.loop-v.parents c.vertex_count-n.ensures.closed (omega (arith, c.vertex_count-n.ensures.count, c.loop-v-test.false)) c.loop-v.invariant
