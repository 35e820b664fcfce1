use Rattle.std.proofs.Common.{◌<◌, ◌∙◌, arith}
use Rattle.algo_digraph.specs.declared.arcs.Arc.{Arc}
use Rattle.algo_digraph.specs.Digraph.{Goes}
use Rattle.algo_digraph.proofs.Turns.{arc_turn, arcs_end}
use Rattle.algo_reach.proofs.Forests.{none_come, one_more, all_come, edge_connects}
use Rattle.algo_reach.proofs.forest.join_targets.Goals as goal

pub loop-arc-init : goal.loop-arc-init
loop-arc-init c = none_come c.args.digraph.now c.args.v c.args.parents.now

pub join-requires-clause-first : goal.join-requires-clause-first
join-requires-clause-first c =
    let grown = c.loop-arc.invariant c.requires.forest.0 c.requires.forest.1 in
    omega (arith, c.requires.vertex, grown.1.long)

pub join-requires-clause-second : goal.join-requires-clause-second
join-requires-clause-second c =
    let grown = c.loop-arc.invariant c.requires.forest.0 c.requires.forest.1 in
    let within = arc_turn (λ (a : Arc). a.vertex < c.args.digraph.now.vertices) _ _ _ _ _ _ c.into_iter-arc-iterator.ensures.into_iter_gives c.loop-arc.yielded_by c.in-Some.ensures.steps c.out_arcs-arc-items.ensures.ends in
    omega (arith, within, grown.1.long)

pub join-requires-clause-falls : goal.join-requires-clause-falls
join-requires-clause-falls c = (c.loop-arc.invariant c.requires.forest.0 c.requires.forest.1).1.falls

pub loop-arc-preserved : goal.loop-arc-preserved
loop-arc-preserved c =
    let g = c.args.digraph.now in
    let v = c.args.v in
    let a = c.in-Some.arc in
    let goes = arc_turn (λ (b : Arc). Goes g b.edge v b.vertex) _ _ _ _ _ _ c.into_iter-arc-iterator.ensures.into_iter_gives c.loop-arc.yielded_by c.in-Some.ensures.steps c.out_arcs-arc-items.ensures.each in
    one_more g v c.loop-arc.yielded a c.args.parents.now c.loop-arc.parents c.join.new.parents c.loop-arc.invariant (c.join.ensures g (edge_connects g a.edge v a.vertex goes))

pub returns : goal.returns
returns c =
    let g = c.args.digraph.now in
    let all = arcs_end _ _ _ _ c.into_iter-arc-iterator.ensures.into_iter_gives c.loop-arc.yielded_by c.in-None.ensures.steps.0 ∙ c.out_arcs-arc-items.ensures.arcs in
    all_come g c.args.v c.loop-arc.yielded c.args.parents.now c.loop-arc.parents all c.loop-arc.invariant
