use Rattle.std.proofs.Common.{◌<◌, ◌∷◌, [], ◌∙◌, subst, map, arith}
use Rattle.std.proofs.lemmas.List.{map-append}
use Rattle.algo_digraph.specs.declared.arcs.Arc.{Arc}
use Rattle.algo_digraph.proofs.Turns.{arc_turn, arcs_end}
use Rattle.algo_core.specs.Peeling.{IsLowering}
use Rattle.algo_core.proofs.Peels.{lowering_then}
use Rattle.algo_core.proofs.peel.lower_targets.Goals as goal

pub lower_end-requires : goal.lower_end-requires
lower_end-requires c =
    let within = arc_turn (λ (a : Arc). a.vertex < c.args.digraph.now.vertices) _ _ _ _ _ _ c.into_iter-arc-iterator.ensures.into_iter_gives c.loop-arc.yielded_by c.in-Some.ensures.steps c.out_arcs-arc-items.ensures.ends in
    omega (arith, within, c.requires, c.loop-arc.invariant.long)

pub loop-arc-preserved : goal.loop-arc-preserved
loop-arc-preserved c =
    rw (map-append (λ (a : Arc). a.vertex) c.loop-arc.yielded (c.in-Some.arc ∷ []))
    (lowering_then c.args.level _ _ _ _ _ _ _ _ c.loop-arc.invariant c.in_ok-lower_end.ensures)

pub returns : goal.returns
returns c =
    let all = arcs_end _ _ _ _ c.into_iter-arc-iterator.ensures.into_iter_gives c.loop-arc.yielded_by c.in-None.ensures.steps.0 ∙ c.out_arcs-arc-items.ensures.arcs in
    subst (λ xs. IsLowering c.args.level (map (λ (a : Arc). a.vertex) xs) c.args.ends.now c.loop-arc.ends c.args.queue.now.items c.loop-arc.queue.items) all c.loop-arc.invariant
