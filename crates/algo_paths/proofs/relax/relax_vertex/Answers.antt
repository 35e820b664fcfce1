use Rattle.std.proofs.Common.{◌+◌, ◌≤◌, ◌<◌, ◌∙◌, ap, arith, slice_index, length}
use Rattle.std.proofs.lemmas.List.Elements.{All-push, All-weaker}
use Rattle.algo_digraph.specs.declared.arcs.Arc.{Arc}
use Rattle.algo_digraph.specs.Digraph.{Goes}
use Rattle.algo_digraph.specs.Arcs.{arc, out_arcs}
use Rattle.algo_digraph.proofs.ArcEdges.{left_arc}
use Rattle.algo_digraph.proofs.Turns.{arc_turn, arcs_end, met}
use Rattle.algo_paths.proofs.Relaxing.{relaxing_more}
use Rattle.algo_paths.proofs.relax.relax_vertex.Goals as goal

pub bounds-weights-arc : goal.bounds-weights-arc
bounds-weights-arc c =
    let within = arc_turn (λ (a : Arc). a.edge < length c.args.digraph.now.edges) _ _ _ _ _ _ c.into_iter-arc-iterator.ensures.into_iter_gives c.loop-arc.yielded_by c.in-Some.ensures.steps c.out_arcs-arc-items.ensures.edges in
    omega (arith, within, c.requires.weights)

pub offer-requires : goal.offer-requires
offer-requires c =
    let within = arc_turn (λ (a : Arc). a.vertex < c.args.digraph.now.vertices) _ _ _ _ _ _ c.into_iter-arc-iterator.ensures.into_iter_gives c.loop-arc.yielded_by c.in-Some.ensures.steps c.out_arcs-arc-items.ensures.ends in
    omega (arith, within, c.requires.long, c.loop-arc.invariant.relaxing.long)

pub loop-arc-preserved : goal.loop-arc-preserved
loop-arc-preserved c =
    let g = c.args.digraph.now in
    let v = c.args.v in
    let weights = c.args.weights.now in
    let old = c.args.best.now in
    let a = c.in-Some.arc in
    let inv = c.loop-arc.invariant in
    let goes = arc_turn (λ (b : Arc). Goes g b.edge v b.vertex) _ _ _ _ _ _ c.into_iter-arc-iterator.ensures.into_iter_gives c.loop-arc.yielded_by c.in-Some.ensures.steps c.out_arcs-arc-items.ensures.each in
    let one = c.in_ok-offer.ensures in
    let own = ap (λ xs. slice_index xs v + slice_index weights a.edge) c.as_slice.ensures in
    record {
      relaxing = relaxing_more g weights v a.edge a.vertex _ old c.loop-arc.best c.offer.new.best c.args.queue.now c.loop-arc.queue c.offer.new.queue inv.relaxing one goes c.sound.ensures own;
      sofar = All-push (λ (b : Arc). slice_index c.offer.new.best b.vertex ≤ slice_index c.as_slice.result.now v + slice_index weights b.edge) c.loop-arc.yielded a
          (All-weaker (λ (b : Arc). slice_index c.loop-arc.best b.vertex ≤ slice_index c.as_slice.result.now v + slice_index weights b.edge) (λ (b : Arc). slice_index c.offer.new.best b.vertex ≤ slice_index c.as_slice.result.now v + slice_index weights b.edge)
          (λ b h. omega (arith, h, one.lower b.vertex)) c.loop-arc.yielded inv.sofar)
          one.taken;
    }

pub returns-clause-relaxed : goal.returns-clause-relaxed
returns-clause-relaxed c = λ e w h.
    let g = c.args.digraph.now in
    let v = c.args.v in
    let all = arcs_end _ _ _ _ c.into_iter-arc-iterator.ensures.into_iter_gives c.loop-arc.yielded_by c.in-None.ensures.steps.0 ∙ c.out_arcs-arc-items.ensures.arcs in
    let so = rw c.as_slice.ensures at c.loop-arc.invariant.sofar in
    met (λ (b : Arc). slice_index c.loop-arc.best b.vertex ≤ slice_index c.args.best.now v + slice_index c.args.weights.now b.edge) (out_arcs g v) c.loop-arc.yielded (arc e w) all so (left_arc g v e w h)
