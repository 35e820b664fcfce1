use Rattle.std.proofs.Common.{◌+◌, ◌≤◌, ◌<◌, ◌∙◌, inl, inr, arith, slice_index, length}
use Rattle.std.proofs.lemmas.Bool.{cases_lt}
use Rattle.std.proofs.lemmas.List.Elements.{All-push, All-weaker}
use Rattle.algo_digraph.specs.declared.arcs.Arc.{Arc}
use Rattle.algo_digraph.specs.Digraph.{Goes}
use Rattle.algo_digraph.specs.Arcs.{arc, in_arcs}
use Rattle.algo_digraph.proofs.ArcEdges.{entered_arc}
use Rattle.algo_digraph.proofs.Turns.{arc_turn, arcs_end, met}
use Rattle.algo_paths.proofs.round.next_best.Goals as goal

pub bounds-best-arc : goal.bounds-best-arc
bounds-best-arc c =
    let within = arc_turn (λ (a : Arc). a.vertex < c.args.digraph.now.vertices) _ _ _ _ _ _ c.into_iter-arc-iterator.ensures.into_iter_gives c.loop-arc.yielded_by c.in-Some.ensures.steps c.in_arcs-arc-items.ensures.ends in
    omega (arith, within, c.requires.long)

pub bounds-weights-arc : goal.bounds-weights-arc
bounds-weights-arc c =
    let within = arc_turn (λ (a : Arc). a.edge < length c.args.digraph.now.edges) _ _ _ _ _ _ c.into_iter-arc-iterator.ensures.into_iter_gives c.loop-arc.yielded_by c.in-Some.ensures.steps c.in_arcs-arc-items.ensures.edges in
    omega (arith, within, c.requires.weights)

pub loop-arc-preserved : goal.loop-arc-preserved
loop-arc-preserved c =
    let g = c.args.digraph.now in
    let v = c.args.v in
    let best = c.args.best.now in
    let weights = c.args.weights.now in
    let a = c.in-Some.arc in
    let m = c.min-least.ensures in
    let inv = c.loop-arc.invariant in
    let goes = arc_turn (λ (b : Arc). Goes g b.edge b.vertex v) _ _ _ _ _ _ c.into_iter-arc-iterator.ensures.into_iter_gives c.loop-arc.yielded_by c.in-Some.ensures.steps c.in_arcs-arc-items.ensures.each in
    record {
      own = omega (arith, m, inv.own);
      sofar = All-push (λ (b : Arc). c.min-least.result ≤ slice_index best b.vertex + slice_index weights b.edge) c.loop-arc.yielded a
          (All-weaker (λ (b : Arc). c.loop-arc.least ≤ slice_index best b.vertex + slice_index weights b.edge) (λ (b : Arc). c.min-least.result ≤ slice_index best b.vertex + slice_index weights b.edge)
          (λ b h. omega (arith, h, m)) c.loop-arc.yielded inv.sofar)
          (omega (arith, m));
      some =
          elim (cases_lt c.loop-arc.least (slice_index best a.vertex + slice_index weights a.edge)) [
            | inl lt ↦ elim inv.some [
              | inl own ↦ inl (omega (arith, m, lt, own))
              | inr edge ↦ inr (edge.0, edge.1, edge.2, omega (arith, m, lt, edge.3))
            ]
            | inr ge ↦ inr (a.edge, a.vertex, goes, omega (arith, m, ge))
          ];
    }

pub returns : goal.returns
returns c =
    let g = c.args.digraph.now in
    let v = c.args.v in
    let all = arcs_end _ _ _ _ c.into_iter-arc-iterator.ensures.into_iter_gives c.loop-arc.yielded_by c.in-None.ensures.steps.0 ∙ c.in_arcs-arc-items.ensures.arcs in
    record {
      own = c.loop-arc.invariant.own;
      least = λ e u h.
          met (λ (b : Arc). c.loop-arc.least ≤ slice_index c.args.best.now b.vertex + slice_index c.args.weights.now b.edge) (in_arcs g v) c.loop-arc.yielded (arc e u) all c.loop-arc.invariant.sofar (entered_arc g v e u h);
      some = c.loop-arc.invariant.some;
    }
