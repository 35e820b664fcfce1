use Rattle.std.proofs.Common.{◌++◌, ap, map, ◌∙◌, arith}
use Rattle.std.proofs.lemmas.Result.{on_ok_weaker}
use Rattle.algo_digraph.specs.declared.arcs.Arc.{Arc}
use Rattle.algo_digraph.specs.Arcs.{out_arcs}
use Rattle.algo_rank.specs.declared.search.Search.{Search}
use Rattle.algo_rank.specs.declared.search.Task.TheVariants.{Follow}
use Rattle.algo_rank.proofs.Moves.{meets}
use Rattle.algo_rank.proofs.search.meet.Goals as goal

pub returns-clause-search : goal.returns-clause-search
returns-clause-search c =
    let t : Search = record { stages = c.set.new.self; path = c.push.new.self; heads = c.push-2.new.self; tasks = c.add_edges.new.tasks } in
    on_ok_weaker c.add_edges.result
    (λ tasks. (meets c.args.digraph.now c.args.search.now c.args.v c.requires.search c.requires.vertex c.requires.new t _ c.set.ensures (omega (arith, c.len-place.ensures, c.args.search.now.path.ok.0))
    (tasks ∙ ap (λ ts. ts ++ map (λ (a : Arc). Follow a.vertex) (out_arcs c.args.digraph.now c.args.v)) c.in_ok-push-3.ensures.items) c.in_ok-push.ensures.items c.in_ok-push-2.ensures.items).0)
    c.add_edges.ensures

pub returns-clause-onward : goal.returns-clause-onward
returns-clause-onward c =
    let t : Search = record { stages = c.set.new.self; path = c.push.new.self; heads = c.push-2.new.self; tasks = c.add_edges.new.tasks } in
    on_ok_weaker c.add_edges.result
    (λ tasks. (meets c.args.digraph.now c.args.search.now c.args.v c.requires.search c.requires.vertex c.requires.new t _ c.set.ensures (omega (arith, c.len-place.ensures, c.args.search.now.path.ok.0))
    (tasks ∙ ap (λ ts. ts ++ map (λ (a : Arc). Follow a.vertex) (out_arcs c.args.digraph.now c.args.v)) c.in_ok-push-3.ensures.items) c.in_ok-push.ensures.items c.in_ok-push-2.ensures.items).1)
    c.add_edges.ensures
