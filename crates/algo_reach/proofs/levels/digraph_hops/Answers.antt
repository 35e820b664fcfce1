use Rattle.std.proofs.Common.{◌≡◌, ◌<◌, ◌∙◌, ◌++◌, ◌∷◌, [], ap, sym, Some, None, length, set, replicate, arith}
use Rattle.std.proofs.lemmas.Bool.{false≢true}
use Rattle.algo_reach.proofs.Marking.{some_item}
use Rattle.algo_reach.proofs.Walking.{opening_len, opening_known, opening_here, opening_all, count_le, level_known, level_here, level_all, all_done}
use Rattle.algo_reach.proofs.levels.digraph_hops.Goals as goal

pub levels-init : goal.levels-init
levels-init g c =
    let digraph = c.args.digraph.now in
    let n = digraph.vertices in
    let from = c.args.from in
    let seen = c.set.new.self in
    let is : seen ≡ set (replicate n None) from (Some 0) = c.set.ensures ∙ ap (λ l. set l from (Some 0)) (c.in_ok-distances.ensures ∙ ap (λ k. replicate k None) c.vertex_count.ensures.count) in
    let one : c.push.new.self ≡ from ∷ [] = c.in_ok-push.ensures.ok ∙ ap (λ l. l ++ from ∷ []) c.new-frontier.ensures in
    let long : length seen ≡ n = ap length is ∙ opening_len n from in
    rw one (record {
      long = long;
      known = opening_known digraph from c.requires.from seen is;
      here = opening_here n from c.requires.from seen is;
      all = opening_all n from c.requires.from seen is;
      room = omega (arith, count_le seen, long);
    })

pub levels-preserved : goal.levels-preserved
levels-preserved g c =
    let digraph = c.args.digraph.now in
    let inv = c.levels.invariant in
    let old = c.levels.distances in
    let front = c.levels.frontier in
    let closed = c.vertex_count.ensures.closed in
    let marking = c.in_ok-frontier.ensures.marking in
    let all = rw c.as_slice.ensures at c.in_ok-frontier.ensures.all in
    let some : 0 < length front = some_item front (λ e. false≢true (sym c.levels-test.true ∙ c.is_empty.ensures.1 e)) in
    record {
      long = marking.long ∙ inv.long;
      known = level_known digraph closed c.args.from c.levels.level old inv.known front c.in_ok-frontier.frontier c.next_level.new.distances marking inv.all all;
      here = level_here digraph closed c.args.from c.levels.level old inv.known front c.in_ok-frontier.frontier c.next_level.new.distances marking inv.all all;
      all = level_all digraph closed c.args.from c.levels.level old inv.known front c.in_ok-frontier.frontier c.next_level.new.distances marking inv.all all inv.long;
      room = omega (arith, inv.room, marking.count, some);
    }

pub returns-clause-each : goal.returns-clause-each
returns-clause-each g c =
    let inv = c.levels.invariant in
    let empty : c.levels.frontier ≡ [] = c.is_empty.ensures.0 c.levels-test.false in
    rw c.in_ok-found.ensures (all_done c.args.digraph.now c.vertex_count.ensures.closed c.args.from c.levels.level c.levels.distances inv.known
    (λ v lt at. let h = inv.all v at in omega (arith, h.1, ap length empty)) c.requires.from)
