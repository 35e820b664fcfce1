use Rattle.std.proofs.Common.{◌∙◌, ◌+◌, ◌<◌, sym, arith}
use Rattle.algo_reach.specs.Marks.{mark_of, HasSource}
use Rattle.algo_reach.proofs.Marking.{marking_round, pulled_found}
use Rattle.algo_reach.proofs.levels.wide_level.Goals as goal

pub returns-clause-marking : goal.returns-clause-marking
returns-clause-marking g c =
    let pulled = c.in_ok-next.ensures.each in
    let found = c.in_ok-found.ensures in
    marking_round (HasSource c.args.digraph.now c.args.distances.now c.args.level) (c.args.level + 1) c.args.distances.now c.in_ok-next.next c.in_ok-found.found (c.in_ok-next.ensures.len ∙ sym c.requires.long)
    (λ v lt. pulled v (omega (arith, lt, c.requires.long))) found.listed found.has found.count

pub returns-clause-all : goal.returns-clause-all
returns-clause-all g c = λ e u w front goes.
    let pulled = c.in_ok-next.ensures.each in
    let lt : w < c.args.digraph.now.vertices = (c.vertex_count.ensures.closed e u w goes).1 in
    pulled_found (HasSource c.args.digraph.now c.args.distances.now c.args.level) (c.args.level + 1) c.args.distances.now c.in_ok-next.next c.in_ok-found.found (c.in_ok-next.ensures.len ∙ sym c.requires.long)
    (λ v lt. pulled v (omega (arith, lt, c.requires.long))) (HasSource c.args.digraph.now c.args.distances.now c.args.level w) (mark_of c.args.distances.now w) (mark_of c.in_ok-next.next w) (pulled w lt) (e, u, goes, c.requires.here u front)
