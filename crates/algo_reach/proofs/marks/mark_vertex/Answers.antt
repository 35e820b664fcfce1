use Rattle.algo_reach.proofs.Marking.{marking_one}
use Rattle.algo_reach.proofs.marks.mark_vertex.Goals as goal

pub returns-in_ok-push-clause-marking : goal.returns-in_ok-push-clause-marking
returns-in_ok-push-clause-marking c =
    let free = c.is_free.ensures.free.0 c.if-is_free.true in
    rw (c.set.ensures, c.in_ok-push.ensures.ok) (marking_one c.args.mark c.args.v c.args.marks.now c.args.found.now c.requires.vertex free)
