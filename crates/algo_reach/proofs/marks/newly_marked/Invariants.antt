use Rattle.algo_reach.proofs.Marking.{IsNewUpTo}
use Rattle.algo_reach.proofs.marks.newly_marked.Given as goal

abbrev pub invariant-loop-v : goal.invariant-loop-v
invariant-loop-v l = IsNewUpTo l.old l.new l.v l.found
