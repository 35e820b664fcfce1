use Rattle.std.proofs.Common.{◌≢◌, Some, All}
use Rattle.algo_reach.specs.Marks.{mark_of}
use Rattle.algo_reach.proofs.marks.has_source.Given as goal

abbrev pub invariant-loop-arc : goal.invariant-loop-arc
invariant-loop-arc l = All (λ a. mark_of l.marks a.vertex ≢ Some l.mark) l.yielded
