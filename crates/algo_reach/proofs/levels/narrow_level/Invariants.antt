use Rattle.std.proofs.Common.{◌≢◌, ℕ, ◌+◌, ◌<◌, None, [], slice_index}
use Rattle.algo_digraph.specs.Digraph.{Goes}
use Rattle.algo_reach.specs.Marks.{mark_of, HasSource, IsMarking}
use Rattle.algo_reach.proofs.levels.narrow_level.Given as goal

abbrev pub invariant-loop-v : goal.invariant-loop-v
invariant-loop-v l = record {
  marking : IsMarking (HasSource l.digraph l.initial.distances l.level) (l.level + 1) l.initial.distances l.distances [] l.next;
  sofar : (k e w : ℕ) → k < l.v-index → Goes l.digraph e (slice_index l.frontier k) w → mark_of l.distances w ≢ None;
}
