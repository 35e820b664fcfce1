use Rattle.std.proofs.Common.{◌≡◌, ℕ, ◌+◌, ◌≤◌, Some, length, min}
use Rattle.std.specs.Prelude.{Contains, sum_by}
use Rattle.algo_reach.specs.Marks.{mark_of, unmarked}
use Rattle.algo_reach.proofs.Walking.{AllKnown}
use Rattle.algo_reach.proofs.levels.digraph_hops.Given as goal

abbrev pub invariant-levels : goal.invariant-levels
invariant-levels g l = record {
  long : length l.distances ≡ l.digraph.vertices;
  known : AllKnown l.digraph l.from l.level l.distances;
  here : (v : ℕ) → Contains l.frontier v → mark_of l.distances v ≡ Some l.level;
  all : (v : ℕ) → mark_of l.distances v ≡ Some l.level → Contains l.frontier v;
  room : l.level + sum_by unmarked l.distances + min 1 (length l.frontier) ≤ l.digraph.vertices + 1;
}

abbrev pub decreases-levels : goal.decreases-levels
decreases-levels g l = sum_by unmarked l.distances + min 1 (length l.frontier)
