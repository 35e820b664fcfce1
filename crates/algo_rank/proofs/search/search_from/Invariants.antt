use Rattle.std.proofs.Common.{◌≢◌, ℕ}
use Rattle.algo_rank.specs.declared.search.Stage.TheVariants.{Unseen}
use Rattle.algo_rank.specs.Search.{stage_of, work_of, IsSearch}
use Rattle.algo_rank.proofs.search.search_from.Given as goal

abbrev pub invariant-tasks : goal.invariant-tasks
invariant-tasks l = record {
  search : IsSearch l.digraph l.search;
  kept : (u : ℕ) → stage_of l.initial.search.stages u ≢ Unseen → stage_of l.search.stages u ≢ Unseen;
}

abbrev pub decreases-tasks : goal.decreases-tasks
decreases-tasks l = work_of l.digraph l.search
