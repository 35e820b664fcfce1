use Rattle.std.proofs.Common.{◌≡◌, ◌≢◌, ℕ, ◌<◌, []}
use Rattle.algo_rank.specs.declared.search.Stage.TheVariants.{Unseen}
use Rattle.algo_rank.specs.Search.{stage_of, IsSearch}
use Rattle.algo_rank.proofs.strong.digraph_strong_labels.Given as goal

abbrev pub invariant-loop-v : goal.invariant-loop-v
invariant-loop-v l = record {
  search : IsSearch l.digraph l.search;
  tasks : l.search.tasks.items ≡ [];
  met : (u : ℕ) → u < l.v → stage_of l.search.stages u ≢ Unseen;
}
