use Rattle.std.proofs.Common.{◌≡◌, ℕ, ◌<◌, None, length, slice_index, slice_index_or}
use Rattle.algo_paths.specs.Search.{IsTold}
use Rattle.algo_paths.proofs.search.told.Given as goal

abbrev pub invariant-loop-weight : goal.invariant-loop-weight
invariant-loop-weight l = record {
  len : length l.found.items ≡ l.weight-index;
  each : (v : ℕ) → v < l.weight-index → IsTold (slice_index l.best v) (slice_index_or l.found.items v None);
}
