use Rattle.std.proofs.Common.{◌≡◌, ℕ, ◌<◌, length, slice_index}
use Rattle.algo_rank.specs.declared.search.Stage.TheVariants.{Closed}
use Rattle.algo_rank.specs.Search.{stage_of}
use Rattle.algo_rank.proofs.strong.labels_in.Given as goal

abbrev pub invariant-loop-stage : goal.invariant-loop-stage
invariant-loop-stage l = record {
  long : length l.labels ≡ l.stage-index;
  each : (v k : ℕ) → v < l.stage-index → stage_of l.stages v ≡ Closed k → slice_index l.labels v ≡ k;
}
