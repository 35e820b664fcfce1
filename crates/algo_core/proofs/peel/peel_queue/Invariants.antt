use Rattle.std.proofs.Common.{◌≡◌, ◌≢◌, ◌⊎◌, ℕ, ◌+◌, ◌*◌, ◌<◌, ◌≤◌, Some, None, length, slice_index}
use Rattle.std.specs.Prelude.{Contains, sum}
use Rattle.algo_core.specs.Peeling.{core_of, IsPeeling}
use Rattle.algo_core.proofs.peel.peel_queue.Given as goal

abbrev pub invariant-queue : goal.invariant-queue
invariant-queue g l = record {
  peeling : IsPeeling l.digraph l.level l.cores l.ends;
  queued : (v : ℕ) → Contains l.queue.items v → (v < l.digraph.vertices) × (slice_index l.ends v ≤ l.level);
  kept : (v k : ℕ) → core_of l.initial.cores v ≡ Some k → core_of l.cores v ≡ Some k;
  done : (v : ℕ) → Contains l.initial.queue.items v → Contains l.queue.items v ⊎ (core_of l.cores v ≢ None);
}

abbrev pub decreases-queue : goal.decreases-queue
decreases-queue g l = 2 * sum l.ends + length l.queue.items
