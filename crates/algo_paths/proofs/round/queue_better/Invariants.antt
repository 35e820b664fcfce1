use Rattle.std.proofs.Common.{◌⊎◌, ℕ, ◌+◌, ◌*◌, ◌<◌, ◌≤◌, length, take, slice_index}
use Rattle.std.specs.Prelude.{Contains, sum}
use Rattle.algo_paths.specs.Queue.{entry_of}
use Rattle.algo_paths.proofs.round.queue_better.Given as goal

abbrev pub invariant-loop-v : goal.invariant-loop-v
invariant-loop-v l = record {
  better : (v : ℕ) → v < l.v → slice_index l.new v < slice_index l.old v → Contains l.queue (entry_of l.new v);
  queued : (x : ℕ × ℕ) → Contains l.queue x → Contains l.initial.queue x ⊎ (x.1 < l.n);
  work : 2 * sum (take l.v l.new) + length l.queue ≤ 2 * sum (take l.v l.old) + length l.initial.queue;
}
