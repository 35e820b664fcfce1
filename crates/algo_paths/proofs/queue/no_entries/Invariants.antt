use Rattle.std.proofs.Common.{◌≡◌, [], replicate}
use Rattle.algo_paths.proofs.queue.no_entries.Given as goal

abbrev pub invariant-loop-place : goal.invariant-loop-place
invariant-loop-place l = l.buckets ≡ replicate l._place []
