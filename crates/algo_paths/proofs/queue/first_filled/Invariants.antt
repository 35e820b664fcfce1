use Rattle.std.proofs.Common.{◌≡◌, [], take}
use Rattle.algo_paths.specs.Queue.{entries}
use Rattle.algo_paths.proofs.queue.first_filled.Given as goal

abbrev pub invariant-loop-place : goal.invariant-loop-place
invariant-loop-place l = entries (take l.place l.buckets) ≡ []
