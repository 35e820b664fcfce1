use Rattle.std.proofs.Common.{◌≡◌, replicate, []}
use Rattle.call_tries.proofs.callers.nothing_held.Given as goal

abbrev pub invariant-loop-place : goal.invariant-loop-place
invariant-loop-place l = l.helds ≡ replicate l._place []
