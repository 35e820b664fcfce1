use Rattle.std.proofs.Common.{◌≡◌, ℕ}
use Rattle.std.specs.Prelude.{Contains}
use Rattle.algo_paths.proofs.queue.least.Given as goal

abbrev pub invariant-loop-entry : goal.invariant-loop-entry
invariant-loop-entry l = (x : ℕ × ℕ) × Contains l.bucket x × (x.0 ≡ l.least)
