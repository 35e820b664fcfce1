use Rattle.std.proofs.Common.{map}
use Rattle.algo_core.specs.Peeling.{IsLowering}
use Rattle.algo_core.proofs.peel.lower_sources.Given as goal

abbrev pub invariant-loop-arc : goal.invariant-loop-arc
invariant-loop-arc l = IsLowering l.level (map (λ a. a.vertex) l.yielded) l.initial.ends l.ends l.initial.queue.items l.queue.items
