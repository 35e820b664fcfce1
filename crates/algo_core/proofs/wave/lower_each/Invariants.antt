use Rattle.std.proofs.Common.{take}
use Rattle.algo_core.specs.Peeling.{IsLowering}
use Rattle.algo_core.proofs.wave.lower_each.Given as goal

abbrev pub invariant-loop-w : goal.invariant-loop-w
invariant-loop-w l = IsLowering l.level (take l.w-index l.listed) l.initial.ends l.ends l.initial.queue.items l.queue.items
