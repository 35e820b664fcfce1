use Rattle.std.proofs.Common.{◌≡◌, take}
use Rattle.algo_core.specs.Peeling.{falling}
use Rattle.algo_core.proofs.wave.list_falling.Given as goal

abbrev pub invariant-loop-v : goal.invariant-loop-v
invariant-loop-v l = l.list ≡ falling l.digraph l.ends l.level (take l.v-index l.part)
