use Rattle.std.proofs.Common.{take}
use Rattle.std.specs.Prelude.{Contains}
use Rattle.algo_core.specs.Peeling.{IsNumbering}
use Rattle.algo_core.proofs.cores.number_all.Given as goal

abbrev pub invariant-loop-v : goal.invariant-loop-v
invariant-loop-v l = IsNumbering (Contains (take l.v-index l.queue)) l.level l.initial.cores l.cores
