use Rattle.std.proofs.Common.{take}
use Rattle.std.specs.Prelude.{Contains}
use Rattle.algo_core.specs.Peeling.{AreNumbered, IsNumbering}
use Rattle.algo_core.proofs.wave.number_in_turn.Given as goal

abbrev pub invariant-loop-v : goal.invariant-loop-v
invariant-loop-v l = record {
  turns : AreNumbered l.level l.initial.cores l.wave l.cores;
  numbering : IsNumbering (Contains (take l.v-index l.queue)) l.level l.initial.cores l.cores;
}
