use Rattle.std.proofs.Common.{length, take, drop}
use Rattle.std.specs.Prelude.{sum_by}
use Rattle.std.specs.List.{AllByRecursion}
use Rattle.script_read.specs.Phases.{IsPhase, phase_commands}
use Rattle.script_run.specs.Leaves.{AreAtRest, AllRan}
use Rattle.script_run.proofs.run.run_phases.Given as goal

abbrev pub invariant-loop-blocks : goal.invariant-loop-blocks
invariant-loop-blocks g l = record {
  ran : AllRan (take l.blocks-index l.phases) l.fn.alone l.fn.members l.alone l.members;
  rest : AreAtRest l.alone l.members (sum_by phase_commands (drop l.blocks-index l.phases));
  phases : AllByRecursion (λ blocks. IsPhase (length l.fn.members) blocks) (drop l.blocks-index l.phases);
}
