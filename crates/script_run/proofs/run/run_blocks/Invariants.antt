use Rattle.std.proofs.Common.{length, take, drop}
use Rattle.std.specs.List.{AllByRecursion}
use Rattle.script_read.specs.Phases.{IsActor, phase_commands}
use Rattle.script_run.specs.Leaves.{AreAtRest, BlocksRan}
use Rattle.script_run.proofs.run.run_blocks.Given as goal

abbrev pub invariant-loop-block : goal.invariant-loop-block
invariant-loop-block g l = record {
  ran : BlocksRan (take l.block-index l.blocks) l.fn.alone l.fn.members l.alone l.members;
  rest : AreAtRest l.alone l.members (phase_commands (drop l.block-index l.blocks));
  known : AllByRecursion (λ b. IsActor (length l.fn.members) b.actor) (drop l.block-index l.blocks);
}
