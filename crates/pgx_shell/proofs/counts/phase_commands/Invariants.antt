use Rattle.std.proofs.Common.{◌≡◌, take}
use Rattle.script_read.specs.Phases.{phase_commands}
use Rattle.pgx_shell.proofs.counts.phase_commands.Given as goal

abbrev pub invariant-loop-block : goal.invariant-loop-block
invariant-loop-block l = l.count ≡ phase_commands (take l.block-index l.blocks)
