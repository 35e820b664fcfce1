use Rattle.std.proofs.Common.{◌≡◌, take}
use Rattle.pgx_shell.specs.Texts.{command_count}
use Rattle.pgx_shell.proofs.counts.command_count.Given as goal

abbrev pub invariant-loop-blocks : goal.invariant-loop-blocks
invariant-loop-blocks l = l.count ≡ command_count (take l.blocks-index l.phases)
