-- How many commands a script has.
use Rattle.std.proofs.Common.{◌≤◌}
use Rattle.script_read.specs.Meaning.{IsScript}
use Rattle.script_read.specs.declared.script.Script.{Script}
use Rattle.pgx_shell.specs.Texts.{command_count}

pub few_commands : (script : Script) → IsScript script → command_count script.phases ≤ 65536
few_commands script is = is.runs.commands
