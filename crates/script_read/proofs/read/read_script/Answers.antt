use Rattle.script_read.proofs.Ended.{reads_script, reads_spelled}
use Rattle.script_read.proofs.First.{names_first}
use Rattle.script_read.proofs.read.read_script.Goals as goal

pub returns-clause-script : goal.returns-clause-script
returns-clause-script c = reads_script c.read_lines.result c.args.bytes.now c.requires c.read_lines.ensures

pub returns-clause-first : goal.returns-clause-first
returns-clause-first c = names_first c.read_lines.result c.args.bytes.now c.read_lines.ensures

pub returns-clause-spelled : goal.returns-clause-spelled
returns-clause-spelled c = reads_spelled c.read_lines.result c.args.bytes.now c.read_lines.ensures
