use Rattle.script_run.proofs.Running.{cut}
use Rattle.script_run.proofs.laws.calls_are_cut_as_blocks.Goals as goal

pub returns : goal.returns
returns c = cut
