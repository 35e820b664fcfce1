use Rattle.table_loader.proofs.First.{first_line}
use Rattle.table_loader.proofs.laws.inline_faults_are_first.Goals as goal

pub returns : goal.returns
returns c = first_line
