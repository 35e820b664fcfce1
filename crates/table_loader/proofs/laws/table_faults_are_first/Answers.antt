use Rattle.table_loader.proofs.First.{first_record}
use Rattle.table_loader.proofs.laws.table_faults_are_first.Goals as goal

pub returns : goal.returns
returns c = first_record
