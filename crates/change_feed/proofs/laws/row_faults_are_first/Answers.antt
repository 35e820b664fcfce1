use Rattle.change_feed.proofs.Listed.{faults_first}
use Rattle.change_feed.proofs.laws.row_faults_are_first.Goals as goal

pub returns : goal.returns
returns c = faults_first
