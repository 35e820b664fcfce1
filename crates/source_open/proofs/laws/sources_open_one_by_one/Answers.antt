use Rattle.source_open.proofs.Opens.{open_each, fault_at_first}
use Rattle.source_open.proofs.laws.sources_open_one_by_one.Goals as goal

pub returns-clause-each : goal.returns-clause-each
returns-clause-each c = open_each

pub returns-clause-first : goal.returns-clause-first
returns-clause-first c = fault_at_first
