use Rattle.table_loader.proofs.Causes.{record_causes, line_causes, line_faults}
use Rattle.table_loader.proofs.laws.rows_have_three_causes.Goals as goal

pub returns : goal.returns
returns c = record { records = record_causes; lines = line_causes; line_faults = line_faults }
