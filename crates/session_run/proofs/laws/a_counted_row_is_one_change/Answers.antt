use Rattle.session_run.proofs.Rows.{counted_row, refused_row}
use Rattle.session_run.proofs.laws.a_counted_row_is_one_change.Goals as goal

pub returns-clause-counted : goal.returns-clause-counted
returns-clause-counted c = counted_row

pub returns-clause-refused : goal.returns-clause-refused
returns-clause-refused c = refused_row
