use Rattle.source_open.proofs.Opens.{inline_needs_no_file, told_missing, records_after_files}
use Rattle.source_open.proofs.laws.files_are_there_before_records_are_read.Goals as goal

pub returns-clause-inline : goal.returns-clause-inline
returns-clause-inline c = inline_needs_no_file

pub returns-clause-missing : goal.returns-clause-missing
returns-clause-missing c = told_missing

pub returns-clause-records : goal.returns-clause-records
returns-clause-records c = records_after_files
