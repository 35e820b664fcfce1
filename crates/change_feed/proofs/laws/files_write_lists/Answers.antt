use Rattle.csv_records.specs.Reading.{records_of}
use Rattle.change_feed.specs.Law.{IsRow}
use Rattle.change_feed.proofs.Listed.{rows_told, rows_tell}
use Rattle.change_feed.proofs.Spelled.{row_written, row_read}
use Rattle.change_feed.proofs.laws.files_write_lists.Goals as goal

pub returns : goal.returns
returns c = λ s bytes changes is. (
  rows_told (IsRow s) s (row_written s) 1 (records_of bytes) changes,
  rows_tell (IsRow s) s (λ fields change. row_read s fields change is) 1 (records_of bytes) changes,
)
