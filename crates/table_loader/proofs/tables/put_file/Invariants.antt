use Rattle.std.proofs.Common.{◌≡◌, ◌+◌, ◌≤◌, length, map}
use Rattle.table_loader.specs.Put.{put_all}
use Rattle.csv_records.specs.Reading.{IsReading, records_left}
use Rattle.table_loader.specs.Tables.{file_change, put_file}
use Rattle.table_loader.proofs.tables.put_file.Given as goal

abbrev pub invariant-records : goal.invariant-records
invariant-records l = record {
  reading : IsReading l.reader;
  few : l.row + length (records_left l.reader) ≤ length l.fn.bytes + 1;
  goes_on : put_all l.file (l.row + 1) l.graph (map (file_change l.schema l.file) (records_left l.reader)) ≡ put_file l.schema l.file l.fn.graph l.fn.bytes;
}

abbrev pub decreases-records : goal.decreases-records
decreases-records l = length (records_left l.reader)
