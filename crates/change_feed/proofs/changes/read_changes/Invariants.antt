use Rattle.std.proofs.Common.{◌≡◌, ◌+◌, ◌≤◌, length}
use Rattle.change_feed.specs.Changes.{changes_from, changes_of}
use Rattle.csv_records.specs.Reading.{IsReading, records_left}
use Rattle.change_feed.proofs.Feeding.{behind}
use Rattle.change_feed.proofs.changes.read_changes.Given as goal

abbrev pub invariant-records : goal.invariant-records
invariant-records l = record {
  reading : IsReading l.reader;
  few : l.row + length (records_left l.reader) ≤ length l.fn.bytes + 1;
  goes_on : behind l.changes (changes_from (l.row + 1) l.schema (records_left l.reader)) ≡ changes_of l.schema l.fn.bytes;
}

abbrev pub decreases-records : goal.decreases-records
decreases-records l = length (records_left l.reader)
