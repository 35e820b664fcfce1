use Rattle.std.proofs.Common.{◌≡◌, ◌+◌, length}
use Rattle.table_loader.specs.Tables.{put_files, tables_of}
use Rattle.table_loader.proofs.tables.read_tables.Given as goal

abbrev pub invariant-loop-bytes : goal.invariant-loop-bytes
invariant-loop-bytes l = record {
  goes_on : put_files l.config.schema l.file l.graph l.bytes-iterator.rest.items ≡ tables_of l.config.schema l.fn.files;
  counted : l.file + length l.bytes-iterator.rest.items ≡ length l.fn.files;
}
