use Rattle.std.proofs.Common.{◌≡◌, ◌+◌, drop}
use Rattle.csv.specs.Records.{fields_of}
use Rattle.table_loader.specs.Record.{values_of}
use Rattle.table_loader.proofs.Fields.{with_front}
use Rattle.table_loader.proofs.record.read_values.Given as goal

abbrev pub invariant-loop-i : goal.invariant-loop-i
invariant-loop-i l = with_front l.values (values_of (drop l.i l.props) (drop (l.first + l.i) (fields_of l.fields))) ≡ values_of l.props (drop l.first (fields_of l.fields))
