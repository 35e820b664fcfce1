use Rattle.std.proofs.Common.{◌≡◌, ◌+◌, drop}
use Rattle.csv.specs.Records.{fields_of}
use Rattle.change_feed.specs.Row.{values_of}
use Rattle.change_feed.proofs.Texts.{with_front}
use Rattle.change_feed.proofs.fields.read_values.Given as goal

abbrev pub invariant-loop-i : goal.invariant-loop-i
invariant-loop-i l = with_front l.values (values_of (drop l.i l.props) (drop (l.first + l.i) (fields_of l.fields))) ≡ values_of l.props (drop l.first (fields_of l.fields))
