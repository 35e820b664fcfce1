use Rattle.std.proofs.Common.{arith, ap, length}
use Rattle.change_feed.proofs.Named.{props_few}
use Rattle.change_feed.proofs.row.read_row.Goals as goal

pub read_change-requires-clause-few : goal.read_change-requires-clause-few
read_change-requires-clause-few c = omega (arith, ap length c.props_of-props.ensures, props_few c.args.schema.now c.in_ok-verb.verb c.in_ok-table.table c.sound.ensures)
