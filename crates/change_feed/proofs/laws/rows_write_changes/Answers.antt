use Rattle.change_feed.proofs.Spelled.{rows_write}
use Rattle.change_feed.proofs.laws.rows_write_changes.Goals as goal

pub returns : goal.returns
returns c = rows_write
