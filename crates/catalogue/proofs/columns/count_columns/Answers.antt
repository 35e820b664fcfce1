use Rattle.catalogue.proofs.Uses.{raised_below}
use Rattle.catalogue.proofs.columns.count_columns.Goals as goal

pub add_parts-requires-clause-greatest : goal.add_parts-requires-clause-greatest
add_parts-requires-clause-greatest c = rw c.retain.ensures.rows (raised_below c.args.first c.args.kept.now c.args.registry.now.rows c.requires.greatest)
