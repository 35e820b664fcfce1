use Rattle.table_loader.proofs.Standing.{tables_stand}
use Rattle.table_loader.proofs.laws.tables_stand_for_a_graph.Goals as goal

pub returns : goal.returns
returns c = tables_stand
