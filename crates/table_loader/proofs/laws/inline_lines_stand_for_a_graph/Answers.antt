use Rattle.table_loader.proofs.Lines.{lines_stand}
use Rattle.table_loader.proofs.laws.inline_lines_stand_for_a_graph.Goals as goal

pub returns : goal.returns
returns c = lines_stand
