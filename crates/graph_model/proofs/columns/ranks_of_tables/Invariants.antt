use Rattle.graph_model.specs.Stored.{seats_at}
use Rattle.graph_model.specs.Parts.{AreEach, AreRanks}
use Rattle.graph_model.proofs.columns.ranks_of_tables.Given as goal

abbrev pub invariant-loop-table : goal.invariant-loop-table
invariant-loop-table l = AreEach (λ t r. AreRanks (seats_at l.tables t) r) l.table-index l.ranks
