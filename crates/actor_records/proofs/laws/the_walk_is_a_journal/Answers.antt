use Rattle.actor_records.proofs.Journal.{walks_to_journal}
use Rattle.actor_records.proofs.laws.the_walk_is_a_journal.Goals as goal

pub returns : goal.returns
returns g c = λ start minds. walks_to_journal g.D.Ruled.rules start minds g.D.Ruled.finished
