use Rattle.actor_records.proofs.Phases.{phases_apart}
use Rattle.actor_records.proofs.laws.phases_are_apart.Goals as goal

pub returns : goal.returns
returns g c = phases_apart
