use Rattle.graph_config.proofs.Accepted.{accepted}
use Rattle.graph_config.proofs.laws.accepted_configurations.Goals as goal

pub returns : goal.returns
returns c = accepted
