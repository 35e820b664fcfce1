use Rattle.graph_config.proofs.Located.{first_faults, accepted_have_the_form}
use Rattle.graph_config.proofs.laws.the_first_fault.Goals as goal

pub returns : goal.returns
returns c = record { first = first_faults; accepted = accepted_have_the_form }
