use Rattle.catalogue_state.proofs.Refusals.{refusal_stays}
use Rattle.catalogue_state.proofs.laws.refusals_leave_the_state.Goals as goal

pub returns : goal.returns
returns c = refusal_stays
