use Rattle.catalogue_state.proofs.Own.{held_stays, held_stays_along}
use Rattle.catalogue_state.proofs.laws.held_changes_by_its_own_calls.Goals as goal

pub returns-clause-one : goal.returns-clause-one
returns-clause-one c = λ m who other ask differ. held_stays who other differ m ask

pub returns-clause-all : goal.returns-clause-all
returns-clause-all c = held_stays_along
