use Rattle.catalogue_state.proofs.Rising.{reach_rises, reach_is_used}
use Rattle.catalogue_state.proofs.laws.the_columns_in_use_are_listed.Goals as goal

pub returns-clause-rises : goal.returns-clause-rises
returns-clause-rises c = reach_rises

pub returns-clause-used : goal.returns-clause-used
returns-clause-used c = reach_is_used
