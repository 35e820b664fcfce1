use Rattle.catalogue_state.proofs.Ids.{one_snap, one_source}
use Rattle.catalogue_state.proofs.laws.an_id_names_one_snapshot.Goals as goal

pub returns-clause-snapshot : goal.returns-clause-snapshot
returns-clause-snapshot c = one_snap

pub returns-clause-source : goal.returns-clause-source
returns-clause-source c = one_source
