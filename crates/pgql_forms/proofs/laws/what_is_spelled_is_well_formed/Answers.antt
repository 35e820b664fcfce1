use Rattle.pgql_forms.proofs.Queries.{spelled_well}
use Rattle.pgql_forms.proofs.laws.what_is_spelled_is_well_formed.Goals as goal

pub returns : goal.returns
returns c = spelled_well
