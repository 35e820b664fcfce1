use Rattle.pgql_forms.proofs.Queries.{parsed_well}
use Rattle.pgql_forms.proofs.laws.what_is_parsed_is_well_formed.Goals as goal

pub returns : goal.returns
returns c = parsed_well
