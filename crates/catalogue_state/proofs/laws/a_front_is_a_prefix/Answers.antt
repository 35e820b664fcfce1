use Rattle.catalogue_state.proofs.Prefixes.{all_prefixes}
use Rattle.catalogue_state.proofs.laws.a_front_is_a_prefix.Goals as goal

pub returns : goal.returns
returns c = all_prefixes
