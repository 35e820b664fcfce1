use Rattle.algo_digraph.proofs.Meaning.{one_distance, one_label, one_core_number, one_weight}
use Rattle.algo_digraph.proofs.laws.values_are_unique.Goals as goal

pub returns : goal.returns
returns c = record { hops = one_distance; labels = one_label; cores = one_core_number; weights = one_weight }
