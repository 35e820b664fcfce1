use Rattle.algo_digraph.proofs.Meaning.{tables_rise, places_rise, one_position}
use Rattle.algo_digraph.proofs.laws.indexes_rise_by_positions.Goals as goal

pub returns : goal.returns
returns c = record { tables = tables_rise; places = places_rise; one = one_position }
