use Rattle.turn_hall.proofs.Owns.{own_cut, own_ends}
use Rattle.turn_hall.proofs.laws.the_own_part_ends_with_the_last_own_entry.Goals as goal

pub returns-clause-ends : goal.returns-clause-ends
returns-clause-ends g c = own_ends

pub returns-clause-rest : goal.returns-clause-rest
returns-clause-rest g c = own_cut
