use Rattle.std.proofs.Common.{rules}
use Rattle.turn_hall.proofs.Seats.{tells}
use Rattle.turn_hall.proofs.hall.Hall.tell_join.Goals as goal

pub load-requires : goal.load-requires
load-requires g c = (search rules, search rules, tells _ _ _ _ _ _ _ _ _ (search rules))
