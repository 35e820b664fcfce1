use Rattle.std.proofs.Common.{rules}
use Rattle.turn_hall.proofs.Steps.{draws}
use Rattle.turn_hall.proofs.hall.Hall.draw_ticket.Goals as goal

pub fetch_add-requires : goal.fetch_add-requires
fetch_add-requires g c = (search rules, search rules, draws _ _ _ _ _ _ _ _ c.requires.ticket)
