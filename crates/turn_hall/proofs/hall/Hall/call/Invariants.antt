use Rattle.turn_hall.proofs.hall.Hall.call.Given as goal

abbrev pub ghosts-call_in_turn : goal.ghosts-call_in_turn
ghosts-call_in_turn g a = record { name = a.blank.name; parts = a.blank.parts }
