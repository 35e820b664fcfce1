use Rattle.turn_hall.proofs.hall.Hall.split.Given as goal

abbrev pub ghosts-split_seat : goal.ghosts-split_seat
ghosts-split_seat g a = record { who = a.who; calls = a.calls }
