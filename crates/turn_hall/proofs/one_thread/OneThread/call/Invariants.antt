use Rattle.turn_hall.proofs.one_thread.OneThread.call.Given as goal

abbrev pub ghosts-call_by_counter : goal.ghosts-call_by_counter
ghosts-call_by_counter g a = record { name = a.blank.name; parts = a.blank.parts }
