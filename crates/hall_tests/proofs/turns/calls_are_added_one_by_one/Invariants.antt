use Rattle.hall_tests.proofs.turns.calls_are_added_one_by_one.Given as goal

abbrev pub ghosts-adds_up : goal.ghosts-adds_up
ghosts-adds_up r a = record { name = a.blank.name; parts = a.blank.parts }
