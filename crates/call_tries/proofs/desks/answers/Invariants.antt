use Rattle.call_tries.proofs.desks.answers.Given as goal

abbrev pub ghosts-callers_over : goal.ghosts-callers_over
ghosts-callers_over r a = record { name = a.blank.name; parts = a.blank.parts }
