use Rattle.call_tries.proofs.halls.client_of.Given as goal

abbrev pub ghosts-client_over : goal.ghosts-client_over
ghosts-client_over r a = record { name = a.blank.name; parts = a.blank.parts }
