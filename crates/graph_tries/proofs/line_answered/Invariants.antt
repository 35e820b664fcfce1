use Rattle.graph_tries.proofs.line_answered.Given as goal

abbrev pub ghosts-case_answered : goal.ghosts-case_answered
ghosts-case_answered r a = record { name = a.blank.name; parts = a.blank.parts }
