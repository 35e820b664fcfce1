use Rattle.source_open.proofs.open.open_sources.Given as goal

abbrev pub ghosts-open_counted : goal.ghosts-open_counted
ghosts-open_counted r a = record { name = a.blank.name; parts = a.blank.parts }
