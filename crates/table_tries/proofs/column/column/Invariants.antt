use Rattle.table_tries.proofs.column.column.Given as goal

abbrev pub ghosts-column_of : goal.ghosts-column_of
ghosts-column_of r a = record { name = a.blank.name; parts = a.blank.parts }
