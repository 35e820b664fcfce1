use Rattle.table_tries.proofs.graphs.graph_or_fault.Given as goal

abbrev pub ghosts-shown_rows : goal.ghosts-shown_rows
ghosts-shown_rows r a = record { name = a.blank.name; parts = a.blank.parts }
