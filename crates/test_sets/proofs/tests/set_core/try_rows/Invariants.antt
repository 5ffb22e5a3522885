use Rattle.test_sets.proofs.tests.set_core.try_rows.Given as goal

abbrev pub ghosts-go_so_in : goal.ghosts-go_so_in
ghosts-go_so_in a = record { name = a.blank.name; parts = a.blank.parts }
