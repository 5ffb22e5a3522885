use Rattle.test_stores.proofs.tests.values.test_alone.Given as goal

abbrev pub ghosts-tests : goal.ghosts-tests
ghosts-tests a = record { name = a.blank.name; parts = a.blank.parts }
