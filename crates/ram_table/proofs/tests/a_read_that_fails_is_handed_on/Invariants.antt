use Rattle.ram_table.proofs.tests.a_read_that_fails_is_handed_on.Given as goal

abbrev pub ghosts-find_in_one : goal.ghosts-find_in_one
ghosts-find_in_one g a = record { name = a.blank.name; parts = a.blank.parts }
