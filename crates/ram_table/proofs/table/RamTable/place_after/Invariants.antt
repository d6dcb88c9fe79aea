use Rattle.ram_table.proofs.table.RamTable.place_after.Given as goal

abbrev pub ghosts-first_after : goal.ghosts-first_after
ghosts-first_after g a = record { name = a.blank.name; parts = a.blank.parts }
