use Rattle.tdb_mount.proofs.lookup.look_up.Given as goal

abbrev pub ghosts-look_up_by : goal.ghosts-look_up_by
ghosts-look_up_by g a = record { name = a.blank.name; parts = a.blank.parts }
