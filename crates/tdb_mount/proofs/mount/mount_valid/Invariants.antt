use Rattle.tdb_mount.proofs.mount.mount_valid.Given as goal

abbrev pub ghosts-walk : goal.ghosts-walk
ghosts-walk g a = record { bits = a.hash_bits }
