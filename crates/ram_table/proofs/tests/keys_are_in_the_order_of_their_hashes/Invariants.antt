use Rattle.ram_table.proofs.tests.keys_are_in_the_order_of_their_hashes.Given as goal

abbrev pub ghosts-places_among : goal.ghosts-places_among
ghosts-places_among g a = record { name = a.blank.name; parts = a.blank.parts }
