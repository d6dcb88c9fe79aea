use Rattle.kv_bench.proofs.lookup.lookup_total.Given as goal

abbrev pub ghosts-total_by : goal.ghosts-total_by
ghosts-total_by a = record { name = a.blank.name; parts = a.blank.parts }
