use Rattle.ram_table.proofs.IndexLemmas.{one_entry, one_place}
use Rattle.ram_table.proofs.laws.places_are_unique.Goals as goal

pub returns-clause-place : goal.returns-clause-place
returns-clause-place c bits keys = one_place bits keys

pub returns-clause-entry : goal.returns-clause-entry
returns-clause-entry c bits keys = one_entry bits keys
