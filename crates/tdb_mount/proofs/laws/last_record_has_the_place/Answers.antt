use Rattle.tdb_mount.proofs.LawLemmas.{place_other, place_placed, place_removed}
use Rattle.tdb_mount.proofs.laws.last_record_has_the_place.Goals as goal

pub returns : goal.returns
returns c = record { placed = place_placed; removed = place_removed; others = place_other }
