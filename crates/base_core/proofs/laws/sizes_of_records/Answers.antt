use Rattle.std.proofs.Common.{refl}
use Rattle.base_core.specs.Units.{up}
use Rattle.base_core.proofs.laws.sizes_of_records.Goals as goal

pub returns : goal.returns
unfolding up
returns c = record { small = refl; masters = (refl, refl, refl); largest = refl; larger = refl }
