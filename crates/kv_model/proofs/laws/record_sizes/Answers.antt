use Rattle.std.proofs.Common.{refl}
use Rattle.base_core.specs.Units.{up}
use Rattle.kv_model.proofs.laws.record_sizes.Goals as goal

pub returns : goal.returns
unfolding up
returns c = record { small = refl; masters = (refl, refl, refl); room = refl; largest = refl; too_large = refl }
