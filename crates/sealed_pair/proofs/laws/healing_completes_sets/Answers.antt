use Rattle.std.proofs.Common.{refl}
use Rattle.sealed_pair.proofs.HealLemmas.{heal_twice, heals_key, heals_whole, used_healed}
use Rattle.sealed_pair.proofs.laws.healing_completes_sets.Goals as goal

pub returns : goal.returns
returns c = record { primary = λ secure maps. refl; each = heals_key; whole = heals_whole; used = used_healed; twice = heal_twice }
