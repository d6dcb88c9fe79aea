-- What contracts see of a pair, and of what it is mounted from.
use Rattle.std.specs.Prelude.{ℕ}
use Rattle.flash_sim.specs.Views.{view_of}
use Rattle.kv_model.specs.Kv.{KvState}
use Rattle.secure_store.specs.SecureState.{state_in}
use Rattle.chip_stores.specs.declared.pair.PairParts.{PairParts}
use Rattle.chip_stores.specs.declared.pair.SecurePair.{SecurePair}
use Rattle.chip_stores.specs.Pairs.{ChipPair, PairSetup}

abbrev pub told_in : SecurePair → KvState
told_in pair = state_in pair.store

abbrev pub chips_in : SecurePair → ChipPair
chips_in pair = record {
  primary = view_of pair.store.primary.store.log.flash;
  rollback = view_of pair.store.rollback.store.log.flash;
}

abbrev pub chips_of : PairParts → ChipPair
chips_of parts = record { primary = view_of parts.primary; rollback = view_of parts.rollback }

abbrev pub setup_of : PairParts → ℕ → PairSetup
setup_of parts hash_bits = record { root = parts.root; number = parts.number; hash_bits = hash_bits }
