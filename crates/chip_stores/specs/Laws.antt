-- That what a pair tells is lawful.
use Rattle.std.specs.Prelude.{Option}
use Rattle.flash_sim.specs.Laws.{chip_is_lawful}
use Rattle.flash_sim.specs.Views.{view_of}
use Rattle.flash_sim.specs.declared.chip.Chip.{Chip}
use Rattle.kv_model.specs.Kv.{IsLawful}
use Rattle.kv_model.specs.PlainStep.{plain_rules}
use Rattle.plain_store.specs.declared.plain.PlainStore.{PlainStore}
use Rattle.plain_store.specs.Stores.{Is}
use Rattle.plain_store.proofs.KeptLemmas.{kept_is_lawful}
use Rattle.sealed_pair.specs.Active.{own_of}
use Rattle.sealed_pair.specs.SecureStep.{secure_rules}
use Rattle.secure_store.specs.Lawful.{secure_is_lawful}
use Rattle.chip_stores.specs.declared.pair.SecurePair.{SecurePair}
use Rattle.chip_stores.specs.Chips.{device_in}
use Rattle.chip_stores.specs.PairViews.{told_in}
use Rattle.chip_stores.specs.Stores.{plain_told}

pub plain_is_lawful : (store : PlainStore Chip) → ∥ Is device_in store ∥₁ → IsLawful plain_rules (plain_told store)
plain_is_lawful store kept = kept_is_lawful device_in (λ chip. chip_is_lawful (view_of chip) chip.sized) store kept

pub pair_is_lawful : (pair : SecurePair) → IsLawful secure_rules (told_in pair)
pair_is_lawful pair =
    let store = pair.store in
    secure_is_lawful store.root plain_rules plain_rules (plain_told store.primary.store) (plain_told store.rollback.store)
    (plain_is_lawful store.primary.store store.primary.kept) (plain_is_lawful store.rollback.store store.rollback.kept) (own_of store.iv store.active) store.stopped
    store.above store.below store.in_doubt
