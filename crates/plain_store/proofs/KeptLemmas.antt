-- What a store is of which only some proof of its invariant is known.
use Rattle.flash_core.specs.State.{FlashState, IsLawful as IsLawfulDevice}
use Rattle.kv_model.specs.Kv.{IsLawful}
use Rattle.kv_model.specs.PlainStep.{plain_rules}
use Rattle.tdb_read.specs.Views.{view_of}
use Rattle.plain_store.specs.Stores.{Is, noted_in, state_of, store_view}
use Rattle.plain_store.specs.declared.plain.PlainStore.{PlainStore}
use Rattle.plain_store.proofs.MountedLemmas.{store_is_lawful}
use Rattle.plain_store.proofs.RestoredLemmas.{is_kept}

pub kept_is_lawful : {F : Type 0} (state : F → FlashState) → ((device : F) → IsLawfulDevice (state device))
    → (store : PlainStore F) → ∥ Is state store ∥₁ → IsLawful plain_rules (state_of (store_view state store))
kept_is_lawful state lawful store some =
    store_is_lawful (view_of state store.log) store.active (noted_in store.stopped) (lawful store.log.flash) (is_kept state store some)
