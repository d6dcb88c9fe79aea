-- The state of a secure store.
use Rattle.kv_model.specs.Kv.{KvState}
use Rattle.kv_model.specs.declared.kv.Kv.{Ghosts}
use Rattle.secure_store.specs.declared.store.SecureStore.{SecureStore}
use Rattle.sealed_pair.specs.Active.{own_of}
use Rattle.secure_store.specs.Doubts.{told_by}

abbrev pub state_in : {U R : Type 0} {above : Ghosts U} {below : Ghosts R} → SecureStore U R above below → KvState
state_in {above = above} {below = below} store =
    told_by store.root (own_of store.iv store.active) store.stopped (above.state store.primary) (below.state store.rollback)
