-- The state that a store tells if a write of the call that it is about to make fails.
use Rattle.kv_model.specs.StoreState.{StoreState}
use Rattle.kv_model.specs.declared.kv.Kv.{Ghosts}
use Rattle.secure_store.specs.declared.doubt.Asked.{Asked}
use Rattle.secure_store.specs.Asking.{operation_asked}
use Rattle.secure_store.specs.Doubts.{doubted}
use Rattle.secure_store.specs.SecureState.{state_in}

abbrev pub asked_state : {U R : Type 0} {above : Ghosts U} {below : Ghosts R} → Asked U R above below → StoreState
asked_state asked = doubted (state_in asked.store.now) asked.who (operation_asked asked.call)
