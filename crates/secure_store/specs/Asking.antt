-- What a store is asked to do, as an operation.
use Rattle.kv_model.specs.Operations as operation
use Rattle.kv_model.specs.Operations.{Operation}
use Rattle.secure_store.specs.declared.asking.Asking.{Asking}
use Rattle.secure_store.specs.declared.asking.Asking.TheVariants.{Add, Finish, Remove, RemoveStart, Reset, Set, Start}

abbrev pub operation_asked : Asking → Operation
operation_asked (Set key value flags) = operation.Set key.now value.now flags.bits
operation_asked (Remove key) = operation.Remove key.now
operation_asked (RemoveStart key) = operation.RemoveStart key.now
operation_asked (Start key size flags) = operation.Start key.now size flags.bits
operation_asked (Add value) = operation.Add value.now
operation_asked Finish = operation.Finish
operation_asked Reset = operation.Reset
