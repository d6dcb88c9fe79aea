-- What a store can be asked to do, but for a mount. A caller of a store can begin a remove and finish it later, which
-- no line of a script and no entry of a history does.
use Rattle.std.specs.Prelude.{ℕ, List, Option, Some, None}
use Rattle.kv_model.specs.declared.call.Call.{Call}
use Rattle.kv_model.specs.declared.call.Call.TheVariants as call

pub data Operation : Type 0 where
  Get : List ℕ → Operation
  Part : List ℕ → ℕ → ℕ → Operation
  Info : List ℕ → Operation
  Set : List ℕ → List ℕ → ℕ → Operation
  Remove : List ℕ → Operation
  RemoveStart : List ℕ → Operation
  Start : List ℕ → ℕ → ℕ → Operation
  Add : List ℕ → Operation
  Finish : Operation
  Abort : Operation
  OpenIterator : ℕ → List ℕ → Operation
  Next : ℕ → Operation
  CloseIterator : ℕ → Operation
  Reset : Operation

-- what a call asks a store, where it is no mount
abbrev pub operation_of : Call → Option Operation
operation_of (call.Get key) = Some (Get key)
operation_of (call.Part key offset count) = Some (Part key offset count)
operation_of (call.Info key) = Some (Info key)
operation_of (call.Set key value flags) = Some (Set key value flags.bits)
operation_of (call.Remove key) = Some (Remove key)
operation_of (call.Start key size flags) = Some (Start key size flags.bits)
operation_of (call.Add value) = Some (Add value)
operation_of call.Finish = Some Finish
operation_of call.Abort = Some Abort
operation_of (call.IterOpen n prefix) = Some (OpenIterator n prefix)
operation_of (call.Next n) = Some (Next n)
operation_of (call.IterClose n) = Some (CloseIterator n)
operation_of call.Reset = Some Reset
operation_of call.Mount = None
