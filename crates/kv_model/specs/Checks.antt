-- The refusals of a call in their order, with the places at which a device may fail.
use Rattle.std.specs.Prelude.{Bool, true, false, List, [], ◌∷◌, Option, Some, None, if◌then◌else◌}
use Rattle.kv_model.specs.declared.error.KvError.{KvError}

pub data Check : Type 0 where
  -- the call is refused so where the test holds
  Refuses : Bool → KvError → Check
  -- from here on the device is read, and a read may fail
  Reads : Check
  -- from here on the device is written, and a write may fail
  Writes : Check

-- the first refusal that applies
abbrev pub first_refusal : List Check → Option KvError
first_refusal [] = None
first_refusal ((Refuses applies error) ∷ checks) = if applies then Some error else first_refusal checks
first_refusal (Reads ∷ checks) = first_refusal checks
first_refusal (Writes ∷ checks) = first_refusal checks

-- no refusal applies before the first read
abbrev pub may_fail_reading : List Check → Bool
may_fail_reading [] = false
may_fail_reading ((Refuses applies error) ∷ checks) = if applies then false else may_fail_reading checks
may_fail_reading (Reads ∷ checks) = true
may_fail_reading (Writes ∷ checks) = may_fail_reading checks

-- no refusal applies before the first write
abbrev pub may_fail_writing : List Check → Bool
may_fail_writing [] = false
may_fail_writing ((Refuses applies error) ∷ checks) = if applies then false else may_fail_writing checks
may_fail_writing (Reads ∷ checks) = may_fail_writing checks
may_fail_writing (Writes ∷ checks) = true
