-- A reply and its copy.
use Rattle.std.specs.Prelude.{Bool, true, false, Result, Ok, Err}
use Rattle.base_core.specs.declared.no_memory.NoMemory.{NoMemory}
use Rattle.kv_model.specs.declared.call.Call.{Call}
use Rattle.kv_model.specs.declared.call.Call.TheVariants.{Get, Part}
use Rattle.kv_model.specs.declared.call.Reply.{Reply}

abbrev pub first_of : Result (Reply × Reply) NoMemory → Result Reply NoMemory
first_of (Ok both) = Ok both.0
first_of (Err none) = Err none

-- a call that reads a value, or a part of one
abbrev pub reads_value : Call → Bool
reads_value (Get key) = true
reads_value (Part key offset count) = true
reads_value call = false
