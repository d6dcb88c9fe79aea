-- How a call that answers a store's errors ended, as far as its device is concerned.
use Rattle.std.specs.Prelude.{Result}
use Rattle.flash_core.specs.Runs.{Ending, ReadFailed, WriteFailed, OutOfMemory, Refused, ending_by}
use Rattle.kv_model.specs.declared.error.KvError.{KvError}
use Rattle.kv_model.specs.declared.error.KvError.TheVariants as error

abbrev pub kv_ending : KvError → Ending
kv_ending error.ReadFault = ReadFailed
kv_ending error.WriteFault = WriteFailed
kv_ending error.Memory = OutOfMemory
kv_ending e = Refused

abbrev pub kv_ended : {T : Type 0} → Result T KvError → Ending
kv_ended result = ending_by kv_ending result
