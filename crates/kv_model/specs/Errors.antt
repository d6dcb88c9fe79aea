-- The number and the text of each refusal.
use Rattle.std.specs.Prelude.{ℕ, List, codes}
use Rattle.kv_model.specs.declared.error.KvError.{KvError}
use Rattle.kv_model.specs.declared.error.KvError.TheVariants.{NotFound, InvalidKey, InvalidFlags, InvalidSize, WriteProtected, MediaFull, TooManyIterators, NoIterator, SetOpen, NoSet, Busy, Stopped, ReadFault, WriteFault, Corrupt, AuthFailed, RollbackFailed, IvSpent, Memory}

abbrev pub error_number : KvError → ℕ
error_number NotFound = 1
error_number InvalidKey = 2
error_number InvalidFlags = 3
error_number InvalidSize = 4
error_number WriteProtected = 5
error_number (MediaFull need room) = 6
error_number TooManyIterators = 7
error_number NoIterator = 8
error_number SetOpen = 9
error_number NoSet = 10
error_number (Busy owner) = 11
error_number Stopped = 12
error_number ReadFault = 13
error_number WriteFault = 14
error_number (Corrupt stored computed) = 15
error_number AuthFailed = 16
error_number RollbackFailed = 17
error_number IvSpent = 18
error_number Memory = 19

abbrev pub error_text : KvError → List ℕ
error_text NotFound = codes "not-found"
error_text InvalidKey = codes "invalid-key"
error_text InvalidFlags = codes "invalid-flags"
error_text InvalidSize = codes "invalid-size"
error_text WriteProtected = codes "write-protected"
error_text (MediaFull need room) = codes "media-full"
error_text TooManyIterators = codes "too-many-iterators"
error_text NoIterator = codes "no-iterator"
error_text SetOpen = codes "set-open"
error_text NoSet = codes "no-set"
error_text (Busy owner) = codes "busy"
error_text Stopped = codes "stopped"
error_text ReadFault = codes "read-fault"
error_text WriteFault = codes "write-fault"
error_text (Corrupt stored computed) = codes "corrupt"
error_text AuthFailed = codes "auth-failed"
error_text RollbackFailed = codes "rollback-failed"
error_text IvSpent = codes "iv-spent"
error_text Memory = codes "memory"
