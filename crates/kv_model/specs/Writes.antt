-- The records that a history of a plain store appends to the log. A history begins no remove that it finishes later,
-- so this is said of states without one.
use Rattle.std.specs.Prelude.{◌≢◌, ℕ, List, [], ◌∷◌, ◌++◌, false, ◌≡◌, Option, Some, None, IfSome}
use Rattle.kv_model.specs.declared.error.KvError.TheVariants.{InvalidSize, WriteFault}
use Rattle.kv_model.specs.declared.call.Call.{Call}
use Rattle.kv_model.specs.declared.call.Call.TheVariants as call
use Rattle.kv_model.specs.declared.call.Reply.{Reply}
use Rattle.kv_model.specs.declared.call.Reply.TheVariants.{Done, Refused}
use Rattle.kv_model.specs.declared.call.Entry.{Entry}
use Rattle.kv_model.specs.Flags.{remove_flags}
use Rattle.kv_model.specs.Write.{Write}
use Rattle.kv_model.specs.StoreState.{StoreState, OpenSet, begun_set}

-- the set that is active after a call
abbrev pub set_after : Option OpenSet → ℕ → Call → Reply → Option OpenSet
set_after set who (call.Start key size flags) Done = Some (begun_set who key flags.bits size None)
set_after (Some set) who (call.Add value) Done = Some (record set { bytes = set.bytes ++ value })
set_after set who call.Finish Done = None
set_after set who call.Finish (Refused InvalidSize) = None
set_after set who call.Abort Done = None
set_after set who call.Mount Done = None
set_after set who call reply = set

-- the records of one call: of a set, a remove, or a finish of the set that is active
abbrev pub written : Option OpenSet → Call → Reply → List Write
written set (call.Set key value flags) Done = record { flags = flags.bits; key = key; value = value } ∷ []
written set (call.Remove key) Done = record { flags = remove_flags; key = key; value = [] } ∷ []
written (Some set) call.Finish Done = record { flags = set.flags; key = set.key; value = set.bytes } ∷ []
written set call reply = []

-- the records that a history appends to the log, in order
abbrev pub writes : Option OpenSet → List Entry → List Write
writes set [] = []
writes set (entry ∷ entries) = written set entry.call entry.reply ++ writes (set_after set entry.who entry.call entry.reply) entries

-- no remove is begun
abbrev pub NoRemoveBegun : StoreState → Type 0
NoRemoveBegun state = IfSome state.open_set (λ (set : OpenSet). set.is_remove ≡ false)

-- an entry that is no reset, no mount and no failed write
pub record IsOrdinary (entry : Entry) : Type 0 where
  pub no_reset : entry.call ≢ call.Reset
  pub no_mount : entry.call ≢ call.Mount
  pub no_fault : entry.reply ≢ Refused WriteFault
