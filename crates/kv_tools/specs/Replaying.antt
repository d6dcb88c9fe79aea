-- What a replay of the sets of a dump gives.
use Rattle.std.specs.Prelude.{◌≡◌, ◌≢◌, ◌≤◌, IsTrue, length}
use Rattle.kv_model.specs.declared.limits.TheConstants.{MAX_VALUE}
use Rattle.kv_model.specs.declared.error.KvError.TheVariants.{ReadFault, WriteFault}
use Rattle.kv_model.specs.declared.call.Entry.{Entry}
use Rattle.kv_model.specs.declared.call.Reply.TheVariants.{Done, Refused}
use Rattle.kv_model.specs.Flags.{is_plain_flags}
use Rattle.kv_model.specs.Keys.{is_key}
use Rattle.kv_model.specs.Write.{Write}

-- A plain store takes a set of this key, flags and value, where it has the room.
pub record CanSet (r : Write) : Type 0 where
  pub key : IsTrue (is_key r.key)
  pub flags : IsTrue (is_plain_flags r.flags)
  pub size : length r.value ≤ MAX_VALUE

-- The device behind the store failed no read and no write.
pub record HasNoFault (entry : Entry) : Type 0 where
  pub of_read : entry.reply ≢ Refused ReadFault
  pub of_write : entry.reply ≢ Refused WriteFault

abbrev pub IsDone : Entry → Type 0
IsDone entry = entry.reply ≡ Done
