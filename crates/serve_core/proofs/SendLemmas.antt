-- That a session may go to another thread: what its store notes for proofs alone has no bytes, and all else is numbers,
-- lists and chips.
use denote.RattleType.{RattleType}
use denote.Param.Send.{IsSend, enum_send, owning_send, recorded_send, struct_send, sendable}
use denote.Struct.Declared.{shape}
use Rattle.flash_core.specs.declared.flash.Flash.{Ghosts}
use Rattle.std.specs.contracts.option.Option as option
use Rattle.store_note.specs.contracts.noted.Noted as noted
use Rattle.store_note.specs.contracts.noted.NotedBytes as noted_bytes
use Rattle.flash_sim.proofs.chip.Chip.TheSendSync as chip
use Rattle.kv_model.proofs.key.Key.TheSendSync as key
use Rattle.tdb_read.proofs.log.MountedLog.TheSendSync as log
use Rattle.plain_store.specs.contracts.active.Begun as begun
use Rattle.plain_store.specs.contracts.active.ActiveSet as active
use Rattle.plain_store.specs.contracts.plain.PlainStore as plain
use Rattle.tdb_store.specs.contracts.store.TdbStore as tdb
use Rattle.session_core.specs.contracts.backing.Store as store
use Rattle.session_core.proofs.backing.Chips.TheSendSync as chips
use Rattle.session_core.specs.contracts.session.Session as session

noted_send : IsSend noted.the_row
noted_send = owning_send noted.the_type (search sendable) (λ d. tt) (λ k x w. tt)

noted_bytes_send : IsSend noted_bytes.the_row
noted_bytes_send = owning_send noted_bytes.the_type (search sendable) (λ d. tt) (λ k x w. tt)

option_field_send : (T : RattleType) → IsSend T → IsSend (option.the_field T).row
option_field_send T t = search sendable depth 12

begun_field_send : IsSend begun.the_field.row
begun_field_send = search (sendable, noted_bytes_send, key.the_send) depth 12

active_send : IsSend active.the_row
active_send = recorded_send _ _ _ (active.the_type).to_one (struct_send (shape active.the_type) (search sendable, (begun_field_send, tt)))

store_field_send : (F : RattleType) → IsSend F → IsSend (plain.the_field F).row
store_field_send F f =
    struct_send (shape (plain.the_type F))
    (log.the_field_send F f, (option_field_send active.the_row active_send, (option_field_send noted.the_row noted_send, tt)))

tdb_field_send : (F : RattleType) (g : Ghosts F.Denot) → IsSend F → IsSend (tdb.the_field F g).row
tdb_field_send F g f = struct_send (shape (tdb.the_type F g)) (store_field_send F f, tt)

backing_field_send : IsSend store.the_field.row
backing_field_send = search (sendable, tdb_field_send, chip.the_send) depth 12

pub session_send : IsSend session.the_row
session_send = search (sendable, option_field_send, backing_field_send, chips.the_send, chips.the_field_send) depth 12
