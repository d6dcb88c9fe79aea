-- Why a part of a mount was refused.
use Rattle.std.specs.Prelude.{◌≡◌, ◌⊎◌, ℕ, IsTrue, Result}
use Rattle.base_core.specs.Counts.{Rose}
use Rattle.flash_core.specs.Runs.{Ending, ReadFailed, WriteFailed, OutOfMemory, Refused as Other, ending_by}
use Rattle.flash_core.specs.State.{FlashState}
use Rattle.kv_model.specs.declared.error.KvError.{KvError}
use Rattle.kv_model.specs.declared.error.KvError.TheVariants as error
use Rattle.record_core.specs.Lookup.{IsReadFault}
use Rattle.tdb_mount.specs.declared.mount.MountError.{MountError}
use Rattle.tdb_mount.specs.declared.mount.MountError.TheVariants as mount

-- what a refusal of a part is to the mount
abbrev pub refusal_of : KvError → MountError
refusal_of error.ReadFault = mount.ReadFault
refusal_of error.WriteFault = mount.WriteFault
refusal_of e = mount.Memory

-- A fault comes only where its count rose, none on a sound device, and none of a read on a steady one. Memory is free.
abbrev pub IsRefusal : FlashState → FlashState → KvError → Type 0
IsRefusal old new error.ReadFault = Rose old.read_faults new.read_faults × (IsTrue old.steady → ⊥)
IsRefusal old new error.WriteFault = Rose old.write_faults new.write_faults × (IsTrue old.sound → ⊥)
IsRefusal old new error.Memory = Unit {0}
IsRefusal old new e = ⊥

-- the number of an error of a mount
abbrev pub mount_number : MountError → ℕ
mount_number mount.BadGeometry = 1
mount_number mount.ReadFault = 2
mount_number mount.WriteFault = 3
mount_number mount.Memory = 4

-- how each error of a mount ends it
abbrev pub mount_ending : MountError → Ending
mount_ending mount.ReadFault = ReadFailed
mount_ending mount.WriteFault = WriteFailed
mount_ending mount.Memory = OutOfMemory
mount_ending e = Other

abbrev pub mount_ended : {T : Type 0} → Result T MountError → Ending
mount_ended result = ending_by mount_ending result

-- A walk's refusal: a fault of a read, or memory that was wanting.
abbrev pub IsWalkRefusal : FlashState → FlashState → KvError → Type 0
IsWalkRefusal old new e = IsReadFault old new e ⊎ (e ≡ error.Memory)
