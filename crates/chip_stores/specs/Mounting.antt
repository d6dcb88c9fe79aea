-- What mounting a chip as a plain store leaves.
use Rattle.std.specs.Prelude.{◌≡◌, ℕ, true, [], ◌∷◌}
use Rattle.flash_core.specs.Runs.{Done}
use Rattle.flash_sim.specs.ChipState.{ChipState, device_of}
use Rattle.kv_model.specs.Kv.{KvState}
use Rattle.plain_store.specs.Mounting.{IsFresh}
use Rattle.tdb_mount.specs.Format.{Leaves, MountsAlike}

-- The chip has power on, and its image mounts to the map to which it did.
pub record HasKept (old new : ChipState) : Type 0 where
  pub geometry : new.geometry ≡ old.geometry
  pub map : MountsAlike old.geometry old.image new.image
  pub label : new.label ≡ []

-- The chip was mounted so: this is what is told of it then.
pub record HasMounted (old new : ChipState) (hash_bits : ℕ) (s : KvState) : Type 0 where
  pub kept : HasKept old new
  -- all of its image stands where some area of it is valid, and it was formatted else
  pub leaves : Leaves old.geometry old.image new.image Done
  pub fresh : IsFresh (device_of old) hash_bits s
  pub labels : s.known.labels ≡ [] ∷ []
  pub sound : s.known.sound ≡ true
  pub read_faults : s.known.read_faults ≡ (device_of old).read_faults
  pub write_faults : s.known.write_faults ≡ (device_of old).write_faults
