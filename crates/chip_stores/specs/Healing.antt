-- What completing the tags of a pair that was just mounted leaves.
use Rattle.std.specs.Prelude.{◌≡◌, ◌≤◌, true, Some}
use Rattle.std.specs.Option.{ForSome}
use Rattle.kv_model.specs.FlaggedMap.{FlaggedMap}
use Rattle.kv_model.specs.Kv.{KvState}
use Rattle.kv_model.specs.StoreState.{maps_of}
use Rattle.sealed_pair.specs.Walking.{IsBetween}
use Rattle.chip_stores.specs.Pairs.{healed_by}

-- what stands of it whether or not there was memory
pub record StandsBehind (old new : KvState) : Type 0 where
  pub constants : new.known.constants ≡ old.known.constants
  pub labels : new.known.labels ≡ old.known.labels
  pub sound : new.known.sound ≡ true
  pub read_faults : old.known.read_faults ≤ new.known.read_faults
  pub write_faults : old.known.write_faults ≤ new.known.write_faults

-- All tags are healed.
pub record HasHealed (old new : KvState) : Type 0 where
  pub stands : StandsBehind old new
  pub state : ForSome old.known.state (λ state.
      new.known.state ≡ Some (record state { rollback = (healed_by old.known.constants (maps_of state)).rollback }))

-- Each tag is the one before or the healed one.
pub record IsPartlyHealed (old new : KvState) : Type 0 where
  pub stands : StandsBehind old new
  pub state : ForSome old.known.state (λ state. (left : FlaggedMap)
      × IsBetween state.rollback (healed_by old.known.constants (maps_of state)).rollback left
      × (new.known.state ≡ Some (record state { rollback = left })))
