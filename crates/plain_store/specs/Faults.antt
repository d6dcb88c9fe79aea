-- What naming a store's device calls that are to fail does.
use Rattle.std.specs.Prelude.{◌≡◌}
use Rattle.kv_model.specs.Arming.{TellsNothing}
use Rattle.kv_model.specs.StoreState.{Maps}
use Rattle.kv_model.specs.Kv.{KvState}

-- Nothing changes that a caller of the store can see, but the labels and whether calls may fail from now on.
pub record IsSameButFaults (old new : KvState) : Type 0 where
  pub known : new.known ≡ record old.known { labels = new.known.labels; steady = new.known.steady; sound = new.known.sound }
  pub tells_moments : new.crash.tells_moments ≡ old.crash.tells_moments
  pub primary : TellsNothing old.crash.primary new.crash.primary
  pub rollback : TellsNothing old.crash.rollback new.crash.rollback
  pub stands : (maps : Maps) → new.crash.stands maps → old.crash.stands maps
