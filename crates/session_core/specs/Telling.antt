-- That the chip of a session holds what the session tells.
use Rattle.std.specs.Prelude.{◌≡◌, ◌↔◌, ◌+◌, ◌-◌, ◌*◌, ℕ, List, IsTrue, None, Some, MatchOption, Contains}
use Rattle.std.specs.FinMap as map
use Rattle.std.specs.Option.{ForSome}
use Rattle.flash_core.specs.declared.geometry.Geometry.{Geometry}
use Rattle.flash_core.specs.Images.{IsErased, Torn}
use Rattle.flash_core.specs.Sizes.{area_size}
use Rattle.flash_sim.specs.ChipState.{ChipState}
use Rattle.kv_model.specs.FlaggedMap.{FlaggedMap}
use Rattle.kv_model.specs.Kv.{KvState}
use Rattle.kv_model.specs.Opening.{Log}
use Rattle.kv_model.specs.Rules.{cuts}
use Rattle.kv_model.specs.StoreState.{Maps, maps_of}
use Rattle.record_core.specs.Mounts.{Contents, Holds, active_area}
use Rattle.tdb_mount.specs.Choice.{version_in}
use Rattle.tdb_read.specs.States.{other_part}
use Rattle.session_core.specs.Backing.{session_rules}
use Rattle.session_core.specs.Search.{IsChanceOf}

-- the maps of a store over one chip that mounts to this one
abbrev pub over_one : FlaggedMap → Maps
over_one m = record { primary = m; rollback = map.empty }

-- This is the map of a store that runs. Of a stopped one it is such as a power cut in the call in doubt may leave, unless
-- a record is there by chance.
abbrev pub IsToldMap : ChipState → KvState → FlaggedMap → Type 0
IsToldMap chip s m = ForSome s.known.state (λ state. MatchOption state.doubt
    (over_one m ≡ maps_of state)
    (λ doubt. IsChanceOf chip None → Contains (cuts (session_rules s.known.constants) state doubt.who doubt.operation) (over_one m)))

-- It is the log of this image: the active area and its version, the records of that area, whether the rest of it is
-- erased, and every byte of the other area.
pub record IsLogIn (g : Geometry) (image : List ℕ) (log : Log) : Type 0 where
  pub contents : Contents
  pub holds : Holds g image contents
  pub active : active_area contents.first contents.second ≡ Some log.active
  pub version : version_in contents.first contents.second log.active ≡ Some log.version
  pub records : log.records ≡ contents.records
  pub clean : IsTrue log.is_clean ↔ IsErased image contents.end ((log.active * area_size g + area_size g) - contents.end)
  pub other : log.other ≡ other_part g log.active image

-- An image became one with this log, and no byte of it is a stray one: those of the active area are of its master record
-- and the records, or 0xFF behind these, and every other byte is as it was.
pub record HasNoStray (g : Geometry) (old new : List ℕ) (log : Log) : Type 0 where
  pub is : IsLogIn g new log
  pub behind : IsErased new is.contents.end ((log.active * area_size g + area_size g) - is.contents.end)
  pub outside : Torn (log.active * area_size g) (area_size g) old new

-- The store tells this log, and it is that of its chip's image.
pub record HasLog (chip : ChipState) (s : KvState) (log : Log) : Type 0 where
  pub told : s.known.log ≡ Some log
  pub is : IsLogIn chip.geometry chip.image log

-- A store that runs tells the log of its chip's image.
abbrev pub TellsLog : ChipState → KvState → Type 0
TellsLog chip s = ForSome s.known.state (λ state. state.doubt ≡ None → (log : Log) × HasLog chip s log)
