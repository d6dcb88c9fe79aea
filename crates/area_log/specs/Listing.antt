-- The records of an area as a walk shows them.
use Rattle.std.specs.Prelude.{◌≡◌, ◌⊎◌, ℕ, ◌+◌, ◌≤◌, List, [], ◌∷◌, Result, Ok, Err}
use Rattle.base_core.specs.Counts.{counted}
use Rattle.flash_core.specs.declared.geometry.Geometry.{Geometry}
use Rattle.flash_core.specs.State.{FlashState}
use Rattle.kv_model.specs.declared.error.KvError.{KvError}
use Rattle.kv_model.specs.declared.error.KvError.TheVariants.{Memory, ReadFault}
use Rattle.kv_model.specs.Write.{Write}
use Rattle.record_core.specs.declared.header.Header.{Header}
use Rattle.record_core.specs.Lookup.{IsReadFault}
use Rattle.record_core.specs.Log.{AreAllRecords, AreRecords, IsRecordAt, extent}
use Rattle.record_core.specs.Record.{header_of}
use Rattle.area_log.specs.declared.area.Area.{Area}
use Rattle.area_log.specs.Areas.{end_of, first_place}

-- a record that a walk shows: its place, its key and its header
pub record Found : Type 0 where
  pub at : ℕ
  pub key : List ℕ
  pub header : Header

-- a record at its place, as it is shown
abbrev pub found_at : ℕ → Write → Found
found_at place r = record { at = place; key = r.key; header = header_of r.flags r.key r.value }

-- records that stand from this place on, each with its place
abbrev pub listed : ℕ → ℕ → List Write → List Found
listed prog place [] = []
listed prog place (r ∷ rs) = found_at place r ∷ listed prog (place + extent prog r) rs

-- These are all records of an area behind its master, and this is the place behind them.
pub record IsListOf (g : Geometry) (image : List ℕ) (area : Area) (end : ℕ) (list : List Found) : Type 0 where
  pub records : List Write
  pub all : AreAllRecords g.prog image (first_place g area) (end_of area) end records
  pub list_is : list ≡ listed g.prog (first_place g area) records

-- The record at this place is one of the area's, and these are those before it.
pub record IsNext (g : Geometry) (image : List ℕ) (area : Area) (found : Found) (before : List Found) : Type 0 where
  pub records : List Write
  pub each : AreRecords g.prog image (first_place g area) found.at records
  pub before_is : before ≡ listed g.prog (first_place g area) records
  pub this : Write
  pub stands : IsRecordAt g.prog image found.at this
  pub inside : found.at + extent g.prog this ≤ end_of area
  pub found_is : found ≡ found_at found.at this

-- A visitor's refusal: a fault of a read, or memory that was wanting.
abbrev pub IsRefusal : FlashState → FlashState → Type 0 → KvError → Type 0
IsRefusal old new ran_out e = IsReadFault old new e ⊎ ((e ≡ Memory) × ran_out)

-- A visitor's count of refusals by its answer: Ok leaves it, and a refusal raises it by one.
abbrev pub CountsRefusals : {T : Type 0} → ℕ → ℕ → Result T KvError → Type 0
CountsRefusals before now (Ok x) = now ≡ before
CountsRefusals before now (Err e) = now ≡ counted before

-- The same by the answer of a walk: behind Ok the visitor never refused, and behind a refusal it did, unless it was the
-- walk's own read that failed.
abbrev pub HandsOn : {T : Type 0} → ℕ → ℕ → Result T KvError → Type 0
HandsOn before now (Ok x) = now ≡ before
HandsOn before now (Err e) = (now ≡ counted before) ⊎ ((now ≡ before) × (e ≡ ReadFault))
