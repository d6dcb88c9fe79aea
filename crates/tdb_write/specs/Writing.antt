-- A record that is being written at the end of a log, in pieces.
use Rattle.std.specs.Prelude.{◌≡◌, ℕ, ◌+◌, ◌-◌, ◌≤◌, ◌||◌, nat_le, nat_lt, Bool, List, length, Option}
use Rattle.std.specs.Option.{ForSome}
use Rattle.flash_core.specs.declared.geometry.Geometry.{Geometry}
use Rattle.flash_core.specs.Images.{IsErased}
use Rattle.area_log.specs.Areas.{end_of}
use Rattle.inc_set.specs.declared.open_set.OpenSet.{OpenSet as Writer}
use Rattle.inc_set.specs.Sets.{Holds, IsAhead, IsPlaced, set_size}
use Rattle.kv_model.specs.LogStep.{appended}
use Rattle.kv_model.specs.Opening.{Log}
use Rattle.kv_model.specs.Write.{Write}
use Rattle.tdb_read.specs.Views.{LogPart, LogView, area_in}

-- a record of this size fits between the log's end and the end of the active area
abbrev pub FitsBehind : LogView → ℕ → Type 0
FitsBehind v size = v.log.end + size ≤ end_of (area_in v.device.geometry v.log)

-- nothing but the buffer of one unit has changed in memory
abbrev pub SameButUnit : LogPart → LogPart → Type 0
SameButUnit old new = new ≡ record old { unit = new.unit }

-- no unit of a set with so many bytes is programmed yet
abbrev pub is_unprogrammed : ℕ → ℕ → ℕ → Bool
is_unprogrammed prog key_size fed = nat_le fed 0 || nat_lt (key_size + fed) prog

-- The set's record begins at the log's end and fits in the active area, and behind it the area is erased.
pub record IsAtEndOf (g : Geometry) (told : Option (List ℕ)) (log : LogPart) (set : Writer) : Type 0 where
  pub at_end : set.at ≡ log.end
  pub inside : set.at + set_size g.prog set ≤ end_of (area_in g log)
  pub placed : IsPlaced g log.unit set
  pub ahead : ForSome told (λ image. IsAhead g image set)
  pub behind : ForSome told (λ image. IsErased image (set.at + set_size g.prog set) (end_of (area_in g log) - (set.at + set_size g.prog set)))
  -- its first whole unit makes the tail dirty
  pub clean : log.is_clean ≡ is_unprogrammed g.prog (length set.key) set.fed

abbrev pub IsAtEnd : LogView → Writer → Type 0
IsAtEnd v set = IsAtEndOf v.device.geometry v.device.image v.log set

-- A set is being written, and was fed these bytes.
pub record IsWritingOf (g : Geometry) (told : Option (List ℕ)) (log : LogPart) (set : Writer) (bytes : List ℕ) : Type 0 where
  pub at_end : IsAtEndOf g told log set
  pub holds : Holds g told log.unit set bytes

abbrev pub IsWriting : LogView → Writer → List ℕ → Type 0
IsWriting v set bytes = IsWritingOf v.device.geometry v.device.image v.log set bytes

-- The log as it is, but for whether its tail is clean.
abbrev pub IsFed : LogView → Writer → ℕ → Log → Log → Type 0
IsFed v set more old new = new ≡ record old { is_clean = is_unprogrammed v.device.geometry.prog (length set.key) (set.fed + more) }

-- the log in memory once a set was fed so many bytes more
abbrev pub SameButTail : LogView → Writer → ℕ → LogPart → Type 0
SameButTail v set more new = new ≡ record v.log {
  is_clean = is_unprogrammed v.device.geometry.prog (length set.key) (set.fed + more);
  unit = new.unit;
}

-- the log with this record more
abbrev pub IsAppended : Write → Log → Log → Type 0
IsAppended r old new = new ≡ appended old r
