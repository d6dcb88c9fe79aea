-- What each moment of a call leaves, where a record that nobody wrote isn't there by chance.
use Rattle.std.specs.Prelude.{◌≡◌, ◌⊎◌, ℕ, ◌+◌, List, [], ◌∷◌, ◌++◌, length, IsTrue, Option, Some, None, slice_index}
use Rattle.base_core.specs.Units.{up}
use Rattle.flash_core.specs.declared.geometry.Geometry.{Geometry}
use Rattle.flash_core.specs.Sizes.{area_size}
use Rattle.flash_core.specs.State.{DeviceCall, FlashState, after_of, before_of}
use Rattle.kv_model.specs.FlaggedMap.{FlaggedMap}
use Rattle.kv_model.specs.Write.{Write}
use Rattle.record_core.specs.Chance.{FirstBreak, NoChance}
use Rattle.record_core.specs.Cuts.{IsInArea, active_of, base_of}
use Rattle.record_core.specs.Log.{extent}
use Rattle.record_core.specs.Mounts.{Contents, Holds, Mounts}

-- the range of a header's program, or of the erase of an area's first unit
abbrev pub IsHeaderOrFirstUnit : Geometry → ℕ → ℕ → Type 0
IsHeaderOrFirstUnit g place size = (size ≡ up g.prog 24) ⊎ ((size ≡ g.erase) × ((place ≡ base_of g 0) ⊎ (place ≡ base_of g 1)))

-- Of the image that a cut inside a call on this range leaves P holds, unless it holds a record by chance; the first such
-- record stands at the range's first byte, and the range is a header's or an area's first unit.
pub record IsCut (g : Geometry) (P : List ℕ → Type 0) (before after torn : List ℕ) (place size : ℕ) : Type 0 where
  pub holds : NoChance g before after torn → P torn
  pub first : (at : ℕ) → FirstBreak g before after torn at → (at ≡ place) × IsHeaderOrFirstUnit g place size

-- P at a moment between calls, and inside a call as far as chance goes: the first record that is there by chance stands
-- at the first byte of that call
abbrev pub CutStrictly : Geometry → (List ℕ → Type 0) → Option DeviceCall → List ℕ → Type 0
CutStrictly g P None c = P c
CutStrictly g P (Some call) c = IsCut g P (before_of call c) (after_of call c) c call.place (length call.after)

-- what a run may leave at each moment, over the image at its entry, as far as chance goes
abbrev pub Cuts : Geometry → (List ℕ → List ℕ → Type 0) → List ℕ → Option DeviceCall → List ℕ → Type 0
Cuts g P image call left = CutStrictly g (P image) call left

-- The image that stands after a program or erase that failed has P, as far as chance goes in that call. Where the device
-- tells torn calls it tells this one, unless the image has P whatever chance does.
pub record FailedStrictly (g : Geometry) (P : List ℕ → Type 0) (s : FlashState) (left : List ℕ) : Type 0 where
  pub call : DeviceCall
  pub cut : IsCut g P (before_of call left) (after_of call left) left call.place (length call.after)
  pub told : IsTrue s.tells_torn → (s.torn ≡ Some call) ⊎ P left

-- the image mounts to one of these two maps
abbrev pub MountsToOne : Geometry → FlaggedMap → FlaggedMap → List ℕ → Type 0
MountsToOne g u v image = Mounts g image u ⊎ Mounts g image v

-- the contents with one record more
abbrev pub with_record : ℕ → Write → Contents → Contents
with_record prog r c = record { first = c.first; second = c.second; records = c.records ++ r ∷ []; end = c.end + extent prog r }

-- A record may be written where the records of the active area end: an erased byte stands there, the record lies in the
-- area, and behind it the area ends or another erased byte stands.
pub record MayAppend (g : Geometry) (image : List ℕ) (c : Contents) (k : ℕ) (r : Write) : Type 0 where
  pub holds : Holds g image c
  pub active : active_of c ≡ Some k
  pub inside : IsInArea g k c.end (extent g.prog r)
  pub erased : slice_index image c.end ≡ 255
  pub behind : (c.end + extent g.prog r ≡ base_of g k + area_size g) ⊎ (slice_index image (c.end + extent g.prog r) ≡ 255)

-- the image holds these contents, or these with the record behind them
abbrev pub HoldsOneOf : Geometry → Contents → Write → List ℕ → Type 0
HoldsOneOf g c r image = Holds g image c ⊎ Holds g image (with_record g.prog r c)

-- what an image without a valid area holds
abbrev pub no_contents : Contents
no_contents = record { first = None; second = None; records = []; end = 0 }
