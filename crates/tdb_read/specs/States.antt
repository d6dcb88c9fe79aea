-- What a mounted log is as a store: its state with the incremental set that is active beside it, its log, and what a
-- power cut may leave.
use Rattle.std.specs.Prelude.{◌≡◌, ℕ, ◌-◌, List, [], ◌∷◌, Option, Some, None}
use Rattle.std.specs.Option.{ForSome, option_map}
use Rattle.std.specs.FinMap as map
use Rattle.flash_core.specs.declared.geometry.Geometry.{Geometry}
use Rattle.flash_core.specs.Images.{part}
use Rattle.flash_core.specs.Sizes.{area_size}
use Rattle.flash_core.specs.State.{DeviceCall, FlashState, after_of, before_of}
use Rattle.kv_model.specs.Constants.{Constants}
use Rattle.kv_model.specs.FlaggedMap.{FlaggedMap}
use Rattle.kv_model.specs.Kv.{Answered, Answers, Clock, Crash, KvState}
use Rattle.kv_model.specs.Opening.{Log}
use Rattle.kv_model.specs.PlainStep.{plain_rules}
use Rattle.kv_model.specs.Sizes.{room_of}
use Rattle.kv_model.specs.StoreState.{Maps, OpenSet, StoreState}
use Rattle.kv_model.specs.Write.{map_of}
use Rattle.record_core.specs.Chance.{NoChance}
use Rattle.record_core.specs.Cuts.{base_of}
use Rattle.record_core.specs.Mounts.{Mounts}
use Rattle.tdb_read.specs.declared.log.MountedLog.{MountedLog}
use Rattle.tdb_read.specs.Views.{LogPart, LogView, records_in, view_of}

abbrev pub constants_of : Geometry → LogPart → Constants
constants_of g log = record { hash_bits = log.hash_bits; prog = g.prog; room = room_of g.prog (area_size g); secure = None }

-- the state of a store that runs over this image, with the set that is active
abbrev pub state_in : Geometry → LogPart → Option OpenSet → List ℕ → StoreState
state_in g log set image = record {
  primary = map_of (records_in g log image);
  rollback = map.empty;
  open_set = set;
  iterators = log.iterators;
  next_vector = 1;
  doubt = None;
}

-- the bytes of the area beside the one of this number
abbrev pub other_part : Geometry → ℕ → List ℕ → List ℕ
other_part g active image = part image (base_of g (1 - active)) (area_size g)

abbrev pub log_in : Geometry → LogPart → List ℕ → Log
log_in g log image = record {
  active = log.active;
  version = log.version;
  records = records_in g log image;
  is_clean = log.is_clean;
  other = other_part g log.active image;
}

-- no torn record of this moment is there by chance
abbrev pub IsUnlikely : Geometry → Option DeviceCall → List ℕ → Type 0
IsUnlikely g None image = Unit {0}
IsUnlikely g (Some call) image = NoChance g (before_of call image) (after_of call image) image

-- At some moment since this time a power cut may leave an image that mounts to this map, where no torn record is there
-- by chance.
pub record MapLeft (g : Geometry) (s : FlashState) (t : ℕ) (m : FlaggedMap) : Type 0 where
  pub call : Option DeviceCall
  pub image : List ℕ
  pub left : s.left_since t call image
  pub unlikely : IsUnlikely g call image
  pub mounts : Mounts g image m

-- a store over one device has no rollback device
abbrev no_clock : Clock
no_clock = record { moment = 0; left_since = λ t m. ⊥ }

-- the image of now mounts to these maps
pub record MapsStand (g : Geometry) (s : FlashState) (maps : Maps) : Type 0 where
  pub primary : ForSome s.image (λ image. Mounts g image maps.primary)
  pub rollback : maps.rollback ≡ map.empty

abbrev pub crash_of : Geometry → FlashState → Crash
crash_of g s = record {
  tells_moments = s.tells_moments;
  primary = record { moment = s.moment; left_since = MapLeft g s };
  rollback = no_clock;
  stands = MapsStand g s;
}

-- what contracts see of a store that runs on this log, with the set that is active
abbrev pub kv_state : LogView → Option OpenSet → KvState
kv_state v set =
    let g : Geometry = v.device.geometry in
    record {
      known = record {
        constants = constants_of g v.log;
        state = option_map (state_in g v.log set) v.device.image;
        log = option_map (log_in g v.log) v.device.image;
        read_faults = v.device.read_faults;
        write_faults = v.device.write_faults;
        steady = v.device.steady;
        sound = v.device.sound;
        labels = v.device.label ∷ [];
      };
      crash = crash_of g v.device;
    }

-- The call was one of a plain store that runs on this log, whatever set is active beside it.
abbrev pub AnswersAs : LogView → LogView → Answered → Type 0
AnswersAs old new call = (set : Option OpenSet) → Answers plain_rules (kv_state old set) (kv_state new set) call

module _ {F : Type 0} (state : F → FlashState) where
  abbrev pub AnswersBy : MountedLog F → MountedLog F → Answered → Type 0
  AnswersBy old new call = AnswersAs (view_of state old) (view_of state new) call
