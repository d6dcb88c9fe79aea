-- A device in memory.
use Rattle.std.specs.Prelude.{◌≡◌, ℕ, List, [], length, true, false, not, is_some, IsTrue, Option, Some, None}
use Rattle.std.proofs.Common.{◌∙◌, ap, refl, sym, subst}
use Rattle.std.specs.Option.{ForSome}
use mathlib.Core.Bool.{false≢true}
use Rattle.flash_core.specs.declared.geometry.Geometry.{Geometry}
use Rattle.flash_core.specs.Sizes.{size_of}
use Rattle.flash_core.specs.State.{DeviceCall, FlashState, IsLawful}
use Rattle.flash_core.specs.WriteLog.{LogState, MomentOf, replayed, with_refusal, with_write}
use Rattle.flash_core.specs.LogMoments.{moments_earlier, now_is_told, only_now}

abbrev pub faults_of : Option LogState → ℕ
faults_of None = 0
faults_of (Some log) = log.faults

-- one moment for each write
abbrev pub moment_of : Option LogState → ℕ
moment_of None = 0
moment_of (Some log) = length log.writes

abbrev pub told_by : Option LogState → ℕ → Option DeviceCall → List ℕ → Type 0
told_by None t call c = ⊥
told_by (Some log) t call c = MomentOf log.first log.writes t call c

-- It tells its image, and its moments where it has a log. No read of it fails, and without a log no write.
abbrev pub device_state : Geometry → List ℕ → Option LogState → FlashState
device_state geometry image log = record {
  geometry = geometry;
  image = Some image;
  read_faults = 0;
  write_faults = faults_of log;
  tells_moments = is_some log;
  moment = moment_of log;
  left_since = told_by log;
  tells_torn = false;
  torn = None;
  label = [];
  steady = true;
  sound = not (is_some log);
}

-- without a log
abbrev pub memory_state : Geometry → List ℕ → FlashState
memory_state geometry image = device_state geometry image None

-- with one
abbrev pub logged_state : Geometry → List ℕ → LogState → FlashState
logged_state geometry image log = device_state geometry image (Some log)

-- the log with a write more, and with one refused
abbrev pub kept : Option LogState → ℕ → List ℕ → Option LogState
kept None place bytes = None
kept (Some log) place bytes = Some (with_write log place bytes)

abbrev pub refused : Option LogState → Option LogState
refused None = None
refused (Some log) = Some (with_refusal log)

-- the writes of the log lead to this image
abbrev pub LeadsTo : Option LogState → List ℕ → Type 0
LeadsTo log image = ForSome log (λ l. image ≡ replayed l.first l.writes)

-- A device in memory with this image and no log, which has no label, and of which no call fails.
pub record IsMemoryOf (s : FlashState) (geometry : Geometry) (image : List ℕ) : Type 0 where
  pub geometry_is : s.geometry ≡ geometry
  pub image_is : s.image ≡ Some image
  pub label_is : s.label ≡ []
  pub tells_no_moments : s.tells_moments ≡ false
  pub tells_no_torn : s.tells_torn ≡ false
  pub sound : IsTrue s.sound

-- A device in memory with this image and an empty log, which has no label. Its writes may fail, and no read does.
pub record IsLoggedOf (s : FlashState) (geometry : Geometry) (image : List ℕ) : Type 0 where
  pub geometry_is : s.geometry ≡ geometry
  pub image_is : s.image ≡ Some image
  pub label_is : s.label ≡ []
  pub tells_moments : IsTrue s.tells_moments
  pub tells_no_torn : s.tells_torn ≡ false
  pub steady : IsTrue s.steady
  pub not_sound : s.sound ≡ false
  pub no_faults : s.write_faults ≡ 0

some_is : {X : Type 0} (x y : X) → Some x ≡ Some y → x ≡ y
some_is x y same = cc

pub device_is_lawful : (geometry : Geometry) (image : List ℕ) (log : Option LogState) → length image ≡ size_of geometry → LeadsTo log image → IsLawful (device_state geometry image log)
device_is_lawful geometry image None sized leads = record {
  sized = λ told is. ap length (sym (some_is image told is)) ∙ sized;
  sound_is_steady = λ sound. sound;
  earlier = λ t u call c le left. left;
  only_now = λ told is call c left. absurd left;
  tells_now = λ tells. absurd (false≢true tells);
}
device_is_lawful geometry image (Some log) sized leads = record {
  sized = λ told is. ap length (sym (some_is image told is)) ∙ sized;
  sound_is_steady = λ sound. absurd (false≢true sound);
  earlier = λ t u call c le left. moments_earlier log.first log.writes t u call c le left;
  only_now = λ told is call c left. only_now log.first log.writes image (leads log refl) call c left ∙ some_is image told is;
  tells_now = λ tells told is. (None, subst (λ (l : List ℕ). MomentOf log.first log.writes (length log.writes) None l) (some_is image told is) (now_is_told log.first log.writes image (leads log refl)));
}
