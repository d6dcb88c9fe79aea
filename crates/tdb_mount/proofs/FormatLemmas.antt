-- What a format does to a device, and leaves.
use Rattle.std.proofs.Common.{◌≡◌, ℕ, ◌+◌, ◌*◌, ◌<◌, ◌≤◌, List, length, inl, inr, ⊎_elim, sym, ◌∙◌, ap, subst, arith}
use Rattle.std.specs.Prelude.{Option, Some, None, Result, Ok, Err}
use Rattle.std.specs.Option.{ForSome}
use Rattle.std.proofs.Math.Nat.{zero-mod}
use Rattle.base_core.specs.Sizes.{master_size}
use Rattle.flash_core.specs.declared.geometry.Geometry.{Geometry}
use Rattle.flash_core.specs.Calls.{Keeps}
use Rattle.flash_core.specs.Erases.{AreUnits, ErasesUnits, erased_from}
use Rattle.flash_core.specs.Images.{IsErased, put, Torn}
use Rattle.flash_core.specs.Moments.{FailedInside, Within}
use Rattle.flash_core.specs.Runs.{Done, Ending, IfFailed, ReadFailed, WriteFailed, OutOfMemory, Refused, RunsBy, UnlessFailed}
use Rattle.flash_core.specs.Sizes.{IsValid, area_size, size_of}
use Rattle.flash_core.specs.State.{DeviceCall, FlashState, IsLawful}
use Rattle.flash_core.proofs.EraseLaws.{IsErased-erased, Torn-erased, Within-erases, length-erased}
use Rattle.flash_core.proofs.GeometryLaws.{prog_positive, size-areas}
use Rattle.flash_core.proofs.ImageLaws.{IsErased-within}
use Rattle.flash_core.proofs.KeptLaws.{told_before}
use Rattle.flash_core.proofs.MomentLaws.{Within-trans, Within-widen}
use Rattle.flash_core.proofs.RunLaws.{runs_then, runs_weakened}
use Rattle.record_core.specs.Log.{extent}
use Rattle.record_core.specs.Record.{record_header, record_payload}
use Rattle.record_core.specs.Written.{AppendsRecord, master_of}
use Rattle.record_core.proofs.RecordLemmas.{length-record_header, length-record_payload}
use Rattle.record_core.proofs.WithinLemmas.{Within-appends}
use Rattle.tdb_mount.specs.Format.{Formats, first_erased}

pub some_is : {X : Type 0} (x y : X) → Some x ≡ Some y → x ≡ y
some_is x y same = cc

module _ (g : Geometry) (valid : IsValid g) where
  pub first_units : AreUnits g 0 g.units_per_area
  first_units = record { valid = valid; aligned = zero-mod g.erase; inside = omega (arith, size-areas g) }

  pub master_in_area : master_size g.prog ≤ area_size g
  master_in_area = valid.master_fits

  -- no moment of a format differs outside the first area
  pub Within-formats : (image : List ℕ) → length image ≡ size_of g → (call : Option DeviceCall) (c : List ℕ) → Formats g image call c → Within 0 (area_size g) image call c
  Within-formats image sized call c moment =
      let fits : 0 + area_size g ≤ length image = omega (arith, sized, size-areas g) in
      let long : length (first_erased g image) ≡ length image = length-erased image 0 (area_size g) fits in
      ⊎_elim
      (λ erases. Within-erases g 0 g.units_per_area image call c fits erases)
      (λ appends. Within-trans 0 (area_size g) image (first_erased g image) call c
      (Torn-erased image 0 (area_size g) (area_size g) (omega arith) fits)
      (Within-widen 0 (master_size g.prog) 0 (area_size g) (first_erased g image) call c (omega arith) (omega (arith, master_in_area))
      (Within-appends g.prog (prog_positive g valid) 0 (master_of 1) (first_erased g image) call c (omega (arith, long, fits, master_in_area)) appends)))
      moment

pub format_within : {old new : FlashState} {ending : Ending} → IsValid old.geometry → IsLawful old → RunsBy old new (Formats old.geometry) ending → RunsBy old new (Within 0 (area_size old.geometry)) ending
format_within {old} {new} {ending} valid lawful runs =
    runs_weakened (Within 0 (area_size old.geometry)) (λ image told call c moment. Within-formats old.geometry valid image (lawful.sized image told) call c moment) runs

-- the units' erases are moments of a format
pub erases_format : {old new : FlashState} {ending : Ending} → RunsBy old new (ErasesUnits old.geometry 0 old.geometry.units_per_area) ending → RunsBy old new (Formats old.geometry) ending
erases_format {old} {new} {ending} runs = runs_weakened (Formats old.geometry) (λ image told call c moment. inl moment) runs

-- the first area was erased
abbrev pub HasErased : FlashState → FlashState → Type 0
HasErased old mid = ForSome old.image (λ image. mid.image ≡ Some (first_erased old.geometry image))

-- and then the master record's write
pub master_format : {old mid new : FlashState} {ending : Ending} → HasErased old mid → RunsBy old mid (Formats old.geometry) Done → RunsBy mid new (AppendsRecord mid.geometry.prog 0 (master_of 1)) ending → RunsBy old new (Formats old.geometry) ending
master_format {old} {mid} {new} {ending} erased first second =
    runs_then first second (λ image now told mid_told was call c moment.
    let is : now ≡ first_erased old.geometry image = some_is now (first_erased old.geometry image) (sym mid_told ∙ erased image told) in
    inr (subst (λ (g : Geometry). AppendsRecord g.prog 0 (master_of 1) (first_erased old.geometry image) call c) first.kept.geometry
    (subst (λ (l : List ℕ). AppendsRecord mid.geometry.prog 0 (master_of 1) l call c) is moment)))

module _ (old mid : FlashState) (valid : IsValid old.geometry) (lawful : IsLawful old) (kept : Keeps old mid) (erased : HasErased old mid) where
  -- where the master record comes is erased
  pub room_erased : ForSome mid.image (λ image. IsErased image 0 (master_size mid.geometry.prog))
  room_erased image told =
      let was = told_before kept told in
      let is : first_erased old.geometry was.0 ≡ image = some_is (first_erased old.geometry was.0) image (sym (erased was.0 was.1) ∙ told) in
      let fits : 0 + area_size old.geometry ≤ length was.0 = omega (arith, lawful.sized was.0 was.1, size-areas old.geometry) in
      let within : 0 + master_size mid.geometry.prog ≤ 0 + area_size old.geometry =
      omega (arith, master_in_area old.geometry valid, ap (λ (g : Geometry). master_size g.prog) kept.geometry) in
      subst (λ (l : List ℕ). IsErased l 0 (master_size mid.geometry.prog)) is
      (IsErased-within (first_erased old.geometry was.0) 0 (area_size old.geometry) 0 (master_size mid.geometry.prog)
      (IsErased-erased was.0 0 (area_size old.geometry) fits) (omega arith) within)

unless_or_if : (ending : Ending) {P : Type 0} → UnlessFailed ending P → IfFailed ending P → P
unless_or_if Done is none = is
unless_or_if ReadFailed is none = is
unless_or_if WriteFailed none is = is
unless_or_if OutOfMemory is none = is
unless_or_if Refused is none = is

if_failed : (ending : Ending) {P Q : Type 0} → (P → Q) → IfFailed ending P → IfFailed ending Q
if_failed Done f is = is
if_failed ReadFailed f is = is
if_failed WriteFailed f is = f is
if_failed OutOfMemory f is = is
if_failed Refused f is = is

-- after a run within a range nothing outside it differs, whatever it ended with
pub within_torn : {old new : FlashState} (place n : ℕ) (ending : Ending) → RunsBy old new (Within place n) ending → ForSome old.image (λ image. ForSome new.image (λ left. Torn place n image left))
within_torn {old} {new} place n ending runs image told =
    unless_or_if ending (runs.stands image told)
    (if_failed ending (λ (failed : ForSome new.image (FailedInside new (Within place n image))) left stands. (failed left stands).inside.torn) (runs.failed image told))
