-- What a mount leaves and finds.
use Rattle.std.proofs.Common.{◌≡◌, ℕ, ◌+◌, ◌≤◌, List, length, inl, inr, refl, sym, ◌∙◌, ap, subst, arith}
use Rattle.std.specs.Prelude.{Option, Some, None, Result, Ok, Err, IfErr, IsErrAnd, IsTrue, is_some}
use Rattle.std.specs.Option.{ForSome, option_map}
use mathlib.Core.Bool.{false≢true}
use Rattle.flash_core.specs.declared.geometry.Geometry.{Geometry}
use Rattle.flash_core.specs.Calls.{Keeps, OnlyReads}
use Rattle.flash_core.specs.Images.{part, Torn}
use Rattle.flash_core.specs.Runs.{Ending, Done, ReadFailed, WriteFailed, OutOfMemory, Refused}
use Rattle.flash_core.specs.Sizes.{IsValid, area_size, size_of}
use Rattle.flash_core.specs.State.{FlashState, IsLawful}
use Rattle.flash_core.proofs.GeometryLaws.{prog_positive, size-areas}
use Rattle.flash_core.proofs.ImageLaws.{Torn-put, Torn-trans, Torn-widen, part-Torn}
use Rattle.base_core.proofs.CountLemmas.{Rose-since}
use Rattle.flash_core.proofs.KeptLaws.{Keeps-OnlyReads, Keeps-trans, told_before}
use Rattle.base_core.specs.Sizes.{master_size}
use Rattle.kv_model.specs.declared.error.KvError.{KvError}
use Rattle.kv_model.specs.declared.error.KvError.TheVariants.{ReadFault, WriteFault, Memory}
use Rattle.area_log.specs.Reading.{Visits}
use Rattle.tdb_mount.specs.declared.mount.Parts.{Parts}
use Rattle.tdb_mount.specs.Refusals.{IsRefusal}
use Rattle.record_core.specs.Mounts.{MasterAt, active_area}
use Rattle.record_core.specs.Endings.{kv_ended, kv_ending}
use Rattle.record_core.specs.Record.{IsMaster, master_bytes}
use Rattle.record_core.proofs.MountLemmas.{IsMaster-put, length-master_bytes, one_version}
use Rattle.tdb_mount.specs.declared.active.Active.{Active}
use Rattle.tdb_mount.specs.Choice.{ChosenIn, IsChoice}
use Rattle.tdb_mount.specs.Format.{Leaves, LeavesBy, first_erased, formatted}
use Rattle.flash_core.proofs.EraseLaws.{Torn-erased, length-erased}
use Rattle.tdb_mount.proofs.FormatLemmas.{master_in_area}

pub some_is : (x y : List ℕ) → Some x ≡ Some y → x ≡ y
some_is x y same = cc

-- an ending with no write before it
abbrev pub EndsUnwritten : Ending → Type 0
EndsUnwritten ReadFailed = Unit {0}
EndsUnwritten OutOfMemory = Unit {0}
EndsUnwritten Refused = Unit {0}
EndsUnwritten Done = ⊥
EndsUnwritten WriteFailed = ⊥

abbrev number_of : Option Active → Option ℕ
number_of found = option_map (λ (a : Active). a.number) found

area_chosen : (first second : Option ℕ) (found : Option Active) → IsChoice first second found → active_area first second ≡ number_of found
area_chosen first second None choice = choice
area_chosen first second (Some active) choice = choice.0

-- by any masters the choice is the same
leaves_by : (g : Geometry) → IsValid g → (image left : List ℕ) (ending : Ending) (found : Option Active) → ChosenIn g image found
    → LeavesBy g image left ending (number_of found) → Leaves g image left ending
leaves_by g valid image left ending found chosen leaves first second first_is second_is =
    let positive = prog_positive g valid in
    let one = one_version g.prog positive image 0 chosen.first first chosen.first_master first_is in
    let two = one_version g.prog positive image (area_size g) chosen.second second chosen.second_master second_is in
    let is : number_of found ≡ active_area first second = sym (area_chosen chosen.first chosen.second found chosen.choice) ∙ (λ i. active_area (one i) (two i)) in
    subst (LeavesBy g image left ending) is leaves

pub leaves_active : (g : Geometry) → IsValid g → (image left : List ℕ) (ending : Ending) (active : Active) → ChosenIn g image (Some active) → left ≡ image → Leaves g image left ending
leaves_active g valid image left ending active chosen same = leaves_by g valid image left ending (Some active) chosen same

pub leaves_formatted : (g : Geometry) → IsValid g → (image left : List ℕ) → ChosenIn g image None → left ≡ formatted g image → Leaves g image left Done
leaves_formatted g valid image left chosen is = leaves_by g valid image left Done None chosen is

pub leaves_torn : (g : Geometry) → IsValid g → (image left : List ℕ) → ChosenIn g image None → Torn 0 (area_size g) image left → Leaves g image left WriteFailed
leaves_torn g valid image left chosen torn = leaves_by g valid image left WriteFailed None chosen torn

-- nothing was written
same_by : (g : Geometry) (image left : List ℕ) (ending : Ending) → EndsUnwritten ending → (area : Option ℕ) → left ≡ image → LeavesBy g image left ending area
same_by g image left ending fine (Some area) same = same
same_by g image left ReadFailed fine None same = inl same
same_by g image left OutOfMemory fine None same = inl same
same_by g image left Refused fine None same = inl same
same_by g image left Done fine None same = absurd fine
same_by g image left WriteFailed fine None same = absurd fine

pub leaves_same : (g : Geometry) (image left : List ℕ) (ending : Ending) → EndsUnwritten ending → left ≡ image → Leaves g image left ending
leaves_same g image left ending fine same first second first_is second_is = same_by g image left ending fine (active_area first second) same

abbrev first_version : Active
first_version = record { number = 0; version = 1 }

abbrev some : ℕ → Option ℕ
some x = Some x

some_not_none : (x : ℕ) → some x ≡ None → ⊥
some_not_none x same = cc

pub no_first : (first second : Option ℕ) → active_area first second ≡ None → first ≡ None
no_first None None is = refl
no_first None (Some second) is = refl
no_first (Some first) None is = absurd (some_not_none 0 is)
no_first (Some first) (Some second) is = absurd (some_not_none _ is)

pub no_second : (first second : Option ℕ) → active_area first second ≡ None → second ≡ None
no_second None None is = refl
no_second None (Some second) is = absurd (some_not_none 1 is)
no_second (Some first) None is = absurd (some_not_none 0 is)
no_second (Some first) (Some second) is = absurd (some_not_none _ is)

-- the active area of what a format leaves
pub formatted_chosen : (g : Geometry) → IsValid g → (image : List ℕ) → length image ≡ size_of g → ChosenIn g image None → Torn 0 (area_size g) image (formatted g image)
    → ChosenIn g (formatted g image) (Some first_version)
formatted_chosen g valid image sized chosen torn =
    let positive = prog_positive g valid in
    let area : ℕ = area_size g in
    let size : ℕ = master_size g.prog in
    let within : size ≤ area = master_in_area g valid in
    let fits : area + size ≤ length image = omega (arith, sized, size-areas g, within) in
    let long : length (first_erased g image) ≡ length image = length-erased image 0 area (omega (arith, fits)) in
    let none : MasterAt g.prog image area None =
    subst (MasterAt g.prog image area) (no_second chosen.first chosen.second chosen.choice) chosen.second_master in
    let same : part (formatted g image) area size ≡ part image area size = part-Torn 0 area image (formatted g image) area size torn (inr (omega arith)) fits in
    record {
      first = Some 1;
      second = None;
      first_master = IsMaster-put g.prog positive (first_erased g image) 0 1 (omega arith) (omega (arith, long, within, fits));
      second_master = λ version master. none version (subst (IsMaster g.prog version) same master);
      choice = (refl, refl);
    }

-- a format differs in the first area alone
pub torn_formatted : (g : Geometry) → IsValid g → (image : List ℕ) → length image ≡ size_of g → Torn 0 (area_size g) image (formatted g image)
torn_formatted g valid image sized =
    let fits : 0 + area_size g ≤ length image = omega (arith, sized, size-areas g) in
    let long : length (first_erased g image) ≡ length image = length-erased image 0 (area_size g) fits in
    let size : length (master_bytes g.prog 1) ≡ master_size g.prog = length-master_bytes g.prog (prog_positive g valid) 1 in
    Torn-trans (Torn-erased image 0 (area_size g) (area_size g) (omega arith) fits)
    (Torn-widen 0 (length (master_bytes g.prog 1)) 0 (area_size g) (omega arith) (omega (arith, size, master_in_area g valid))
    (Torn-put (first_erased g image) 0 (master_bytes g.prog 1) (omega (arith, size, long, fits, master_in_area g valid))))

module _ (old mid new : FlashState) (valid : IsValid old.geometry) (lawful : IsLawful old) (only : OnlyReads old mid) where
  torn_since : ForSome mid.image (λ image. ForSome new.image (λ left. Torn 0 (area_size mid.geometry) image left)) → ForSome old.image (λ image. ForSome new.image (λ left. Torn 0 (area_size old.geometry) image left))
  torn_since torn image told left stands = subst (λ (g : Geometry). Torn 0 (area_size g) image left) only.geometry (torn image (only.image ∙ told) left stands)

  module _ (kept : Keeps mid new) (chosen : ForSome old.image (λ image. ChosenIn old.geometry image None)) where
    pub format_failed : ForSome mid.image (λ image. ForSome new.image (λ left. Torn 0 (area_size mid.geometry) image left)) → ForSome old.image (λ image. ForSome new.image (λ left. Leaves old.geometry image left WriteFailed))
    format_failed torn image told left stands = leaves_torn old.geometry valid image left (chosen image told) (torn_since torn image told left stands)

    module _ (is : ForSome mid.image (λ image. new.image ≡ Some (formatted mid.geometry image))) where
      format_is : (image left : List ℕ) → old.image ≡ Some image → new.image ≡ Some left → left ≡ formatted old.geometry image
      format_is image left told stands =
          some_is left (formatted old.geometry image) (sym stands ∙ is image (only.image ∙ told) ∙ ap (λ (g : Geometry). Some (formatted g image)) only.geometry)

      pub format_leaves : ForSome old.image (λ image. ForSome new.image (λ left. Leaves old.geometry image left Done))
      format_leaves image told left stands = leaves_formatted old.geometry valid image left (chosen image told) (format_is image left told stands)

      pub format_active : ForSome new.image (λ left. ChosenIn old.geometry left (Some first_version))
      format_active left stands =
          let was = told_before (Keeps-trans (Keeps-OnlyReads only) kept) stands in
          let same = format_is was.0 left was.1 stands in
          subst (λ (l : List ℕ). ChosenIn old.geometry l (Some first_version)) (sym same)
          (formatted_chosen old.geometry valid was.0 (lawful.sized was.0 was.1) (chosen was.0 was.1) (torn_formatted old.geometry valid was.0 (lawful.sized was.0 was.1)))

-- ---- from one part of a mount to the whole

abbrev Both : Type 0
Both = Result Parts KvError

-- an error that is handed on
pub leaves_handed : {T : Type 0} (g : Geometry) (image left : List ℕ) (result : Result T KvError) (e : KvError) → IsErrAnd result (λ x. x ≡ e) → Leaves g image left (kv_ending e) → Leaves g image left (kv_ended result)
leaves_handed g image left (Ok x) e is leaves = absurd is
leaves_handed g image left (Err x) e is leaves = subst (λ (k : KvError). Leaves g image left (kv_ending k)) (sym is) leaves

-- what reads behind a format leave
later_by : (g : Geometry) → IsValid g → (image left : List ℕ) → length image ≡ size_of g → (ending : Ending) (area : Option ℕ) → LeavesBy g image left Done area → LeavesBy g image left ending area
later_by g valid image left sized ending (Some area) leaves = leaves
later_by g valid image left sized Done None leaves = leaves
later_by g valid image left sized WriteFailed None leaves = subst (Torn 0 (area_size g) image) (sym leaves) (torn_formatted g valid image sized)
later_by g valid image left sized ReadFailed None leaves = inr leaves
later_by g valid image left sized OutOfMemory None leaves = inr leaves
later_by g valid image left sized Refused None leaves = inr leaves

pub found_leaves : (g : Geometry) → IsValid g → (image left : List ℕ) → length image ≡ size_of g → (ending : Ending) → Leaves g image left Done → Leaves g image left ending
found_leaves g valid image left sized ending leaves first second first_is second_is =
    later_by g valid image left sized ending (active_area first second) (leaves first second first_is second_is)

pub visits_keeps : {T : Type 0} {old new : FlashState} (result : Result T KvError) → Visits old new result → Keeps old new
visits_keeps result visit = record {
  geometry = visit.geometry;
  label = visit.label;
  tells_image = ap is_some visit.image;
  tells_moments = visit.tells_moments;
  tells_torn = visit.tells_torn;
  read_faults = visit.read_faults;
  write_faults = omega (arith, visit.write_faults);
  sound = visit.sound;
  moment = omega (arith, visit.moment);
  told = λ t call c le left. (visit.told t call c).1 left;
}

-- a refusal of a later part
module _ (old mid new : FlashState) (kept : Keeps old mid) (steady : IsTrue old.steady → IsTrue mid.steady) where
  refusal_since : (e : KvError) → IsRefusal mid new e → IsRefusal old new e
  refusal_since ReadFault cause = (Rose-since kept.read_faults cause.0, λ was. cause.1 (steady was))
  refusal_since WriteFault cause = (Rose-since kept.write_faults cause.0, λ was. cause.1 (kept.sound was))
  refusal_since Memory cause = cause
  refusal_since _ cause = absurd cause

  pub cause_since : (result : Both) → IfErr result (IsRefusal mid new) → IfErr result (IsRefusal old new)
  cause_since (Ok x) cause = tt
  cause_since (Err e) cause = refusal_since e cause
