-- What the parts of a mount do to a device.
use Rattle.std.proofs.Common.{◌≡◌, ◌⊎◌, ℕ, ◌≤◌, List, [], length, inl, inr, ⊎_elim, refl, sym, ◌∙◌, ap, subst, arith}
use Rattle.std.specs.Prelude.{Option, Some, None, Result, Ok, Err, IfErr, IsTrue}
use Rattle.std.specs.Option.{ForSome}
use Rattle.flash_core.specs.declared.geometry.Geometry.{Geometry}
use Rattle.flash_core.specs.Calls.{CountsStand, OnlyReads}
use Rattle.flash_core.specs.Runs.{AnswersFaults, Done, Ending, IsCounted, OutOfMemory, ReadFailed, ReadsBy, RunsBy, WriteFailed}
use Rattle.flash_core.specs.State.{DeviceCall, FlashState, IsLawful}
use Rattle.flash_core.proofs.RunLaws.{IsCounted-has, answers_faults, reads_then_runs, runs_none, runs_reads, runs_then, runs_weakened}
use Rattle.kv_model.specs.declared.error.KvError.{KvError}
use Rattle.kv_model.specs.declared.error.KvError.TheVariants as error
use Rattle.record_core.specs.Endings.{kv_ended, kv_ending}
use Rattle.record_core.specs.Lookup.{IsReadFault}
use Rattle.flash_core.specs.Sizes.{IsValid, area_size, size_of}
use Rattle.record_core.specs.Mounts.{MasterAt}
use Rattle.record_core.specs.Reading.{HasRead}
use Rattle.area_log.specs.Reading.{Visits}
use Rattle.tdb_mount.specs.declared.active.Active.{Active}
use Rattle.tdb_mount.specs.declared.mount.MountError.{MountError}
use Rattle.tdb_mount.specs.declared.mount.MountError.TheVariants as mount
use Rattle.tdb_mount.specs.Choice.{ChosenIn}
use Rattle.flash_core.proofs.GeometryLaws.{prog_positive}
use Rattle.kv_model.specs.Write.{map_of}
use Rattle.record_core.specs.CutMoments.{Cuts, no_contents}
use Rattle.record_core.specs.Mounts.{Contents, Holds, Mounts}
use Rattle.record_core.proofs.FormatCuts.{format_cuts}
use Rattle.record_core.proofs.MountLemmas.{one_contents}
use Rattle.record_core.proofs.RenewalCuts.{cut_weakened}
use Rattle.tdb_mount.specs.Format.{Formats, HasNoArea, Leaves, MountsAlike, MountsBy}
use Rattle.tdb_mount.specs.Refusals.{IsRefusal, IsWalkRefusal, mount_ended, mount_ending, refusal_of}
use Rattle.tdb_mount.proofs.MountLemmas.{no_first, no_second, visits_keeps}
use mathlib.Core.Bool.{false≢true}

abbrev pub Rel : Type 1
Rel = List ℕ → Option DeviceCall → List ℕ → Type 0

some_is : (x y : List ℕ) → Some x ≡ Some y → x ≡ y
some_is x y same = cc

-- a read that answered, or failed
pub read_by : {T : Type 0} {old new : FlashState} (result : Result T KvError) → HasRead old new result → ReadsBy old new (kv_ended result)
read_by (Ok x) read = record { kept = read.kept; cause = tt; counts = read.counts }
read_by {T} {old} {new} (Err e) read = subst (λ (k : KvError). ReadsBy old new (kv_ending k)) (sym read.cause.0)
    (record { kept = read.kept; cause = (read.cause.1, λ steady. false≢true (read.steady steady)); counts = read.kept.write_faults })

module _ {old new : FlashState} (R : Rel) (here : ForSome old.image (λ image. R image None image)) where
  -- memory that was wanting leaves nothing but what was read
  visit_short : {T : Type 0} (x : Result T KvError) → Visits old new x → CountsStand old new → RunsBy old new R OutOfMemory
  visit_short x visit counts = record {
    kept = visits_keeps x visit;
    cause = tt;
    counts = counts;
    steady = λ steady. tt;
    adds = λ image told. record { moment = omega (arith, visit.moment); anew = λ t call c le left. inl ((visit.told t call c).0 left) };
    stands = λ image told left stands. subst (λ (l : List ℕ). R image None l) (some_is image left (sym told ∙ sym visit.image ∙ stands)) (here image told);
    torn_stands = visit.torn;
    failed = λ image told. tt;
  }

  only_of : {T : Type 0} (x : Result T KvError) → Visits old new x → (IsTrue old.steady → IsTrue new.steady) → OnlyReads old new
  only_of x visit steady = record {
    geometry = visit.geometry;
    image = visit.image;
    label = visit.label;
    tells_moments = visit.tells_moments;
    tells_torn = visit.tells_torn;
    torn = visit.torn;
    read_faults = visit.read_faults;
    write_faults = visit.write_faults;
    steady = steady;
    sound = visit.sound;
    moment = visit.moment;
    told = visit.told;
  }

  pub visit_runs : {T : Type 0} (result : Result T KvError) → Visits old new result → IfErr result (IsWalkRefusal old new) → RunsBy old new R (kv_ended result)
  visit_runs (Ok x) visit cause = runs_reads R (record { kept = only_of (Ok x) visit visit.steady; cause = tt; counts = visit.counts }) here
  visit_runs {T} (Err e) visit (inl fault) = subst (λ (k : KvError). RunsBy old new R (kv_ending k)) (sym fault.is)
      (runs_reads R (record { kept = only_of {T = T} (Err e) visit (λ steady. absurd (fault.unsteady steady)); cause = (fault.rose, fault.unsteady); counts = visit.write_faults }) here)
  visit_runs {T} (Err e) visit (inr short) = subst (λ (k : KvError). RunsBy old new R (kv_ending k)) (sym short)
      (visit_short {T = T} (Err e) visit (subst (λ (k : KvError). IsCounted old new (kv_ending k)) short visit.counts))

-- nothing was written yet
pub untouched : (g : Geometry) (image : List ℕ) → MountsBy g image None image
untouched g image = inl (refl, refl)

pub none_valid : (g : Geometry) (image : List ℕ) → ChosenIn g image None → HasNoArea g image
none_valid g image chosen = record {
  first = subst (MasterAt g.prog image 0) (no_first chosen.first chosen.second chosen.choice) chosen.first_master;
  second = subst (MasterAt g.prog image (area_size g)) (no_second chosen.first chosen.second chosen.choice) chosen.second_master;
}

-- a format behind reads, where no area is valid
pub format_runs : {old mid new : FlashState} {ending : Ending} → ReadsBy old mid Done → ForSome old.image (λ image. ChosenIn old.geometry image None) → RunsBy mid new (Formats mid.geometry) ending
    → RunsBy old new (MountsBy old.geometry) ending
format_runs {old} {mid} {new} {ending} reads chosen runs =
    reads_then_runs reads
    (runs_weakened (MountsBy old.geometry) (λ image told call c moment. inr (
      none_valid old.geometry image (chosen image (sym reads.kept.image ∙ told)),
      subst (λ (g : Geometry). Formats g image call c) reads.kept.geometry moment,
    )) runs)
    (λ image told. untouched old.geometry image)

-- a walk behind the rest
pub walk_runs : {T : Type 0} {old mid new : FlashState} (result : Result T KvError) → RunsBy old mid (MountsBy old.geometry) Done → Visits mid new result → IfErr result (IsWalkRefusal mid new) → RunsBy old new (MountsBy old.geometry) (kv_ended result)
walk_runs {T} {old} {mid} {new} result first visit cause =
    runs_then first (visit_runs (λ now call c. (call ≡ None) × (c ≡ now)) (λ now told. (refl, refl)) result visit cause)
    (λ image now told mid_told here call c same. subst (λ (k : Option DeviceCall). MountsBy old.geometry image k c) (sym same.0) (subst (λ (l : List ℕ). MountsBy old.geometry image None l) (sym same.1) here))

-- what a part's error is to the mount ends it the same
same_ending : (old new : FlashState) (e : KvError) → IsRefusal old new e → kv_ending e ≡ mount_ending (refusal_of e)
same_ending old new error.ReadFault cause = refl
same_ending old new error.WriteFault cause = refl
same_ending old new error.Memory cause = refl
same_ending old new _ cause = absurd cause

pub mount_refused : {old new : FlashState} {R : Rel} (e : KvError) (x : MountError) → x ≡ refusal_of e → IsRefusal old new e → RunsBy old new R (kv_ending e) → RunsBy old new R (mount_ending x)
mount_refused {old} {new} {R} e x is cause runs =
    subst (λ (m : MountError). RunsBy old new R (mount_ending m)) (sym is) (subst (RunsBy old new R) (same_ending old new e cause) runs)

-- a walk's refusal is one of a mount
refusal_of_walk : (old new : FlashState) (e : KvError) → IsWalkRefusal old new e → IsRefusal old new e
refusal_of_walk old new e (inl fault) = subst (IsRefusal old new) (sym fault.is) (fault.rose, fault.unsteady)
refusal_of_walk old new e (inr short) = subst (IsRefusal old new) (sym short) tt

pub walk_cause : {T : Type 0} (old new : FlashState) (result : Result T KvError) → IfErr result (IsWalkRefusal old new) → IfErr result (IsRefusal old new)
walk_cause old new (Ok x) cause = tt
walk_cause old new (Err e) cause = refusal_of_walk old new e cause

-- ---- the answer where a count of faults rose

only_read : (e : MountError) → mount_ending e ≡ ReadFailed → e ≡ mount.ReadFault
only_read mount.ReadFault is = refl
only_read mount.BadGeometry is = cc
only_read mount.WriteFault is = cc
only_read mount.Memory is = cc

only_write : (e : MountError) → mount_ending e ≡ WriteFailed → e ≡ mount.WriteFault
only_write mount.WriteFault is = refl
only_write mount.BadGeometry is = cc
only_write mount.ReadFault is = cc
only_write mount.Memory is = cc

pub mount_answers : {T : Type 0} {old new : FlashState} {R : Rel} (result : Result T MountError) → RunsBy old new R (mount_ended result) → AnswersFaults old new mount.ReadFault mount.WriteFault result
mount_answers result runs = answers_faults mount_ending mount.ReadFault mount.WriteFault only_read only_write result runs.counts

-- ---- what each moment of a mount mounts to

mounts_cuts : (g : Geometry) → IsValid g → (image : List ℕ) → length image ≡ size_of g → (call : Option DeviceCall) (now : List ℕ) → MountsBy g image call now → Cuts g (MountsAlike g) image call now
mounts_cuts g valid image sized call now (inl same) =
    subst (λ (k : Option DeviceCall). Cuts g (MountsAlike g) image k now) (sym same.0) (subst (λ (l : List ℕ). Cuts g (MountsAlike g) image None l) (sym same.1) (λ map mounts. mounts))
mounts_cuts g valid image sized call now (inr formats) =
    let none : Holds g image no_contents = record { first_master = formats.0.first; second_master = formats.0.second; active = (refl, refl) } in
    let alike : (c : List ℕ) → Mounts g c (map_of []) → MountsAlike g image c =
    λ c empty map mounts. subst (Mounts g c) (ap (λ (x : Contents). map_of x.records) (one_contents g image (prog_positive g valid) no_contents mounts.0 none mounts.1) ∙ sym mounts.2) empty in
    cut_weakened g (λ (c : List ℕ). Mounts g c (map_of [])) (MountsAlike g image) alike call now (format_cuts g valid image sized none call now formats.1)

pub mount_cuts : {old new : FlashState} {ending : Ending} → IsValid old.geometry → IsLawful old → RunsBy old new (MountsBy old.geometry) ending → RunsBy old new (Cuts old.geometry (MountsAlike old.geometry)) ending
mount_cuts {old} {new} {ending} valid lawful runs =
    runs_weakened (Cuts old.geometry (MountsAlike old.geometry)) (λ image told call c moment. mounts_cuts old.geometry valid image (lawful.sized image told) call c moment) runs

-- what a part's refusal leaves is what the mount's does
pub mount_leaves : (old new : FlashState) (g : Geometry) (image left : List ℕ) (e : KvError) (x : MountError) → x ≡ refusal_of e → IsRefusal old new e → Leaves g image left (kv_ending e) → Leaves g image left (mount_ending x)
mount_leaves old new g image left e x is cause leaves =
    subst (λ (m : MountError). Leaves g image left (mount_ending m)) (sym is) (subst (Leaves g image left) (same_ending old new e cause) leaves)

-- want of memory counts no fault
pub memory_counts : {T : Type 0} {old new : FlashState} (result : Result T KvError) → IfErr result (λ e. e ≡ error.Memory) → CountsStand old new → IsCounted old new (kv_ended result)
memory_counts result only counts = IsCounted-has _ _ (kv_ended result) counts
