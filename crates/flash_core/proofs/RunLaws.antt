-- How calls that run a device are joined.
use Rattle.std.proofs.Common.{◌≡◌, ◌⊎◌, ℕ, ◌+◌, ◌≤◌, List, length, inl, inr, ⊎_elim, refl, sym, ◌∙◌, ap, arith, subst}
use Rattle.std.specs.Prelude.{◌<◌, Option, Some, None, Result, Ok, Err, IsErr, IsOk, IsTrue, IfErr}
use Rattle.std.specs.Option.{ForSome}
use mathlib.Core.Bool.{false≢true}
use Rattle.base_core.proofs.CountLemmas.{Rose-since}
use Rattle.flash_core.specs.declared.flash.FlashFault.{FlashFault}
use Rattle.flash_core.specs.declared.flash.FlashFault.TheVariants.{Read, Write}
use Rattle.flash_core.specs.Calls.{CountsStand, IsMomentWithin, Keeps, OnlyReads, Reads, Writes}
use Rattle.flash_core.specs.Images.{put}
use Rattle.flash_core.specs.Runs.{Ending, Done, ReadFailed, WriteFailed, OutOfMemory, Refused, AnswersFaults, IfFailed, IsCause, IsCauseOfRead, IsCounted, ReadsBy, RunsBy, UnlessFailed, UnlessShort, ended, ending_by, fault_ending}
use Rattle.flash_core.specs.State.{DeviceCall, FlashState}
use Rattle.flash_core.proofs.KeptLaws.{Keeps-OnlyReads, Keeps-trans, OnlyReads-refl, OnlyReads-trans, told_after}
use Rattle.flash_core.proofs.MomentLaws.{failed_inside, failed_weakened, joined, only_reads, weakened}

-- ---- what is said unless a call failed

pub UnlessFailed-map : (ending : Ending) {P Q : Type 0} → (P → Q) → UnlessFailed ending P → UnlessFailed ending Q
UnlessFailed-map Done f p = f p
UnlessFailed-map ReadFailed f p = f p
UnlessFailed-map WriteFailed f p = tt
UnlessFailed-map OutOfMemory f p = f p
UnlessFailed-map Refused f p = f p

pub UnlessFailed-has : (ending : Ending) {P : Type 0} → P → UnlessFailed ending P
UnlessFailed-has Done p = p
UnlessFailed-has ReadFailed p = p
UnlessFailed-has WriteFailed p = tt
UnlessFailed-has OutOfMemory p = p
UnlessFailed-has Refused p = p

pub UnlessShort-map : (ending : Ending) {P Q : Type 0} → (P → Q) → UnlessShort ending P → UnlessShort ending Q
UnlessShort-map Done f p = f p
UnlessShort-map ReadFailed f p = f p
UnlessShort-map WriteFailed f p = tt
UnlessShort-map OutOfMemory f p = tt
UnlessShort-map Refused f p = f p

pub UnlessShort-has : (ending : Ending) {P : Type 0} → P → UnlessShort ending P
UnlessShort-has Done p = p
UnlessShort-has ReadFailed p = p
UnlessShort-has WriteFailed p = tt
UnlessShort-has OutOfMemory p = tt
UnlessShort-has Refused p = p

pub IfFailed-map : (ending : Ending) {P Q : Type 0} → (P → Q) → IfFailed ending P → IfFailed ending Q
IfFailed-map Done f p = tt
IfFailed-map ReadFailed f p = tt
IfFailed-map WriteFailed f p = f p
IfFailed-map OutOfMemory f p = tt
IfFailed-map Refused f p = tt

-- an ending that names no fault
abbrev pub NoFault : Ending → Type 0
NoFault ReadFailed = ⊥
NoFault WriteFailed = ⊥
NoFault Done = Unit {0}
NoFault OutOfMemory = Unit {0}
NoFault Refused = Unit {0}

-- ---- counts of faults

pub counts_same : {a b c : FlashState} → CountsStand a b → CountsStand b c → CountsStand a c
counts_same first second = record { of_reads = second.of_reads ∙ first.of_reads; of_writes = second.of_writes ∙ first.of_writes }

-- behind calls that counted no fault
pub IsCounted-then : (old mid new : FlashState) (ending : Ending) → CountsStand old mid → IsCounted mid new ending → IsCounted old new ending
IsCounted-then old mid new ReadFailed stand counts = counts ∙ stand.of_writes
IsCounted-then old mid new WriteFailed stand counts = counts ∙ stand.of_reads
IsCounted-then old mid new Done stand counts = counts_same stand counts
IsCounted-then old mid new OutOfMemory stand counts = counts_same stand counts
IsCounted-then old mid new Refused stand counts = counts_same stand counts

pub IsCounted-has : (old new : FlashState) (ending : Ending) → CountsStand old new → IsCounted old new ending
IsCounted-has old new ReadFailed stand = stand.of_writes
IsCounted-has old new WriteFailed stand = stand.of_reads
IsCounted-has old new Done stand = stand
IsCounted-has old new OutOfMemory stand = stand
IsCounted-has old new Refused stand = stand

-- where a count of faults rose, the ending is that fault
pub read_rose : (old new : FlashState) (ending : Ending) → IsCounted old new ending → old.read_faults < new.read_faults → ending ≡ ReadFailed
read_rose old new ReadFailed counts rose = refl
read_rose old new WriteFailed counts rose = absurd (omega (arith, counts, rose))
read_rose old new Done counts rose = absurd (omega (arith, counts.of_reads, rose))
read_rose old new OutOfMemory counts rose = absurd (omega (arith, counts.of_reads, rose))
read_rose old new Refused counts rose = absurd (omega (arith, counts.of_reads, rose))

pub write_rose : (old new : FlashState) (ending : Ending) → IsCounted old new ending → old.write_faults < new.write_faults → ending ≡ WriteFailed
write_rose old new ReadFailed counts rose = absurd (omega (arith, counts, rose))
write_rose old new WriteFailed counts rose = refl
write_rose old new Done counts rose = absurd (omega (arith, counts.of_writes, rose))
write_rose old new OutOfMemory counts rose = absurd (omega (arith, counts.of_writes, rose))
write_rose old new Refused counts rose = absurd (omega (arith, counts.of_writes, rose))

done_is_no_fault : {P : Type 0} (ending : Ending) → (ending ≡ ReadFailed) ⊎ (ending ≡ WriteFailed) → Done ≡ ending → P
done_is_no_fault ending (inl failed) is = cc
done_is_no_fault ending (inr failed) is = cc

abbrev refusal : (T E : Type 0) → E → Result T E
refusal T E e = Err e

error_is : {T E : Type 0} (of_error : E → Ending) (ending : Ending) (fault : E) → (ending ≡ ReadFailed) ⊎ (ending ≡ WriteFailed) → ((e : E) → of_error e ≡ ending → e ≡ fault) → (result : Result T E) → ending_by of_error result ≡ ending → result ≡ Err fault
error_is of_error ending fault failed only (Ok x) is = done_is_no_fault ending failed is
error_is {T} {E} of_error ending fault failed only (Err e) is = ap (refusal T E) (only e is)

-- So is the answer, by what each error says of its ending: these two alone are faults.
pub answers_faults : {T E : Type 0} {old new : FlashState} (of_error : E → Ending) (read write : E) → ((e : E) → of_error e ≡ ReadFailed → e ≡ read) → ((e : E) → of_error e ≡ WriteFailed → e ≡ write) → (result : Result T E)
    → IsCounted old new (ending_by of_error result) → AnswersFaults old new read write result
answers_faults {T} {E} {old} {new} of_error read write only_read only_write result counts = record {
  of_reads = λ rose. error_is of_error ReadFailed read (inl refl) only_read result (read_rose old new (ending_by of_error result) counts rose);
  of_writes = λ rose. error_is of_error WriteFailed write (inr refl) only_write result (write_rose old new (ending_by of_error result) counts rose);
}

-- ---- readers

pub reads_none : (s : FlashState) (ending : Ending) → NoFault ending → ReadsBy s s ending
reads_none s Done fine = record { kept = OnlyReads-refl s; cause = tt; counts = record { of_reads = refl; of_writes = refl } }
reads_none s OutOfMemory fine = record { kept = OnlyReads-refl s; cause = tt; counts = record { of_reads = refl; of_writes = refl } }
reads_none s Refused fine = record { kept = OnlyReads-refl s; cause = tt; counts = record { of_reads = refl; of_writes = refl } }
reads_none s ReadFailed fine = absurd fine
reads_none s WriteFailed fine = absurd fine

cause_of_read : (old mid new : FlashState) (ending : Ending) → OnlyReads old mid → IsCauseOfRead mid new ending → IsCauseOfRead old new ending
cause_of_read old mid new ReadFailed only cause = (Rose-since only.read_faults cause.0, λ steady. cause.1 (only.steady steady))
cause_of_read old mid new WriteFailed only cause = cause
cause_of_read old mid new Done only cause = tt
cause_of_read old mid new OutOfMemory only cause = tt
cause_of_read old mid new Refused only cause = tt

-- a reader behind others
pub reads_then : {old mid new : FlashState} {ending : Ending} → ReadsBy old mid Done → ReadsBy mid new ending → ReadsBy old new ending
reads_then {old} {mid} {new} {ending} first reads = record {
  kept = OnlyReads-trans first.kept reads.kept;
  cause = cause_of_read old mid new ending first.kept reads.cause;
  counts = IsCounted-then old mid new ending first.counts reads.counts;
}

-- a reader that ended well, and then refuses
pub reads_end : {old new : FlashState} (ending : Ending) → NoFault ending → ReadsBy old new Done → ReadsBy old new ending
reads_end Done fine reads = reads
reads_end OutOfMemory fine reads = record { kept = reads.kept; cause = tt; counts = reads.counts }
reads_end Refused fine reads = record { kept = reads.kept; cause = tt; counts = reads.counts }
reads_end ReadFailed fine reads = absurd fine
reads_end WriteFailed fine reads = absurd fine

not_ok : (T : Type 0) {E : Type 0} (e : E) → IsOk {T = T} (Err e) → ⊥
not_ok T e is = false≢true is

pub one_read : {T : Type 0} {old new : FlashState} {place : ℕ} {buf : List ℕ} (result : Result T FlashFault) → Reads old new place buf result → ReadsBy old new (ended result)
one_read (Ok x) read = record { kept = read.kept; cause = tt; counts = read.counts }
one_read {T} (Err Read) read = record { kept = read.kept; cause = (read.cause.1, λ steady. not_ok T Read (read.steady steady)); counts = read.kept.write_faults }
one_read (Err Write) read = cc (read.cause.0)

-- ---- what every call may do

cause_of_reader : (old new : FlashState) (ending : Ending) → IsCauseOfRead old new ending → IsCause old new ending
cause_of_reader old new ReadFailed cause = cause
cause_of_reader old new WriteFailed cause = absurd cause
cause_of_reader old new Done cause = tt
cause_of_reader old new OutOfMemory cause = tt
cause_of_reader old new Refused cause = tt

never_failed : (old new : FlashState) (P : Type 0) (ending : Ending) → IsCauseOfRead old new ending → IfFailed ending P
never_failed old new P WriteFailed cause = absurd cause
never_failed old new P Done cause = tt
never_failed old new P ReadFailed cause = tt
never_failed old new P OutOfMemory cause = tt
never_failed old new P Refused cause = tt

some_is : {X : Type 0} (x y : X) → Some x ≡ Some y → x ≡ y
some_is x y same = cc

-- a reader, where the image that it finds has R
pub runs_reads : {old new : FlashState} {ending : Ending} (R : List ℕ → Option DeviceCall → List ℕ → Type 0) → ReadsBy old new ending → ForSome old.image (λ image. R image None image) → RunsBy old new R ending
runs_reads {old} {new} {ending} R reads here = record {
  kept = Keeps-OnlyReads reads.kept;
  cause = cause_of_reader old new ending reads.cause;
  counts = reads.counts;
  steady = λ steady. UnlessShort-has ending (reads.kept.steady steady);
  adds = λ image told. only_reads (R image) reads.kept;
  stands = λ image told. UnlessFailed-has ending (λ left stands. subst (λ (l : List ℕ). R image None l) (some_is image left (sym told ∙ sym reads.kept.image ∙ stands)) (here image told));
  torn_stands = UnlessFailed-has ending reads.kept.torn;
  failed = λ image told. never_failed old new _ ending reads.cause;
}

-- no call at all
pub runs_none : (s : FlashState) (R : List ℕ → Option DeviceCall → List ℕ → Type 0) (ending : Ending) → NoFault ending → ForSome s.image (λ image. R image None image) → RunsBy s s R ending
runs_none s R ending fine here = runs_reads R (reads_none s ending fine) here

-- a run that ended well, and then refuses
pub runs_end : {old new : FlashState} {R : List ℕ → Option DeviceCall → List ℕ → Type 0} (ending : Ending) → NoFault ending → RunsBy old new R Done → RunsBy old new R ending
runs_end Done fine runs = runs
runs_end OutOfMemory fine runs = record {
  kept = runs.kept;
  cause = tt;
  counts = runs.counts;
  steady = λ steady. tt;
  adds = runs.adds;
  stands = runs.stands;
  torn_stands = runs.torn_stands;
  failed = λ image told. tt;
}
runs_end ReadFailed fine runs = absurd fine
runs_end WriteFailed fine runs = absurd fine
runs_end Refused fine runs = record {
  kept = runs.kept;
  cause = tt;
  counts = runs.counts;
  steady = runs.steady;
  adds = runs.adds;
  stands = runs.stands;
  torn_stands = runs.torn_stands;
  failed = λ image told. tt;
}

-- what R says, S says
pub runs_weakened : {old new : FlashState} {R : List ℕ → Option DeviceCall → List ℕ → Type 0} {ending : Ending} (S : List ℕ → Option DeviceCall → List ℕ → Type 0)
    → ((image : List ℕ) → old.image ≡ Some image → (call : Option DeviceCall) (c : List ℕ) → R image call c → S image call c) → RunsBy old new R ending → RunsBy old new S ending
runs_weakened {old} {new} {R} {ending} S implies runs = record {
  kept = runs.kept;
  cause = runs.cause;
  counts = runs.counts;
  steady = runs.steady;
  adds = λ image told. weakened (S image) (implies image told) (runs.adds image told);
  stands = λ image told. UnlessFailed-map ending (λ has left stands. implies image told None left (has left stands)) (runs.stands image told);
  torn_stands = runs.torn_stands;
  failed = λ image told. IfFailed-map ending (λ has left stands. failed_weakened (S image) (implies image told) (has left stands)) (runs.failed image told);
}

cause_then : (old mid new : FlashState) (ending : Ending) → Keeps old mid → (IsTrue old.steady → IsTrue mid.steady) → IsCause mid new ending → IsCause old new ending
cause_then old mid new ReadFailed kept still cause = (Rose-since kept.read_faults cause.0, λ steady. cause.1 (still steady))
cause_then old mid new WriteFailed kept still cause = (Rose-since kept.write_faults cause.0, λ sound. cause.1 (kept.sound sound))
cause_then old mid new Done kept still cause = tt
cause_then old mid new OutOfMemory kept still cause = tt
cause_then old mid new Refused kept still cause = tt

-- two runs, one after the other: each moment of the second, over the image that the first left, has R of the first image
pub runs_then : {old mid new : FlashState} {R S : List ℕ → Option DeviceCall → List ℕ → Type 0} {ending : Ending} → RunsBy old mid R Done → RunsBy mid new S ending
    → ((image now : List ℕ) → old.image ≡ Some image → mid.image ≡ Some now → R image None now → (call : Option DeviceCall) (c : List ℕ) → S now call c → R image call c) → RunsBy old new R ending
runs_then {old} {mid} {new} {R} {S} {ending} first second fits = record {
  kept = Keeps-trans first.kept second.kept;
  cause = cause_then old mid new ending first.kept first.steady second.cause;
  counts = IsCounted-then old mid new ending first.counts second.counts;
  steady = λ steady. second.steady (first.steady steady);
  adds = λ image told.
      let now = told_after first.kept told in
      joined (first.adds image told)
      (weakened (R image) (fits image now.0 told now.1 (first.stands image told now.0 now.1)) (second.adds now.0 now.1));
  stands = λ image told.
      let now = told_after first.kept told in
      UnlessFailed-map ending (λ has left stands. fits image now.0 told now.1 (first.stands image told now.0 now.1) None left (has left stands)) (second.stands now.0 now.1);
  torn_stands = UnlessFailed-map ending (λ same. same ∙ first.torn_stands) second.torn_stands;
  failed = λ image told.
      let now = told_after first.kept told in
      IfFailed-map ending (λ has left stands. failed_weakened (R image) (fits image now.0 told now.1 (first.stands image told now.0 now.1)) (has left stands)) (second.failed now.0 now.1);
}

-- reads behind a run
pub runs_reads_more : {old mid new : FlashState} {R : List ℕ → Option DeviceCall → List ℕ → Type 0} {ending : Ending} → RunsBy old mid R Done → ReadsBy mid new ending → RunsBy old new R ending
runs_reads_more {old} {mid} {new} {R} {ending} first reads =
    runs_then first (runs_reads (λ now call c. (call ≡ None) × (c ≡ now)) reads (λ now told. (refl, refl)))
    (λ image now told mid_told here call c same. subst (λ (k : Option DeviceCall). R image k c) (sym same.0) (subst (λ (l : List ℕ). R image None l) (sym same.1) here))

-- a run behind reads
pub reads_then_runs : {old mid new : FlashState} {R : List ℕ → Option DeviceCall → List ℕ → Type 0} {ending : Ending} → ReadsBy old mid Done → RunsBy mid new R ending
    → ForSome old.image (λ image. R image None image) → RunsBy old new R ending
reads_then_runs {old} {mid} {new} {R} {ending} reads runs here =
    runs_then (runs_reads R reads here) runs
    (λ image now told mid_told was call c has. subst (λ (l : List ℕ). R l call c) (sym (some_is image now (sym told ∙ sym reads.kept.image ∙ mid_told))) has)

-- one program or erase, each of whose moments has R
pub one_write : {T : Type 0} {old new : FlashState} {place : ℕ} {bytes : List ℕ} (R : List ℕ → Option DeviceCall → List ℕ → Type 0) (result : Result T FlashFault) → Writes old new place bytes result
    → ForSome old.image (λ image. place + length bytes ≤ length image) → ForSome old.image (λ image. R image None image)
    → ForSome old.image (λ image. (call : Option DeviceCall) (c : List ℕ) → IsMomentWithin image place bytes call c → R image call c) → RunsBy old new R (ended result)
one_write {T} {old} {new} {place} {bytes} R (Ok x) wrote fits was here = record {
  kept = wrote.kept;
  cause = tt;
  counts = wrote.counts;
  steady = wrote.steady;
  adds = λ image told. weakened (R image) (λ call c moment. here image told call c moment.0) (wrote.adds image told);
  stands = λ image told left stands. subst (λ (l : List ℕ). R image None l) (some_is (put image place bytes) left (sym (wrote.written image told) ∙ stands)) (here image told None (put image place bytes) refl);
  torn_stands = wrote.torn_stands;
  failed = λ image told. tt;
}
one_write {T} {old} {new} {place} {bytes} R (Err Write) wrote fits was here = record {
  kept = wrote.kept;
  cause = (wrote.cause.1, λ sound. not_ok T Write (wrote.sound sound));
  counts = wrote.reads_stand;
  steady = λ steady. tt;
  adds = λ image told. weakened (R image) (λ call c moment. here image told call c moment.0) (wrote.adds image told);
  stands = λ image told. tt;
  torn_stands = tt;
  failed = λ image told. failed_inside {T = T} (R image) (Err Write) wrote told (fits image told) (was image told) (here image told);
}
one_write {T} {old} {new} {place} {bytes} R (Err Read) wrote fits was here = cc (wrote.cause.0)

-- the image between two calls, or a moment of the second
abbrev pub IsStep : ℕ → List ℕ → List ℕ → Option DeviceCall → List ℕ → Type 0
IsStep place bytes now call c = ((call ≡ None) × (c ≡ now)) ⊎ IsMomentWithin now place bytes call c

-- a program or erase behind a run
pub runs_more : {T : Type 0} {old mid new : FlashState} {R : List ℕ → Option DeviceCall → List ℕ → Type 0} {place : ℕ} {bytes : List ℕ} (result : Result T FlashFault) → RunsBy old mid R Done → Writes mid new place bytes result
    → ForSome mid.image (λ now. place + length bytes ≤ length now)
    → ((image now : List ℕ) → old.image ≡ Some image → mid.image ≡ Some now → R image None now → (call : Option DeviceCall) (c : List ℕ) → IsMomentWithin now place bytes call c → R image call c) → RunsBy old new R (ended result)
runs_more {T} {old} {mid} {new} {R} {place} {bytes} result first wrote fits here =
    runs_then first (one_write (IsStep place bytes) result wrote fits (λ now told. inl (refl, refl)) (λ now told call c moment. inr moment))
    (λ image now told mid_told was call c step. ⊎_elim
    (λ same. subst (λ (k : Option DeviceCall). R image k c) (sym same.0) (subst (λ (l : List ℕ). R image None l) (sym same.1) was))
    (λ moment. here image now told mid_told was call c moment) step)

-- a write's fault, handed on
pub handed_on : {U : Type 0} {old new : FlashState} {R : List ℕ → Option DeviceCall → List ℕ → Type 0} {e : FlashFault} (r : Result U FlashFault) → IsErr r → IfErr r (λ f. f ≡ Write) → e ≡ Write → RunsBy old new R (fault_ending e) → RunsBy old new R (ended r)
handed_on {U} {old} {new} {R} {e} (Ok x) is same write runs = absurd (false≢true is)
handed_on {U} {old} {new} {R} {e} (Err Write) is same write runs = subst (λ (f : FlashFault). RunsBy old new R (fault_ending f)) write runs
handed_on {U} {old} {new} {R} {e} (Err Read) is same write runs = cc same
