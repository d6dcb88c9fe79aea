-- That what a chip does is what a device may do.
use Rattle.std.proofs.Common.{◌≡◌, ℕ, ◌+◌, ◌/◌, ◌≤◌, ◌↔◌, Bool, true, false, IsTrue, List, length, take, drop, inl, inr, refl, sym, ◌∙◌, ap, arith, subst, if◌then◌else◌}
use Rattle.std.specs.Prelude.{Option, Some, None, Result, Ok, Err, IsOk, IfErr, OnOk, not, ◌&&◌, is_some}
use mathlib.Core.Bool.{false≢true}
use Rattle.std.proofs.lemmas.List.{length-append, length-drop, length-replicate, length-take}
use Rattle.base_core.specs.Counts.{Rose, counted}
use Rattle.base_core.proofs.CountLemmas.{Rose-counted, counted-ge}
use Rattle.kv_model.specs.declared.pattern.Pattern.{Pattern}
use Rattle.kv_model.specs.declared.pattern.Pattern.TheVariants as pattern
use Rattle.flash_core.specs.declared.flash.FlashFault.{FlashFault}
use Rattle.flash_core.specs.declared.flash.FlashFault.TheVariants.{Read, Write}
use Rattle.flash_core.specs.Calls.{OnlyReads, Reads, Writes}
use Rattle.flash_core.specs.Images.{part, put, Torn}
use Rattle.flash_core.specs.State.{call_at}
use Rattle.flash_core.proofs.ImageLaws.{Torn-put, Torn-refl, length-part}
use Rattle.flash_sim.specs.ChipState.{ArmState, ChipState, Fate, Goes, Fails, Tears, after_read, after_write, armed_after, device_of, fate_by, fate_of, is_steady, read_fails}
use Rattle.flash_sim.specs.Patterns.{torn_bytes}
use Rattle.flash_sim.specs.Plan.{PlanState, after_call, after_fault, is_named, is_to_come}
use Rattle.flash_sim.proofs.MixLaws.{length-mixed}
use Rattle.flash_sim.proofs.PlanLaws.{none_named, none_to_come}

some_is : {X : Type 0} (x y : X) → Some x ≡ Some y → x ≡ y
some_is x y same = cc

pub length-torn_bytes : (p : Pattern) (before after : List ℕ) → length before ≡ length after → length (torn_bytes p before after) ≡ length after
length-torn_bytes pattern.None before after same = same
length-torn_bytes pattern.Half before after same =
    let half : ℕ = length after / 2 in
    omega (arith, length-append (take half after) (drop half before), length-take half after, length-drop half before, same)
length-torn_bytes pattern.Zero before after same = length-replicate (length before) 0 ∙ same
length-torn_bytes pattern.All before after same = refl
length-torn_bytes (pattern.Mix seed) before after same = length-mixed seed (length before) ∙ same

-- ---- steady and sound

-- what a steady chip lacks
pub record Lacks (torn reads writes : Bool) : Type 0 where
  pub tear : torn ≡ false
  pub of_reads : reads ≡ false
  pub of_writes : writes ≡ false

lacks : (torn reads writes : Bool) → IsTrue (not torn && (not reads && not writes)) → Lacks torn reads writes
lacks false false false is = record { tear = refl; of_reads = refl; of_writes = refl }
lacks false false true is = absurd (false≢true is)
lacks false true writes is = absurd (false≢true is)
lacks true reads writes is = absurd (false≢true is)

lacking : (torn reads writes : Bool) → Lacks torn reads writes → IsTrue (not torn && (not reads && not writes))
lacking false false false is = refl
lacking false false true is = absurd (false≢true (sym is.of_writes))
lacking false true writes is = absurd (false≢true (sym is.of_reads))
lacking true reads writes is = absurd (false≢true (sym is.tear))

both : (a b : Bool) → IsTrue (a && not b) → IsTrue a × (b ≡ false)
both true false is = (refl, refl)
both true true is = absurd (false≢true is)
both false b is = absurd (false≢true is)

both_are : (a b : Bool) → IsTrue a → b ≡ false → IsTrue (a && not b)
both_are true false is none = refl
both_are true true is none = absurd (false≢true (sym none))
both_are false b is none = absurd (false≢true is)

steady_lacks : (chip : ChipState) → IsTrue (is_steady chip) → Lacks (is_some chip.torn) (is_to_come chip.reads) (is_to_come chip.writes)
steady_lacks chip is = lacks (is_some chip.torn) (is_to_come chip.reads) (is_to_come chip.writes) is

unarmed : (armed : Option ArmState) → is_some armed ≡ false → (torn named : Bool) → torn ≡ false → named ≡ false → fate_by torn armed named ≡ Goes
unarmed None is false false not_torn not_named = refl
unarmed None is false true not_torn not_named = absurd (false≢true (sym not_named))
unarmed None is true named not_torn not_named = absurd (false≢true (sym not_torn))
unarmed (Some a) is torn named not_torn not_named = absurd (false≢true (sym is))

-- on a sound chip each write goes on
pub sound_goes : (chip : ChipState) → IsTrue (is_steady chip && not (is_some chip.armed)) → fate_of chip ≡ Goes
sound_goes chip is =
    let parts = both (is_steady chip) (is_some chip.armed) is in
    let none = steady_lacks chip parts.0 in
    unarmed chip.armed parts.1 (is_some chip.torn) (is_named chip.writes) none.tear (none_named chip.writes.named chip.writes.next none.of_writes)

stays_unarmed : (torn : Bool) (armed : Option ArmState) → is_some armed ≡ false → is_some (armed_after torn armed) ≡ false
stays_unarmed true armed is = is
stays_unarmed false None is = refl
stays_unarmed false (Some a) is = absurd (false≢true (sym is))

goes_not_fails : Goes ≡ Fails → ⊥
goes_not_fails same = cc

goes_not_tears : (p : Pattern) → Goes ≡ Tears p → ⊥
goes_not_tears p same = cc

-- ---- writes

module _ (T : Type 0) (chip : ChipState) (place : ℕ) (bytes : List ℕ) (fits : place + length bytes ≤ length chip.image) where
  steady_on : IsTrue (is_steady chip) → IsTrue (is_steady (after_write Goes chip place bytes))
  steady_on is =
      let none = steady_lacks chip is in
      lacking (is_some chip.torn) (is_to_come chip.reads) (is_to_come (after_call chip.writes))
      (record { tear = none.tear; of_reads = none.of_reads; of_writes = none_to_come chip.writes.named chip.writes.next (counted chip.writes.next) (counted-ge chip.writes.next) none.of_writes })

  sound_on : IsTrue (is_steady chip && not (is_some chip.armed)) → IsTrue (is_steady (after_write Goes chip place bytes) && not (is_some (armed_after (is_some chip.torn) chip.armed)))
  sound_on is =
      let parts = both (is_steady chip) (is_some chip.armed) is in
      both_are (is_steady (after_write Goes chip place bytes)) (is_some (armed_after (is_some chip.torn) chip.armed)) (steady_on parts.0) (stays_unarmed (is_some chip.torn) chip.armed parts.1)

  wrote_on : (x : T) → Writes (device_of chip) (device_of (after_write Goes chip place bytes)) place bytes (Ok x)
  wrote_on x = record {
    kept = record {
      geometry = refl;
      label = refl;
      tells_image = refl;
      tells_moments = refl;
      tells_torn = refl;
      read_faults = omega arith;
      write_faults = omega arith;
      sound = sound_on;
      moment = omega arith;
      told = λ t call c le left. left;
    };
    steady = steady_on;
    sound = λ sound. refl;
    cause = tt;
    counts = record { of_reads = refl; of_writes = refl };
    reads_stand = refl;
    written = λ was told. ap (λ (l : List ℕ). Some (put l place bytes)) (some_is chip.image was told);
    failed = λ was told. tt;
    adds = λ was told. record { moment = omega arith; anew = λ t call c le left. inl left };
    tells = λ tells. absurd (false≢true tells);
    torn_stands = refl;
    torn = λ tells was told. tt;
  }

  wrote_not : fate_of chip ≡ Fails → Writes {T = T} (device_of chip) (device_of (after_write Fails chip place bytes)) place bytes (Err Write)
  wrote_not fate = record {
    kept = record {
      geometry = refl;
      label = refl;
      tells_image = refl;
      tells_moments = refl;
      tells_torn = refl;
      read_faults = omega arith;
      write_faults = counted-ge chip.writes.faults;
      sound = λ sound. absurd (goes_not_fails (sym (sound_goes chip sound) ∙ fate));
      moment = omega arith;
      told = λ t call c le left. left;
    };
    steady = λ steady. tt;
    sound = λ sound. absurd (goes_not_fails (sym (sound_goes chip sound) ∙ fate));
    cause = (refl, Rose-counted chip.writes.faults);
    counts = tt;
    reads_stand = refl;
    written = λ was told. tt;
    failed = λ was told left stands. subst (λ (l : List ℕ). Torn place (length bytes) was l) (some_is was left (sym told ∙ stands)) (Torn-refl place (length bytes) was);
    adds = λ was told. record { moment = omega arith; anew = λ t call c le left. inl left };
    tells = λ tells. absurd (false≢true tells);
    torn_stands = tt;
    torn = λ tells was told. inr (refl, refl);
  }

  wrote_torn : (p : Pattern) → fate_of chip ≡ Tears p → Writes {T = T} (device_of chip) (device_of (after_write (Tears p) chip place bytes)) place bytes (Err Write)
  wrote_torn p fate =
      let before : List ℕ = part chip.image place (length bytes) in
      let left_there : List ℕ = torn_bytes p before bytes in
      let long : length left_there ≡ length bytes = length-torn_bytes p before bytes (length-part chip.image place (length bytes) fits) in
      let torn : Torn place (length bytes) chip.image (put chip.image place left_there) =
      subst (λ (n : ℕ). Torn place n chip.image (put chip.image place left_there)) long (Torn-put chip.image place left_there (omega (arith, long, fits))) in
      record {
        kept = record {
          geometry = refl;
          label = refl;
          tells_image = refl;
          tells_moments = refl;
          tells_torn = refl;
          read_faults = omega arith;
          write_faults = counted-ge chip.writes.faults;
          sound = λ sound. absurd (goes_not_tears p (sym (sound_goes chip sound) ∙ fate));
          moment = omega arith;
          told = λ t call c le left. left;
        };
        steady = λ steady. tt;
        sound = λ sound. absurd (goes_not_tears p (sym (sound_goes chip sound) ∙ fate));
        cause = (refl, Rose-counted chip.writes.faults);
        counts = tt;
        reads_stand = refl;
        written = λ was told. tt;
        failed = λ was told left stands.
            subst (λ (l : List ℕ). Torn place (length bytes) l left) (some_is chip.image was told)
            (subst (λ (l : List ℕ). Torn place (length bytes) chip.image l) (some_is (put chip.image place left_there) left stands) torn);
        adds = λ was told. record { moment = omega arith; anew = λ t call c le left. inl left };
        tells = λ tells. absurd (false≢true tells);
        torn_stands = tt;
        torn = λ tells was told. inl (ap (λ (l : List ℕ). Some (call_at l place bytes)) (some_is chip.image was told));
      }

  not_ok : {E : Type 0} (e : E) → IsOk {T = T} (Err e) → ⊥
  not_ok e is = false≢true is

  by_fate : (fate : Fate) → fate_of chip ≡ fate → (r : Result T FlashFault) → (IsOk r ↔ (fate ≡ Goes)) → IfErr r (λ f. f ≡ Write) → Writes (device_of chip) (device_of (after_write fate chip place bytes)) place bytes r
  by_fate Goes is (Ok x) ok same = wrote_on x
  by_fate Goes is (Err e) ok same = absurd (not_ok e (ok.1 refl))
  by_fate Fails is (Ok x) ok same = absurd (goes_not_fails (sym (ok.0 refl)))
  by_fate Fails is (Err Write) ok same = wrote_not is
  by_fate Fails is (Err Read) ok same = cc same
  by_fate (Tears p) is (Ok x) ok same = absurd (goes_not_tears p (sym (ok.0 refl)))
  by_fate (Tears p) is (Err Write) ok same = wrote_torn p is
  by_fate (Tears p) is (Err Read) ok same = cc same

  -- a write of the chip is one of a device
  pub chip_writes : (now : ChipState) (r : Result T FlashFault) → now ≡ after_write (fate_of chip) chip place bytes → (IsOk r ↔ (fate_of chip ≡ Goes)) → IfErr r (λ f. f ≡ Write) → Writes (device_of chip) (device_of now) place bytes r
  chip_writes now r is ok same = subst (λ (c : ChipState). Writes (device_of chip) (device_of c) place bytes r) (sym is) (by_fate (fate_of chip) refl r ok same)

-- ---- reads

named_or_torn : (torn named : Bool) → torn ≡ false → named ≡ false → (if torn then true else named) ≡ false
named_or_torn false named not_torn not_named = not_named
named_or_torn true named not_torn not_named = absurd (false≢true (sym not_torn))

-- a steady chip reads
steady_reads : (chip : ChipState) → IsTrue (is_steady chip) → read_fails chip ≡ false
steady_reads chip is =
    let none = steady_lacks chip is in
    named_or_torn (is_some chip.torn) (is_named chip.reads) none.tear (none_named chip.reads.named chip.reads.next none.of_reads)

faults_since : (fails : Bool) (plan : PlanState) → plan.faults ≤ (if fails then after_fault (after_call plan) else after_call plan).faults
faults_since true plan = counted-ge plan.faults
faults_since false plan = omega arith

steady_still : (chip : ChipState) → IsTrue (is_steady chip) → IsTrue (is_steady (after_read chip))
steady_still chip is =
    let none = steady_lacks chip is in
    let plan : PlanState = if read_fails chip then after_fault (after_call chip.reads) else after_call chip.reads in
    let same : after_call chip.reads ≡ plan = ap (λ (b : Bool). if b then after_fault (after_call chip.reads) else after_call chip.reads) (sym (steady_reads chip is)) in
    lacking (is_some chip.torn) (is_to_come plan) (is_to_come chip.writes)
    (record {
      tear = none.tear;
      of_reads = subst (λ (p : PlanState). is_to_come p ≡ false) same (none_to_come chip.reads.named chip.reads.next (counted chip.reads.next) (counted-ge chip.reads.next) none.of_reads);
      of_writes = none.of_writes;
    })

sound_still : (chip : ChipState) → IsTrue (is_steady chip && not (is_some chip.armed)) → IsTrue (is_steady (after_read chip) && not (is_some chip.armed))
sound_still chip is =
    let parts = both (is_steady chip) (is_some chip.armed) is in
    both_are (is_steady (after_read chip)) (is_some chip.armed) (steady_still chip parts.0) parts.1

only_reads : (chip : ChipState) → OnlyReads (device_of chip) (device_of (after_read chip))
only_reads chip = record {
  geometry = refl;
  image = refl;
  label = refl;
  tells_moments = refl;
  tells_torn = refl;
  torn = refl;
  read_faults = faults_since (read_fails chip) chip.reads;
  write_faults = refl;
  steady = steady_still chip;
  sound = sound_still chip;
  moment = refl;
  told = λ t call c. (λ left. left, λ left. left);
}

rose_by : (fails : Bool) (plan : PlanState) → (fails ≡ false → ⊥) → Rose plan.faults (if fails then after_fault (after_call plan) else after_call plan).faults
rose_by true plan fails = Rose-counted plan.faults
rose_by false plan fails = absurd (fails refl)

-- one that goes on counts none
faults_stand : (fails : Bool) (plan : PlanState) → fails ≡ false → (if fails then after_fault (after_call plan) else after_call plan).faults ≡ plan.faults
faults_stand false plan goes = refl
faults_stand true plan goes = absurd (false≢true (sym goes))

read_by : {T : Type 0} (chip : ChipState) (place : ℕ) (buf : List ℕ) (r : Result T FlashFault) → (IsOk r ↔ (read_fails chip ≡ false)) → IfErr r (λ f. f ≡ Read) → OnOk r (buf ≡ part chip.image place (length buf)) → Reads (device_of chip) (device_of (after_read chip)) place buf r
read_by {T} chip place buf (Ok x) ok same bytes = record {
  kept = only_reads chip;
  steady = λ steady. refl;
  bytes = λ was told. subst (λ (l : List ℕ). buf ≡ part l place (length buf)) (some_is chip.image was told) bytes;
  cause = tt;
  counts = record { of_reads = faults_stand (read_fails chip) chip.reads (ok.0 refl); of_writes = refl };
}
read_by {T} chip place buf (Err e) ok same bytes = record {
  kept = only_reads chip;
  steady = λ steady. ok.1 (steady_reads chip steady);
  bytes = λ was told. tt;
  cause = (same, rose_by (read_fails chip) chip.reads (λ goes. false≢true (ok.1 goes)));
  counts = tt;
}

-- a read of the chip is one of a device
pub chip_reads : {T : Type 0} (chip now : ChipState) (place : ℕ) (buf : List ℕ) (n : ℕ) (r : Result T FlashFault) → now ≡ after_read chip → (IsOk r ↔ (read_fails chip ≡ false)) → IfErr r (λ f. f ≡ Read) → OnOk r (buf ≡ part chip.image place n) → length buf ≡ n → Reads (device_of chip) (device_of now) place buf r
chip_reads chip now place buf n r is ok same bytes long =
    subst (λ (c : ChipState). Reads (device_of chip) (device_of c) place buf r) (sym is)
    (read_by chip place buf r ok same (subst (λ (k : ℕ). OnOk r (buf ≡ part chip.image place k)) (sym long) bytes))
