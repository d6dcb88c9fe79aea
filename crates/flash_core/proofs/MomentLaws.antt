-- How a run of device calls goes on, for what is said of each of its moments.
use Rattle.std.proofs.Common.{◌≡◌, ◌⊎◌, ℕ, ◌+◌, ◌≤◌, List, length, inl, inr, ⊎_elim, refl, sym, ◌∙◌, arith, subst}
use Rattle.std.specs.Prelude.{Option, Some, None, Result, Ok, Err, OnErr, IsTrue}
use Rattle.std.specs.Option.{ForSome}
use Rattle.flash_core.specs.declared.flash.FlashFault.{FlashFault}
use Rattle.flash_core.specs.Calls.{IsMomentOf, IsMomentWithin, OnlyReads, Writes}
use Rattle.flash_core.specs.Images.{put, Torn}
use Rattle.flash_core.specs.Moments.{Adds, EachMoment, FailedInside, IsInside, Unless, Within}
use Rattle.flash_core.specs.State.{DeviceCall, FlashState, IsLawful, before_of, after_of, call_at}
use Rattle.flash_core.proofs.ImageLaws.{Torn-put, Torn-refl, Torn-trans, Torn-widen, after_of_call, before_of_call}

-- before the first call
pub begun : (s : FlashState) (R : Option DeviceCall → List ℕ → Type 0) → Adds s s R
begun s R = record { moment = omega arith; anew = λ t call c le left. inl left }

-- two runs, one after the other
pub joined : {old mid new : FlashState} {R : Option DeviceCall → List ℕ → Type 0} → Adds old mid R → Adds mid new R → Adds old new R
joined {old} {mid} {new} {R} first second = record {
  moment = omega (arith, first.moment, second.moment);
  anew = λ t call c le left. ⊎_elim (first.anew t call c le) (λ has. inr has) (second.anew t call c (omega (arith, le, first.moment)) left);
}

-- what R says, S says
pub weakened : {old new : FlashState} {R : Option DeviceCall → List ℕ → Type 0} (S : Option DeviceCall → List ℕ → Type 0) → ((call : Option DeviceCall) (c : List ℕ) → R call c → S call c) → Adds old new R → Adds old new S
weakened S implies run = record {
  moment = run.moment;
  anew = λ t call c le left. ⊎_elim (λ was. inl was) (λ has. inr (implies call c has)) (run.anew t call c le left);
}

-- a program or erase more, each of whose moments has R
pub one_more : {T : Type 0} {old mid new : FlashState} {R : Option DeviceCall → List ℕ → Type 0} {place : ℕ} {bytes : List ℕ} {result : Result T FlashFault} {image : List ℕ} → Adds old mid R → Writes mid new place bytes result → mid.image ≡ Some image
    → ((call : Option DeviceCall) (c : List ℕ) → IsMomentOf image place bytes result call c → R call c) → Adds old new R
one_more {T} {old} {mid} {new} {R} {place} {bytes} {result} {image} so_far wrote told here = joined so_far (weakened R here (wrote.adds image told))

-- reads alone add no moment
pub only_reads : {old new : FlashState} (R : Option DeviceCall → List ℕ → Type 0) → OnlyReads old new → Adds old new R
only_reads {old} {new} R only = record { moment = omega (arith, only.moment); anew = λ t call c le left. inl ((only.told t call c).0 left) }

-- reads more
pub reads_more : {old mid new : FlashState} {R : Option DeviceCall → List ℕ → Type 0} → Adds old mid R → OnlyReads mid new → Adds old new R
reads_more {old} {mid} {new} {R} so_far only = joined so_far (only_reads R only)

-- each moment since old is one of the image at old, or has R
pub each_moment_since : {old new : FlashState} {R : Option DeviceCall → List ℕ → Type 0} {image : List ℕ} → Adds old new R → IsLawful old → old.image ≡ Some image → EachMoment old new (λ call c. (c ≡ image) ⊎ R call c)
each_moment_since {old} {new} {R} {image} run lawful told = λ call c left.
    ⊎_elim (λ was. inl (lawful.only_now image told call c was)) (λ has. inr has) (run.anew old.moment call c (omega arith) left)

-- so each has R, where that image has it
pub each_moment : {old new : FlashState} {R : Option DeviceCall → List ℕ → Type 0} {image : List ℕ} → Adds old new R → IsLawful old → old.image ≡ Some image → ((call : Option DeviceCall) → R call image) → EachMoment old new R
each_moment {old} {new} {R} {image} run lawful told here = λ call c left.
    ⊎_elim (λ same. subst (λ (l : List ℕ). R call l) (sym same) (here call)) (λ has. has) (each_moment_since run lawful told call c left)

some_is : {X : Type 0} (x y : X) → Some x ≡ Some y → x ≡ y
some_is x y same = cc

-- a program or erase that may have failed, each of whose moments has R
pub failed_inside : {T : Type 0} {mid new : FlashState} {place : ℕ} {bytes image : List ℕ} (R : Option DeviceCall → List ℕ → Type 0) (result : Result T FlashFault) → Writes mid new place bytes result → mid.image ≡ Some image → place + length bytes ≤ length image
    → R None image → ((call : Option DeviceCall) (c : List ℕ) → IsMomentWithin image place bytes call c → R call c) → OnErr result (ForSome new.image (FailedInside new R))
failed_inside {T} {mid} {new} {place} {bytes} {image} R (Ok x) wrote told fits was here = tt
failed_inside {T} {mid} {new} {place} {bytes} {image} R (Err fault) wrote told fits was here = λ left stands.
    let call : DeviceCall = call_at image place bytes in
    let torn : Torn place (length bytes) image left = wrote.failed image told left stands in
    record {
      call = call;
      before = subst (λ (l : List ℕ). R None l) (sym (before_of_call image place bytes fits left torn)) was;
      after = subst (λ (l : List ℕ). R None l) (sym (after_of_call image place bytes fits left torn)) (here None (put image place bytes) refl);
      inside = here (Some call) left (refl, torn);
      told = λ tells. ⊎_elim (λ this. inl this)
          (λ same. inr (subst (λ (l : List ℕ). R None l) (some_is image left (sym told ∙ sym same.0 ∙ stands)) was))
          (wrote.torn (subst IsTrue wrote.kept.tells_torn tells) image told);
    }

-- what R says of a failed call, S says
pub failed_weakened : {s : FlashState} {R : Option DeviceCall → List ℕ → Type 0} {left : List ℕ} (S : Option DeviceCall → List ℕ → Type 0) → ((call : Option DeviceCall) (c : List ℕ) → R call c → S call c) → FailedInside s R left → FailedInside s S left
failed_weakened {s} {R} {left} S implies failed = record {
  call = failed.call;
  before = implies None (before_of failed.call left) failed.before;
  after = implies None (after_of failed.call left) failed.after;
  inside = implies (Some failed.call) left failed.inside;
  told = λ tells. ⊎_elim (λ this. inl this) (λ has. inr (implies None left has)) (failed.told tells);
}

-- reads behind a failed call
pub failed_reads : {mid new : FlashState} {R : Option DeviceCall → List ℕ → Type 0} {left : List ℕ} → FailedInside mid R left → OnlyReads mid new → FailedInside new R left
failed_reads {mid} {new} {R} {left} failed only = record {
  call = failed.call;
  before = failed.before;
  after = failed.after;
  inside = failed.inside;
  told = λ tells. ⊎_elim (λ this. inl (only.torn ∙ this)) (λ has. inr has) (failed.told (subst IsTrue only.tells_torn tells));
}

-- where moments are told, the image that stands has what each moment has
pub at_the_end : (old new : FlashState) (R : Option DeviceCall → List ℕ → Type 0) (image : List ℕ) → EachMoment old new R → old.moment ≤ new.moment → IsLawful new → IsTrue new.tells_moments → new.image ≡ Some image → (call : Option DeviceCall) × R call image
at_the_end old new R image each le lawful tells told =
    let now = lawful.tells_now tells image told in
    (now.0, each now.0 image (lawful.earlier old.moment new.moment now.0 image le now.1))

pub Unless-holds : (Q : DeviceCall → List ℕ → Type 0) (P : List ℕ → Type 0) (call : Option DeviceCall) (c : List ℕ) → P c → Unless Q P call c
Unless-holds Q P None c holds = holds
Unless-holds Q P (Some call) c holds = λ premise. holds

-- each moment of a program or erase leaves what stood outside its range
pub Torn-moment : (image : List ℕ) (place : ℕ) (bytes : List ℕ) (call : Option DeviceCall) (c : List ℕ) → place + length bytes ≤ length image → IsMomentWithin image place bytes call c → Torn place (length bytes) image c
Torn-moment image place bytes None c fits is = subst (λ (l : List ℕ). Torn place (length bytes) image l) (sym is) (Torn-put image place bytes fits)
Torn-moment image place bytes (Some call) c fits moment = moment.1

-- and names a call in that range
pub Within-moment : (image : List ℕ) (place : ℕ) (bytes : List ℕ) (call : Option DeviceCall) (c : List ℕ) → place + length bytes ≤ length image → IsMomentWithin image place bytes call c → Within place (length bytes) image call c
Within-moment image place bytes None c fits is = Torn-moment image place bytes None c fits is
Within-moment image place bytes (Some call) c fits moment =
    let at : DeviceCall = call_at image place bytes in
    let n : ℕ = length bytes in
    let of_at : IsInside place n image at c = record {
      from = omega arith;
      to = omega arith;
      torn = moment.1;
      torn_before = subst (λ (l : List ℕ). Torn place n image l) (sym (before_of_call image place bytes fits c moment.1)) (Torn-refl place n image);
    } in
    subst (λ (k : DeviceCall). IsInside place n image k c) (sym moment.0) of_at

pub Within-Torn : (place n : ℕ) (image : List ℕ) (call : Option DeviceCall) (c : List ℕ) → Within place n image call c → Torn place n image c
Within-Torn place n image None c torn = torn
Within-Torn place n image (Some call) c inside = inside.torn

pub Within-widen : (place n wide_place wide_n : ℕ) (image : List ℕ) (call : Option DeviceCall) (c : List ℕ) → wide_place ≤ place → place + n ≤ wide_place + wide_n → Within place n image call c → Within wide_place wide_n image call c
Within-widen place n wide_place wide_n image None c from to torn = Torn-widen place n wide_place wide_n from to torn
Within-widen place n wide_place wide_n image (Some call) c from to inside = record {
  from = omega (arith, inside.from, from);
  to = omega (arith, inside.to, to);
  torn = Torn-widen place n wide_place wide_n from to inside.torn;
  torn_before = Torn-widen place n wide_place wide_n from to inside.torn_before;
}

-- for an image that differs from the first in that range alone
pub Within-trans : (place n : ℕ) (first image : List ℕ) (call : Option DeviceCall) (c : List ℕ) → Torn place n first image → Within place n image call c → Within place n first call c
Within-trans place n first image None c so_far torn = Torn-trans so_far torn
Within-trans place n first image (Some call) c so_far inside = record {
  from = inside.from;
  to = inside.to;
  torn = Torn-trans so_far inside.torn;
  torn_before = Torn-trans so_far inside.torn_before;
}

-- all three: a moment of a program or erase in a wider range, behind others in that range
pub Within-moment_within : (wide_place wide_n : ℕ) (first image : List ℕ) (place : ℕ) (bytes : List ℕ) (call : Option DeviceCall) (c : List ℕ) → Torn wide_place wide_n first image → wide_place ≤ place → place + length bytes ≤ wide_place + wide_n → place + length bytes ≤ length image
    → IsMomentWithin image place bytes call c → Within wide_place wide_n first call c
Within-moment_within wide_place wide_n first image place bytes call c so_far from to fits moment =
    Within-trans wide_place wide_n first image call c so_far
    (Within-widen place (length bytes) wide_place wide_n image call c from to (Within-moment image place bytes call c fits moment))
