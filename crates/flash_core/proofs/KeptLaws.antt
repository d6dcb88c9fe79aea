-- What runs of calls keep of a device.
use Rattle.std.proofs.Common.{◌≡◌, ◌⊎◌, ℕ, ◌+◌, ◌*◌, ◌≤◌, List, length, refl, sym, ◌∙◌, ap, subst, arith}
use Rattle.std.specs.Prelude.{Option, Some, None, Ok, is_some}
use Rattle.std.proofs.lemmas.List.{length-replicate}
use mathlib.Core.Bool.{false≢true}
use Rattle.flash_core.specs.declared.geometry.Geometry.{Geometry}
use Rattle.flash_core.specs.Calls.{CanErase, CanProgram, CanRead, Keeps, OnlyReads, Writes, erased_unit}
use Rattle.flash_core.specs.Images.{put, IsErased}
use Rattle.flash_core.specs.Sizes.{size_of}
use Rattle.flash_core.specs.State.{FlashState, IsLawful}
use Rattle.flash_core.proofs.ImageLaws.{IsErased-Torn, IsErased-put, IsErased-within, Torn-put}
use Rattle.base_core.specs.Units.{IsMultipleOf}
use Rattle.base_core.proofs.UnitLemmas.{IsMultipleOf-mul, unit_fits}
use Rattle.std.specs.Option.{ForSome}

pub Keeps-refl : (s : FlashState) → Keeps s s
Keeps-refl s = record {
  geometry = refl;
  label = refl;
  tells_image = refl;
  tells_moments = refl;
  tells_torn = refl;
  read_faults = omega arith;
  write_faults = omega arith;
  sound = λ sound. sound;
  moment = omega arith;
  told = λ t call c le left. left;
}

pub Keeps-trans : {a b c : FlashState} → Keeps a b → Keeps b c → Keeps a c
Keeps-trans first second = record {
  geometry = second.geometry ∙ first.geometry;
  label = second.label ∙ first.label;
  tells_image = second.tells_image ∙ first.tells_image;
  tells_moments = second.tells_moments ∙ first.tells_moments;
  tells_torn = second.tells_torn ∙ first.tells_torn;
  read_faults = omega (arith, first.read_faults, second.read_faults);
  write_faults = omega (arith, first.write_faults, second.write_faults);
  sound = λ sound. second.sound (first.sound sound);
  moment = omega (arith, first.moment, second.moment);
  told = λ t call c le left. second.told t call c (omega (arith, le, first.moment)) (first.told t call c le left);
}

pub OnlyReads-refl : (s : FlashState) → OnlyReads s s
OnlyReads-refl s = record {
  geometry = refl;
  image = refl;
  label = refl;
  tells_moments = refl;
  tells_torn = refl;
  torn = refl;
  read_faults = omega arith;
  write_faults = refl;
  steady = λ steady. steady;
  sound = λ sound. sound;
  moment = refl;
  told = λ t call c. (λ left. left, λ left. left);
}

pub OnlyReads-trans : {a b c : FlashState} → OnlyReads a b → OnlyReads b c → OnlyReads a c
OnlyReads-trans first second = record {
  geometry = second.geometry ∙ first.geometry;
  image = second.image ∙ first.image;
  label = second.label ∙ first.label;
  tells_moments = second.tells_moments ∙ first.tells_moments;
  tells_torn = second.tells_torn ∙ first.tells_torn;
  torn = second.torn ∙ first.torn;
  read_faults = omega (arith, first.read_faults, second.read_faults);
  write_faults = second.write_faults ∙ first.write_faults;
  steady = λ steady. second.steady (first.steady steady);
  sound = λ sound. second.sound (first.sound sound);
  moment = second.moment ∙ first.moment;
  told = λ t call c. (λ left. (first.told t call c).0 ((second.told t call c).0 left), λ left. (second.told t call c).1 ((first.told t call c).1 left));
}

-- what reads keep, each call keeps
pub Keeps-OnlyReads : {a b : FlashState} → OnlyReads a b → Keeps a b
Keeps-OnlyReads only = record {
  geometry = only.geometry;
  label = only.label;
  tells_image = ap is_some only.image;
  tells_moments = only.tells_moments;
  tells_torn = only.tells_torn;
  read_faults = only.read_faults;
  write_faults = omega (arith, only.write_faults);
  sound = only.sound;
  moment = omega (arith, only.moment);
  told = λ t call c le left. (only.told t call c).1 left;
}

told_from : (a b : Option (List ℕ)) → is_some b ≡ is_some a → (y : List ℕ) → b ≡ Some y → (x : List ℕ) × (a ≡ Some x)
told_from None b same y is = absurd (false≢true (sym same ∙ ap is_some is))
told_from (Some x) b same y is = (x, refl)

-- a device that tells its image told it before
pub told_before : {old new : FlashState} {image : List ℕ} → Keeps old new → new.image ≡ Some image → (was : List ℕ) × (old.image ≡ Some was)
told_before {old} {new} {image} kept told = told_from old.image new.image kept.tells_image image told

pub CanRead-kept : {old new : FlashState} {place n : ℕ} → Keeps old new → CanRead old place n → CanRead new place n
CanRead-kept {old} {new} {place} {n} kept can = record { inside = omega (arith, can.inside, ap size_of kept.geometry) }

pub CanErase-kept : {old new : FlashState} {place : ℕ} → Keeps old new → CanErase old place → CanErase new place
CanErase-kept {old} {new} {place} kept can = record {
  place_aligned = subst (λ (g : Geometry). IsMultipleOf g.erase place) (sym kept.geometry) can.place_aligned;
  inside = omega (arith, can.inside, ap size_of kept.geometry);
}

-- one range more of the same device, where it is still erased
pub CanProgram-kept : {old new : FlashState} {place n : ℕ} → Keeps old new → ForSome new.image (λ image. IsErased image place n) → CanProgram old place n → CanProgram new place n
CanProgram-kept {old} {new} {place} {n} kept erased can = record {
  place_aligned = subst (λ (g : Geometry). IsMultipleOf g.prog place) (sym kept.geometry) can.place_aligned;
  length_aligned = subst (λ (g : Geometry). IsMultipleOf g.prog n) (sym kept.geometry) can.length_aligned;
  at_least = omega (arith, can.at_least, ap (λ (g : Geometry). g.prog) kept.geometry);
  at_most = omega (arith, can.at_most, ap (λ (g : Geometry). g.erase) kept.geometry);
  inside = omega (arith, can.inside, ap size_of kept.geometry);
  erased = erased;
}

-- the whole unit lies in the image
pub CanErase-fits : {s : FlashState} {place : ℕ} → CanErase s place → place + s.geometry.erase ≤ size_of s.geometry
CanErase-fits {s} {place} can = unit_fits s.geometry.erase place (size_of s.geometry) can.place_aligned (IsMultipleOf-mul s.geometry.erase (2 * s.geometry.units_per_area)) can.inside

-- whole units within an erased range of the image
pub CanProgram-within : (s : FlashState) (place n q m : ℕ) → ForSome s.image (λ image. IsErased image place n) → place + n ≤ size_of s.geometry → place ≤ q → q + m ≤ place + n
    → IsMultipleOf s.geometry.prog q → IsMultipleOf s.geometry.prog m → s.geometry.prog ≤ m → m ≤ s.geometry.erase → CanProgram s q m
CanProgram-within s place n q m erased inside from to place_aligned length_aligned at_least at_most = record {
  place_aligned = place_aligned;
  length_aligned = length_aligned;
  at_least = at_least;
  at_most = at_most;
  inside = omega (arith, inside, to);
  erased = λ image told. IsErased-within image place n q m (erased image told) from to;
}

pub length-erased_unit : (s : FlashState) → length (erased_unit s) ≡ s.geometry.erase
length-erased_unit s = length-replicate s.geometry.erase _

some_is : {X : Type 0} (x y : X) → Some x ≡ Some y → x ≡ y
some_is x y same = cc

-- what was erased stays so behind an Ok call on another range
pub erased_after : {T : Type 0} {old new : FlashState} {place : ℕ} {bytes : List ℕ} {x : T} → (q m : ℕ) → IsLawful old → Writes old new place bytes (Ok x) → place + length bytes ≤ size_of old.geometry → (q + m ≤ place) ⊎ (place + length bytes ≤ q)
    → ForSome old.image (λ image. IsErased image q m) → ForSome new.image (λ image. IsErased image q m)
erased_after {T} {old} {new} {place} {bytes} q m lawful wrote inside apart erased image told =
    let was = told_before wrote.kept told in
    let fits : place + length bytes ≤ length was.0 = omega (arith, inside, lawful.sized was.0 was.1) in
    let is : put was.0 place bytes ≡ image = some_is (put was.0 place bytes) image (sym (wrote.written was.0 was.1) ∙ told) in
    subst (λ (l : List ℕ). IsErased l q m) is
    (IsErased-Torn place (length bytes) was.0 (put was.0 place bytes) q m (Torn-put was.0 place bytes fits) apart (erased was.0 was.1))

-- another range may still be programmed behind an Ok call
pub CanProgram-after : {T : Type 0} {old new : FlashState} {place : ℕ} {bytes : List ℕ} {x : T} → (q m : ℕ) → IsLawful old → Writes old new place bytes (Ok x) → place + length bytes ≤ size_of old.geometry → (q + m ≤ place) ⊎ (place + length bytes ≤ q)
    → CanProgram old q m → CanProgram new q m
CanProgram-after q m lawful wrote inside apart can = CanProgram-kept wrote.kept (erased_after q m lawful wrote inside apart can.erased) can

-- an erase leaves an erased unit
pub erased_by : {T : Type 0} {old new : FlashState} {place : ℕ} {x : T} → IsLawful old → CanErase old place → Writes old new place (erased_unit old) (Ok x) → ForSome new.image (λ image. IsErased image place old.geometry.erase)
erased_by {T} {old} {new} {place} lawful can wrote image told =
    let was = told_before wrote.kept told in
    let fits : place + old.geometry.erase ≤ length was.0 = omega (arith, CanErase-fits can, lawful.sized was.0 was.1) in
    let is : put was.0 place (erased_unit old) ≡ image = some_is (put was.0 place (erased_unit old)) image (sym (wrote.written was.0 was.1) ∙ told) in
    subst (λ (l : List ℕ). IsErased l place old.geometry.erase) is (IsErased-put was.0 place old.geometry.erase fits)

-- a device that told its image tells it
pub told_after : {old new : FlashState} {image : List ℕ} → Keeps old new → old.image ≡ Some image → (now : List ℕ) × (new.image ≡ Some now)
told_after {old} {new} {image} kept told = told_from new.image old.image (sym kept.tells_image) image told
