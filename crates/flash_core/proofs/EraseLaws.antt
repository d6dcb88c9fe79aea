-- Units erased one after another.
use Rattle.std.proofs.Common.{◌≡◌, ℕ, ◌+◌, ◌*◌, ◌<◌, ◌≤◌, List, ◌++◌, length, replicate, sym, ◌∙◌, ap, arith, subst, zero-mul}
use Rattle.std.specs.Prelude.{Option, Some, None, Result, Ok}
use Rattle.std.specs.Option.{ForSome}
use Rattle.std.proofs.lemmas.List.{length-replicate, replicate-append-replicate}
use Rattle.std.proofs.Math.Nat.{mul-le-mul_right}
use Rattle.base_core.specs.Units.{IsMultipleOf}
use Rattle.base_core.proofs.UnitLemmas.{IsMultipleOf-add, IsMultipleOf-mul}
use Rattle.flash_core.specs.declared.flash.FlashFault.{FlashFault}
use Rattle.flash_core.specs.declared.geometry.Geometry.{Geometry}
use Rattle.flash_core.specs.Calls.{CanErase, IsMomentWithin, Keeps, Writes, erased_unit}
use Rattle.flash_core.specs.Erases.{AreUnits, ErasesUnits, FirstErased, erased_from}
use Rattle.flash_core.specs.Images.{put, IsErased, Torn}
use Rattle.flash_core.specs.Moments.{Within}
use Rattle.flash_core.specs.Runs.{Done, RunsBy, ended}
use Rattle.flash_core.specs.Sizes.{size_of}
use Rattle.flash_core.specs.State.{DeviceCall, FlashState, IsLawful}
use Rattle.flash_core.proofs.ImageLaws.{IsErased-put, Torn-put, Torn-widen, length-put, put-append, put-nil}
use Rattle.flash_core.proofs.MomentLaws.{Within-moment_within}
use Rattle.flash_core.proofs.RunLaws.{runs_more, runs_none}

module _ (image : List ℕ) (place : ℕ) where
  pub length-erased : (n : ℕ) → place + n ≤ length image → length (erased_from image place n) ≡ length image
  length-erased n fits = length-put image place (replicate n 255) (omega (arith, length-replicate {A = ℕ} n 255))

  pub erased_none : (n : ℕ) → n ≡ 0 → erased_from image place n ≡ image
  erased_none n none = ap (λ (k : ℕ). put image place (replicate k 255)) none ∙ put-nil image place

  -- one range more
  pub erased_more : (n m : ℕ) → place + (n + m) ≤ length image → put (erased_from image place n) (place + n) (replicate m 255) ≡ erased_from image place (n + m)
  erased_more n m fits =
      let front : List ℕ = replicate n 255 in
      let behind : List ℕ = replicate m 255 in
      let long : length front ≡ n = length-replicate n 255 in
      let both : front ++ behind ≡ replicate (n + m) 255 = replicate-append-replicate n m 255 in
      let total : place + length (front ++ behind) ≤ length image = omega (arith, ap length both, length-replicate {A = ℕ} (n + m) 255, fits) in
      ap (λ (k : ℕ). put (put image place front) (place + k) behind) (sym long) ∙ put-append image place front behind total ∙ ap (put image place) both

  pub Torn-erased : (n wide : ℕ) → n ≤ wide → place + n ≤ length image → Torn place wide image (erased_from image place n)
  Torn-erased n wide within fits =
      let long : length (replicate {A = ℕ} n 255) ≡ n = length-replicate n 255 in
      Torn-widen place (length (replicate {A = ℕ} n 255)) place wide (omega arith) (omega (arith, long, within)) (Torn-put image place (replicate n 255) (omega (arith, long)))

  -- all that was erased is
  pub IsErased-erased : (n : ℕ) → place + n ≤ length image → IsErased (erased_from image place n) place n
  IsErased-erased n fits = IsErased-put image place n fits

-- a unit of these
module _ (g : Geometry) (count unit : ℕ) (lt : unit < count) where
  pub unit_next : (unit + 1) * g.erase ≡ unit * g.erase + g.erase
  unit_next = omega arith

  pub unit_within : unit * g.erase + g.erase ≤ count * g.erase
  unit_within = let le : unit + 1 ≤ count = omega arith in omega (arith, mul-le-mul_right g.erase le, unit_next)

-- at no moment a byte outside the units differs
pub Within-erases : (g : Geometry) (place count : ℕ) (image : List ℕ) (call : Option DeviceCall) (c : List ℕ) → place + count * g.erase ≤ length image → ErasesUnits g place count image call c → Within place (count * g.erase) image call c
Within-erases g place count image None c fits first =
    let le : first.units * g.erase ≤ count * g.erase = mul-le-mul_right g.erase first.most in
    subst (λ (l : List ℕ). Torn place (count * g.erase) image l) (sym first.is) (Torn-erased image place (first.units * g.erase) (count * g.erase) le (omega arith))
Within-erases g place count image (Some call) c fits inside =
    let done : ℕ = inside.units * g.erase in
    let within : done + g.erase ≤ count * g.erase = unit_within g count inside.units inside.more in
    let unit : List ℕ = replicate g.erase 255 in
    let long : length unit ≡ g.erase = length-replicate g.erase 255 in
    let same : length (erased_from image place done) ≡ length image = length-erased image place done (omega arith) in
    Within-moment_within place (count * g.erase) image (erased_from image place done) (place + done) unit (Some call) c
    (Torn-erased image place done (count * g.erase) (omega arith) (omega arith)) (omega arith) (omega (arith, long)) (omega (arith, long, same)) inside.moment

-- the moments of the next erase
pub next_erase : (g : Geometry) (place count unit : ℕ) (image : List ℕ) (call : Option DeviceCall) (c : List ℕ) → unit < count → place + count * g.erase ≤ length image
    → IsMomentWithin (erased_from image place (unit * g.erase)) (place + unit * g.erase) (replicate g.erase 255) call c → ErasesUnits g place count image call c
next_erase g place count unit image None c lt fits is =
    let within : unit * g.erase + g.erase ≤ count * g.erase = unit_within g count unit lt in
    record {
      units = unit + 1;
      most = omega arith;
      is = is ∙ erased_more image place (unit * g.erase) g.erase (omega arith) ∙ ap (erased_from image place) (sym (unit_next g count unit lt));
    }
next_erase g place count unit image (Some call) c lt fits moment = record { units = unit; more = lt; moment = moment }

pub nothing_erased : (g : Geometry) (place count : ℕ) (image : List ℕ) → FirstErased g place count image image
nothing_erased g place count image = record { units = 0; most = omega arith; is = sym (erased_none image place (0 * g.erase) (zero-mul g.erase)) }

some_is : {X : Type 0} (x y : X) → Some x ≡ Some y → x ≡ y
some_is x y same = cc

-- ---- the loop: so many of the units are erased

abbrev pub ErasedSoFar : FlashState → FlashState → ℕ → ℕ → Type 0
ErasedSoFar old mid place unit = ForSome old.image (λ image. mid.image ≡ Some (erased_from image place (unit * old.geometry.erase)))

module _ (old mid : FlashState) (place count unit : ℕ) (lawful : IsLawful old) (units : AreUnits old.geometry place count) (kept : Keeps old mid) where
  pub can_erase_next : unit < count → CanErase mid (place + unit * old.geometry.erase)
  can_erase_next lt =
      let within : unit * old.geometry.erase + old.geometry.erase ≤ count * old.geometry.erase = unit_within old.geometry count unit lt in
      record {
        place_aligned = subst (λ (g : Geometry). IsMultipleOf g.erase (place + unit * old.geometry.erase)) (sym kept.geometry)
            (IsMultipleOf-add old.geometry.erase place (unit * old.geometry.erase) units.aligned (IsMultipleOf-mul old.geometry.erase unit));
        inside = omega (arith, within, units.inside, units.valid.erase_positive, ap size_of kept.geometry);
      }

  same_unit : erased_unit mid ≡ replicate old.geometry.erase 255
  same_unit = ap (λ (g : Geometry). replicate g.erase 255) kept.geometry

  fits : ForSome old.image (λ image. place + count * old.geometry.erase ≤ length image)
  fits image told = omega (arith, units.inside, lawful.sized image told)

  module _ {T : Type 0} (new : FlashState) (at : ℕ) (at_is : at ≡ place + unit * old.geometry.erase) (lt : unit < count) (erased : ErasedSoFar old mid place unit) (runs : RunsBy old mid (ErasesUnits old.geometry place count) Done) where
    pub erase_runs : (result : Result T FlashFault) → Writes mid new at (erased_unit mid) result → IsLawful mid → RunsBy old new (ErasesUnits old.geometry place count) (ended result)
    erase_runs result wrote lawful_mid =
        let done : ℕ = unit * old.geometry.erase in
        let within : done + old.geometry.erase ≤ count * old.geometry.erase = unit_within old.geometry count unit lt in
        let long : length (erased_unit mid) ≡ old.geometry.erase = ap length same_unit ∙ length-replicate old.geometry.erase 255 in
        let size : size_of mid.geometry ≡ size_of old.geometry = ap size_of kept.geometry in
        runs_more result runs wrote
        (λ now told. omega (arith, at_is, long, within, units.inside, size, lawful_mid.sized now told))
        (λ image now told mid_told was call c moment.
        let is : erased_from image place done ≡ now = some_is (erased_from image place done) now (sym (erased image told) ∙ mid_told) in
        next_erase old.geometry place count unit image call c lt (fits image told)
        (subst (λ (l : List ℕ). IsMomentWithin l (place + done) (replicate old.geometry.erase 255) call c) (sym is)
        (subst (λ (k : ℕ). IsMomentWithin now k (replicate old.geometry.erase 255) call c) at_is
        (subst (λ (l : List ℕ). IsMomentWithin now at l call c) same_unit moment))))

    pub erase_leaves : {x : T} → Writes mid new at (erased_unit mid) (Ok x) → ErasedSoFar old new place (unit + 1)
    erase_leaves wrote image told =
        let done : ℕ = unit * old.geometry.erase in
        let within : done + old.geometry.erase ≤ count * old.geometry.erase = unit_within old.geometry count unit lt in
        let all : place + count * old.geometry.erase ≤ length image = fits image told in
        let is : put (erased_from image place done) at (erased_unit mid) ≡ erased_from image place ((unit + 1) * old.geometry.erase) =
        ap (λ (k : ℕ). put (erased_from image place done) k (erased_unit mid)) at_is
        ∙ ap (put (erased_from image place done) (place + done)) same_unit
        ∙ erased_more image place done old.geometry.erase (omega arith)
        ∙ ap (erased_from image place) (sym (unit_next old.geometry count unit lt)) in
        wrote.written (erased_from image place done) (erased image told) ∙ ap (λ (l : List ℕ). Some l) is

-- before the first
pub erases_begun : (s : FlashState) (place count : ℕ) → RunsBy s s (ErasesUnits s.geometry place count) Done
erases_begun s place count = runs_none s (ErasesUnits s.geometry place count) Done tt (λ image told. nothing_erased s.geometry place count image)

pub nothing_so_far : (s : FlashState) (place : ℕ) → ErasedSoFar s s place 0
nothing_so_far s place image told = told ∙ ap Some (sym (erased_none image place (0 * s.geometry.erase) (zero-mul s.geometry.erase)))
