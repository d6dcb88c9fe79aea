-- A unit that bytes complete, and those behind it.
use Rattle.std.proofs.Common.{◌≡◌, ℕ, ◌+◌, ◌-◌, ◌*◌, ◌/◌, ◌%◌, ◌<◌, ◌≤◌, List, [], ◌++◌, length, take, drop, sym, ◌∙◌, ap, subst, arith, inr, append_assoc, length-append}
use Rattle.std.specs.Prelude.{Ok, Err}
use Rattle.std.proofs.lemmas.List.{length-take-le, take-append-drop}
use Rattle.std.proofs.lemmas.Nat.{div-add-mod'}
use Rattle.std.proofs.Math.Seq.{take-length}
use Rattle.std.proofs.Math.Nat.{zero-mod}
use Rattle.base_core.specs.Units.{IsMultipleOf}
use Rattle.base_core.proofs.UnitLemmas.{IsMultipleOf-add, IsMultipleOf-mul}
use Rattle.flash_core.specs.declared.flash.FlashFault.{FlashFault}
use Rattle.flash_core.specs.declared.geometry.Geometry.{Geometry}
use Rattle.flash_core.specs.Calls.{CanProgram, Writes}
use Rattle.flash_core.specs.Runs.{Ending, fault_ending}
use Rattle.flash_core.specs.Sizes.{IsValid, size_of}
use Rattle.flash_core.specs.State.{FlashState, IsLawful}
use Rattle.flash_core.proofs.GeometryLaws.{prog_le_erase}
use Rattle.flash_core.proofs.KeptLaws.{erased_after}
use Rattle.record_core.specs.Written.{CanWrite}
use Rattle.inc_set.specs.Programs.{Programs}
use Rattle.inc_set.specs.Units.{IsHeld, rest_of, whole_units}
use Rattle.inc_set.proofs.AscendLemmas.{programs_once, programs_then, programs_widen}
use Rattle.inc_set.proofs.UnitLemmas.{rest_of-append, rest_of-is, whole_units-append, whole_units-is}

one_unit : (prog : ℕ) → IsMultipleOf prog prog
one_unit prog = let same : 1 * prog ≡ prog = omega arith in subst (IsMultipleOf prog) same (IsMultipleOf-mul prog 1)

-- the bytes without those behind the last whole unit
module _ (prog : ℕ) (bytes : List ℕ) (mid : ℕ) (mid_is : mid ≡ length bytes - length bytes % prog) where
  pub cut_units : take mid bytes ≡ whole_units prog bytes
  unfolding whole_units
  cut_units = let is : mid ≡ length bytes / prog * prog = omega (arith, mid_is, div-add-mod' (length bytes) prog) in ap (λ (n : ℕ). take n bytes) is

  pub cut_rest : drop mid bytes ≡ rest_of prog bytes
  unfolding rest_of
  cut_rest = let is : mid ≡ length bytes / prog * prog = omega (arith, mid_is, div-add-mod' (length bytes) prog) in ap (λ (n : ℕ). drop n bytes) is

-- bytes that complete no unit
module _ (prog held : ℕ) (rest bytes : List ℕ) (unit : length rest ≡ prog) (inside : held < length rest) (few : length bytes < length rest - held) where
  held_long : length (take held rest) ≡ held
  held_long = length-take-le held rest (omega (arith, inside))

  small : length (take held rest ++ bytes) < prog
  small = omega (arith, length-append (take held rest) bytes, held_long, unit, few, inside)

  positive : 0 < prog
  positive = omega (arith, unit, inside)

  no_unit : IsMultipleOf prog 0
  no_unit = zero-mod prog

  pub nothing_whole : whole_units prog (take held rest ++ bytes) ≡ []
  nothing_whole = whole_units-is prog positive [] (take held rest ++ bytes) no_unit small

  pub all_held : (now : List ℕ) → take (held + length bytes) now ≡ take held rest ++ bytes → IsHeld now (rest_of prog (take held rest ++ bytes))
  all_held now copied =
      let is : rest_of prog (take held rest ++ bytes) ≡ take held rest ++ bytes = rest_of-is prog positive [] (take held rest ++ bytes) no_unit small in
      let long : length (take held rest ++ bytes) ≡ held + length bytes = length-append (take held rest) bytes ∙ ap (λ (n : ℕ). n + length bytes) held_long in
      subst (IsHeld now) (sym is) (ap (λ (n : ℕ). take n now) long ∙ copied)

-- The buffer holds a unit that was completed; the others stand behind it.
pub record Completed (prog held : ℕ) (rest bytes now others : List ℕ) : Type 0 where
  pub positive : 0 < prog
  pub long : length now ≡ prog
  pub all_is : take held rest ++ bytes ≡ now ++ others

pub completed : (prog held : ℕ) (rest bytes first others now : List ℕ) → length rest ≡ prog → held < length rest → length rest - held ≤ length bytes → first ≡ take (length rest - held) bytes → others ≡ drop (length rest - held) bytes
    → take (held + length first) now ≡ take held rest ++ first → length now ≡ length rest → Completed prog held rest bytes now others
completed prog held rest bytes first others now unit inside enough first_is others_is copied same =
    let missing : ℕ = length rest - held in
    let first_long : length first ≡ missing = ap length first_is ∙ length-take-le missing bytes enough in
    let full : held + length first ≡ length now = omega (arith, first_long, same, inside) in
    let now_is : now ≡ take held rest ++ first = sym (take-length now) ∙ ap (λ (n : ℕ). take n now) (sym full) ∙ copied in
    record {
      positive = omega (arith, unit, inside);
      long = same ∙ unit;
      all_is =
          ap (λ (l : List ℕ). take held rest ++ l) (sym (take-append-drop missing bytes) ∙ ap (λ (l : List ℕ). l ++ drop missing bytes) (sym first_is) ∙ ap (λ (l : List ℕ). first ++ l) (sym others_is))
          ∙ sym (append_assoc (take held rest) first others)
          ∙ ap (λ (l : List ℕ). l ++ others) (sym now_is);
    }

module _ (prog held : ℕ) (rest bytes now others : List ℕ) (done : Completed prog held rest bytes now others) where
  now_whole : IsMultipleOf prog (length now)
  now_whole = subst (IsMultipleOf prog) (sym done.long) (one_unit prog)

  pub whole_then : whole_units prog (take held rest ++ bytes) ≡ now ++ whole_units prog others
  whole_then = ap (whole_units prog) done.all_is ∙ whole_units-append prog done.positive now others now_whole

  pub rest_then : rest_of prog (take held rest ++ bytes) ≡ rest_of prog others
  rest_then = ap (rest_of prog) done.all_is ∙ rest_of-append prog done.positive now others now_whole

  size_then : length (whole_units prog (take held rest ++ bytes)) ≡ length now + length (whole_units prog others)
  size_then = ap length whole_then ∙ length-append now (whole_units prog others)

module _ (s : FlashState) (place held : ℕ) (rest bytes now others : List ℕ) (valid : IsValid s.geometry) (done : Completed s.geometry.prog held rest bytes now others)
    (can : CanWrite s place (length (whole_units s.geometry.prog (take held rest ++ bytes)))) where
  size_is : length (whole_units s.geometry.prog (take held rest ++ bytes)) ≡ length now + length (whole_units s.geometry.prog others)
  size_is = size_then s.geometry.prog held rest bytes now others done

  unit_whole : IsMultipleOf s.geometry.prog (length now)
  unit_whole = now_whole s.geometry.prog held rest bytes now others done

  unit_inside : place + length now ≤ size_of s.geometry
  unit_inside = omega (arith, can.inside, size_is)

  pub can_unit : CanProgram s place (length now)
  can_unit = record {
    place_aligned = can.aligned;
    length_aligned = unit_whole;
    at_least = omega (arith, done.long);
    at_most = omega (arith, done.long, prog_le_erase s.geometry valid);
    inside = unit_inside;
    erased = λ image told i from to. can.erased image told i from (omega (arith, to, size_is));
  }

  module _ {T : Type 0} (mid : FlashState) (x : T) (lawful : IsLawful s) (wrote : Writes s mid place now (Ok x)) where
    pub can_others : CanWrite mid (place + length now) (length (whole_units mid.geometry.prog others))
    can_others =
        let same : length (whole_units mid.geometry.prog others) ≡ length (whole_units s.geometry.prog others) = ap (λ (g : Geometry). length (whole_units g.prog others)) wrote.kept.geometry in
        record {
          aligned = subst (λ (g : Geometry). IsMultipleOf g.prog (place + length now)) (sym wrote.kept.geometry) (IsMultipleOf-add s.geometry.prog place (length now) can.aligned unit_whole);
          inside = omega (arith, can.inside, size_is, same, ap size_of wrote.kept.geometry);
          erased = erased_after (place + length now) (length (whole_units mid.geometry.prog others)) lawful wrote unit_inside (inr (omega arith))
              (λ image told i from to. can.erased image told i (omega (arith, from)) (omega (arith, to, size_is, same)));
        }

    pub unit_and_others : {new : FlashState} {ending : Ending} → Programs mid new (place + length now) (whole_units mid.geometry.prog others) ending → Programs s new place (whole_units s.geometry.prog (take held rest ++ bytes)) ending
    unit_and_others {new} {ending} second =
        let is = whole_then s.geometry.prog held rest bytes now others done in
        subst (λ (l : List ℕ). Programs s new place l ending) (sym is)
        (programs_then lawful (programs_once (Ok x) lawful wrote unit_whole unit_inside)
        (subst (λ (g : Geometry). Programs mid new (place + length now) (whole_units g.prog others) ending) wrote.kept.geometry second)
        unit_whole (omega (arith, can.inside, ap length is)))

  -- the unit failed
  pub unit_alone : {T : Type 0} {new : FlashState} (lawful : IsLawful s) (e : FlashFault) → Writes {T = T} s new place now (Err e) → Programs s new place (whole_units s.geometry.prog (take held rest ++ bytes)) (fault_ending e)
  unit_alone {T} {new} lawful e wrote =
      subst (λ (l : List ℕ). Programs s new place l (fault_ending e)) (sym (whole_then s.geometry.prog held rest bytes now others done))
      (programs_widen e (whole_units s.geometry.prog others) (programs_once {T = T} (Err e) lawful wrote unit_whole unit_inside))
