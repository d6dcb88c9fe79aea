-- Units programmed behind others.
use Rattle.std.proofs.Common.{◌≡◌, ℕ, ◌+◌, ◌-◌, ◌<◌, ◌≤◌, List, [], ◌++◌, length, take, drop, sym, ◌∙◌, ap, subst, arith, inl, inr, length-append, min}
use Rattle.std.specs.Prelude.{Option, Some, None, Result, Ok, Err, IfErr, IsErr, OnOk}
use Rattle.std.proofs.lemmas.Bool.{cases_lt}
use Rattle.std.proofs.lemmas.List.{length-take-le, take-append-le, drop-append-le, length-drop}
use Rattle.std.proofs.Math.Seq.{take-append-add, drop-append-add, take-length}
use mathlib.Core.Bool.{false≢true}
use Rattle.base_core.specs.Units.{IsMultipleOf}
use Rattle.base_core.proofs.UnitLemmas.{IsMultipleOf-add, IsMultipleOf-sub}
use Rattle.flash_core.specs.declared.flash.FlashFault.{FlashFault}
use Rattle.flash_core.specs.declared.flash.FlashFault.TheVariants.{Read, Write}
use Rattle.flash_core.specs.declared.geometry.Geometry.{Geometry}
use Rattle.flash_core.specs.Calls.{IsMomentWithin, Writes}
use Rattle.flash_core.specs.Images.{IsErased, part, put}
use Rattle.flash_core.specs.Runs.{Ending, Done, ReadFailed, WriteFailed, OutOfMemory, Refused, RunsBy, ended, fault_ending}
use Rattle.flash_core.specs.Sizes.{IsValid, size_of}
use Rattle.flash_core.specs.State.{DeviceCall, FlashState, IsLawful}
use Rattle.flash_core.proofs.ImageLaws.{IsErased-Torn, Torn-put, put-append}
use Rattle.flash_core.proofs.KeptLaws.{told_before}
use Rattle.flash_core.proofs.RunLaws.{runs_then, runs_weakened}
use Rattle.record_core.specs.Written.{Ascends, CanWrite}
use Rattle.record_core.proofs.WriterLemmas.{IsStep, Pieces, piece_runs, pieces_none, put-nothing}
use Rattle.inc_set.specs.Programs.{IfDone, Programs}

some_is : {X : Type 0} (x y : X) → Some x ≡ Some y → x ≡ y
some_is x y same = cc

pub programs_none : (s : FlashState) (place : ℕ) → Programs s s place [] Done
programs_none s place = record {
  runs = (pieces_none s place []).runs;
  written = λ image told. told ∙ ap Some (sym (put-nothing image place));
}

-- ---- parts of two lists

part-first : (a b : List ℕ) (from n : ℕ) → from + n ≤ length a → part (a ++ b) from n ≡ part a from n
part-first a b from n within =
    ap (take n) (drop-append-le from a b (omega arith))
    ∙ take-append-le n (drop from a) b (omega (arith, length-drop from a))

part-second : (a b : List ℕ) (from n : ℕ) → part (a ++ b) (length a + from) n ≡ part b from n
part-second a b from n = ap (take n) (drop-append-add a b from)

-- ---- the moments of both

-- each of the first list is one of both
pub ascends_first : (prog place : ℕ) (a b image : List ℕ) (call : Option DeviceCall) (c : List ℕ) → Ascends prog place a image call c → Ascends prog place (a ++ b) image call c
ascends_first prog place a b image None c first = record {
  done = first.done;
  whole = first.whole;
  most = omega (arith, first.most, length-append a b);
  is = first.is ∙ ap (put image place) (sym (take-append-le first.done a b first.most));
}
ascends_first prog place a b image (Some call) c inside = record {
  done = inside.done;
  count = inside.count;
  whole = inside.whole;
  within = omega (arith, inside.within, length-append a b);
  moment = subst (λ (l : List ℕ). IsMomentWithin (put image place l) (place + inside.done) (part (a ++ b) inside.done inside.count) (Some call) c)
      (sym (take-append-le inside.done a b (omega (arith, inside.within))))
      (subst (λ (l : List ℕ). IsMomentWithin (put image place (take inside.done a)) (place + inside.done) l (Some call) c)
      (sym (part-first a b inside.done inside.count inside.within)) inside.moment);
}

put_both : (image : List ℕ) (place : ℕ) (a b : List ℕ) (n : ℕ) → n ≤ length b → place + length (a ++ b) ≤ length image → put (put image place a) (place + length a) (take n b) ≡ put image place (take (length a + n) (a ++ b))
put_both image place a b n most fits =
    put-append image place a (take n b) (omega (arith, fits, length-append a b, length-append a (take n b), length-take-le n b most))
    ∙ ap (put image place) (sym (take-append-add a b n))

-- and so is each of the second, over the image with the first
pub ascends_second : (prog place : ℕ) (a b image : List ℕ) → IsMultipleOf prog (length a) → place + length (a ++ b) ≤ length image → (call : Option DeviceCall) (c : List ℕ)
    → Ascends prog (place + length a) b (put image place a) call c → Ascends prog place (a ++ b) image call c
ascends_second prog place a b image whole fits None c second = record {
  done = length a + second.done;
  whole = IsMultipleOf-add prog (length a) second.done whole second.whole;
  most = omega (arith, second.most, length-append a b);
  is = second.is ∙ put_both image place a b second.done second.most fits;
}
ascends_second prog place a b image whole fits (Some call) c inside =
    let at : place + length a + inside.done ≡ place + (length a + inside.done) = omega arith in
    record {
      done = length a + inside.done;
      count = inside.count;
      whole = IsMultipleOf-add prog (length a) inside.done whole inside.whole;
      within = omega (arith, inside.within, length-append a b);
      moment = subst (λ (l : List ℕ). IsMomentWithin l (place + (length a + inside.done)) (part (a ++ b) (length a + inside.done) inside.count) (Some call) c)
          (put_both image place a b inside.done (omega (arith, inside.within)) fits)
          (subst (λ (l : List ℕ). IsMomentWithin (put (put image place a) (place + length a) (take inside.done b)) (place + (length a + inside.done)) l (Some call) c)
          (sym (part-second a b inside.done inside.count))
          (subst (λ (p : ℕ). IsMomentWithin (put (put image place a) (place + length a) (take inside.done b)) p (part b inside.done inside.count) (Some call) c) at inside.moment));
    }

-- ---- runs

pub IfDone-fault : (P : Type 0) (e : FlashFault) → IfDone (fault_ending e) P
IfDone-fault P Read = tt
IfDone-fault P Write = tt

pub IfDone-map : (ending : Ending) {P Q : Type 0} → (P → Q) → IfDone ending P → IfDone ending Q
IfDone-map Done f p = f p
IfDone-map ReadFailed f p = tt
IfDone-map WriteFailed f p = tt
IfDone-map OutOfMemory f p = tt
IfDone-map Refused f p = tt

-- the second list behind the first
pub programs_then : {old mid new : FlashState} {place : ℕ} {a b : List ℕ} {ending : Ending} → IsLawful old → Programs old mid place a Done → Programs mid new (place + length a) b ending
    → IsMultipleOf old.geometry.prog (length a) → place + length (a ++ b) ≤ size_of old.geometry → Programs old new place (a ++ b) ending
programs_then {old} {mid} {new} {place} {a} {b} {ending} lawful first second whole inside =
    let prog : ℕ = old.geometry.prog in
    let fits : (image : List ℕ) → old.image ≡ Some image → place + length (a ++ b) ≤ length image = λ image told. omega (arith, inside, lawful.sized image told) in
    record {
      runs = runs_then (runs_weakened (Ascends prog place (a ++ b)) (λ image told call c moment. ascends_first prog place a b image call c moment) first.runs) second.runs
          (λ image now told mid_told was call c moment.
          let is : now ≡ put image place a = some_is now (put image place a) (sym mid_told ∙ first.written image told) in
          ascends_second prog place a b image whole (fits image told) call c
          (subst (λ (l : List ℕ). Ascends prog (place + length a) b l call c) is
          (subst (λ (g : Geometry). Ascends g.prog (place + length a) b now call c) first.runs.kept.geometry moment)));
      written = λ image told. IfDone-map ending (λ is. is ∙ ap Some (put-append image place a b (fits image told))) (second.written (put image place a) (first.written image told));
    }

-- the first list, which failed
pub programs_widen : {old new : FlashState} {place : ℕ} {a : List ℕ} (e : FlashFault) (b : List ℕ) → Programs old new place a (fault_ending e) → Programs old new place (a ++ b) (fault_ending e)
programs_widen {old} {new} {place} {a} e b first = record {
  runs = runs_weakened (Ascends old.geometry.prog place (a ++ b)) (λ image told call c moment. ascends_first old.geometry.prog place a b image call c moment) first.runs;
  written = λ image told. IfDone-fault _ e;
}

-- a fault, handed on
pub programs_handed : {U : Type 0} {old new : FlashState} {place : ℕ} {units : List ℕ} {e : FlashFault} (r : Result U FlashFault) → IsErr r → IfErr r (λ f. f ≡ Write) → e ≡ Write → Programs old new place units (fault_ending e) → Programs old new place units (ended r)
programs_handed (Ok x) is same write programs = absurd (false≢true is)
programs_handed {U} {old} {new} {place} {units} {e} (Err Write) is same write programs = subst (λ (f : FlashFault). Programs old new place units (fault_ending f)) write programs
programs_handed (Err Read) is same write programs = cc same

-- ---- a run in pieces

pub pieces_whole : {old now : FlashState} {place : ℕ} {all : List ℕ} {done : ℕ} → Pieces old now place all done → done ≡ length all → Programs old now place all Done
pieces_whole {old} {now} {place} {all} {done} so_far end = record {
  runs = so_far.runs;
  written = λ image told. so_far.written image told ∙ ap (λ (l : List ℕ). Some (put image place l)) (ap (λ (n : ℕ). take n all) end ∙ take-length all);
}

pub pieces_failed : {old new : FlashState} {place : ℕ} {all : List ℕ} (e : FlashFault) → RunsBy old new (Ascends old.geometry.prog place all) (fault_ending e) → Programs old new place all (fault_ending e)
pieces_failed {old} {new} {place} {all} e runs = record { runs = runs; written = λ image told. IfDone-fault _ e }

min_whole : (unit a b : ℕ) → IsMultipleOf unit a → IsMultipleOf unit b → IsMultipleOf unit (min a b)
min_whole unit a b whole_a whole_b = elim (cases_lt a b) [
  | inl less ↦ let is : min a b ≡ a = omega arith in subst (IsMultipleOf unit) (sym is) whole_a
  | inr not_less ↦ let is : min a b ≡ b = omega arith in subst (IsMultipleOf unit) (sym is) whole_b
]

-- the next piece, at most an erase unit
pub unit_step : (g read : Geometry) → read ≡ g → IsValid g → (n done count : ℕ) → IsMultipleOf g.prog n → IsMultipleOf g.prog done → done < n → count ≡ min read.erase (n - done) → IsStep g.prog g.erase n n done count
unit_step g read same valid n done count whole_n whole_done more count_is =
    let is : count ≡ min g.erase (n - done) = count_is ∙ ap (λ (x : Geometry). min x.erase (n - done)) same in
    record {
      whole = subst (IsMultipleOf g.prog) (sym is) (min_whole g.prog g.erase (n - done) valid.erase_is_multiple (IsMultipleOf-sub g.prog n done whole_n whole_done));
      some = omega (arith, is, more, valid.erase_positive);
      in_unit = omega (arith, is);
      in_work = omega (arith, is);
      within = omega (arith, is, more);
    }

pub once_written : {T : Type 0} (P : Type 0) (result : Result T FlashFault) → OnOk result P → IfDone (ended result) P
once_written P (Ok x) p = p
once_written P (Err Read) p = tt
once_written P (Err Write) p = tt

-- one program of whole units
pub programs_once : {T : Type 0} {old new : FlashState} {place : ℕ} {units : List ℕ} (result : Result T FlashFault) → IsLawful old → Writes old new place units result
    → IsMultipleOf old.geometry.prog (length units) → place + length units ≤ size_of old.geometry → Programs old new place units (ended result)
programs_once {T} {old} {new} {place} {units} result lawful wrote whole inside = record {
  runs =
      let at : place + 0 ≡ place = omega arith in
      piece_runs lawful (pieces_none old place units) inside (length units) whole (omega arith) (sym (take-length units)) lawful result
      (subst (λ (p : ℕ). Writes old new p units result) (sym at) wrote);
  written = λ image told. once_written _ result (wrote.written image told);
}

-- what stands behind units that were programmed may be written
pub can_behind : {old mid : FlashState} {place : ℕ} {a : List ℕ} (n : ℕ) → IsLawful old → Programs old mid place a Done → IsMultipleOf old.geometry.prog (length a) → CanWrite old place (length a + n) → CanWrite mid (place + length a) n
can_behind {old} {mid} {place} {a} n lawful first whole can =
    let kept = first.runs.kept in
    record {
      aligned = subst (λ (g : Geometry). IsMultipleOf g.prog (place + length a)) (sym kept.geometry) (IsMultipleOf-add old.geometry.prog place (length a) can.aligned whole);
      inside = omega (arith, can.inside, ap size_of kept.geometry);
      erased = λ image told.
          let was = told_before kept told in
          let is : put was.0 place a ≡ image = some_is (put was.0 place a) image (sym (first.written was.0 was.1) ∙ told) in
          let fits : place + length a ≤ length was.0 = omega (arith, can.inside, lawful.sized was.0 was.1) in
          subst (λ (l : List ℕ). IsErased l (place + length a) n) is
          (IsErased-Torn place (length a) was.0 (put was.0 place a) (place + length a) n (Torn-put was.0 place a fits) (inr (omega arith))
          (λ i from to. can.erased was.0 was.1 i (omega (arith, from)) (omega (arith, to))));
    }
