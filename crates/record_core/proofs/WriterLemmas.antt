-- Bytes written to a range a piece at a time, and a record.
use Rattle.std.proofs.Common.{◌≡◌, ℕ, ◌+◌, ◌-◌, ◌<◌, ◌≤◌, List, [], ◌++◌, length, take, drop, sym, ◌∙◌, ap, subst, arith, inl, inr, ⊎_elim, add-zero, append-nil, min, ◌/◌, ◌%◌, ◌*◌}
use Rattle.std.specs.Prelude.{Option, Some, None, Result, Ok}
use Rattle.std.specs.Option.{ForSome}
use Rattle.std.proofs.lemmas.List.{places, same_lists, take-append-drop, length-take-le}
use Rattle.std.proofs.Math.Seq.{take-add}
use Rattle.std.proofs.Math.Nat.{zero-mod}
use Rattle.std.proofs.lemmas.Nat.{div-add-mod', mod_below}
use Rattle.std.proofs.lemmas.Bool.{cases_lt}
use Rattle.std.proofs.lemmas.Result.{on_ok_weaker}
use Rattle.base_core.specs.Sizes.{master_size}
use Rattle.base_core.specs.Units.{IsMultipleOf, up}
use Rattle.base_core.proofs.UnitLemmas.{IsMultipleOf-add, IsMultipleOf-mul, IsMultipleOf-sub, unit_fits, up-ge, up-least, up-multiple}
use Rattle.flash_core.specs.declared.flash.FlashFault.{FlashFault}
use Rattle.flash_core.specs.declared.geometry.Geometry.{Geometry}
use Rattle.flash_core.specs.Calls.{CanProgram, IsMomentWithin, Keeps, Writes}
use Rattle.flash_core.specs.Images.{part, put, IsErased}
use Rattle.flash_core.specs.Runs.{Done, RunsBy, WriteFailed, ended}
use Rattle.flash_core.specs.Sizes.{IsValid, area_size, size_of}
use Rattle.flash_core.specs.State.{DeviceCall, FlashState, IsLawful, OnImage}
use Rattle.flash_core.specs.TwoPrograms.{payload_put}
use Rattle.flash_core.proofs.GeometryLaws.{area_whole_progs, prog_positive, prog_le_erase, size-areas}
use Rattle.flash_core.proofs.ImageLaws.{IsErased-Torn, Torn-put, length-part}
use Rattle.flash_core.proofs.KeptLaws.{CanProgram-kept, told_before}
use Rattle.flash_core.proofs.RunLaws.{runs_more, runs_none, runs_weakened}
use Rattle.record_core.specs.Record.{record_bytes, record_header, record_payload}
use Rattle.record_core.specs.Written.{Ascends, CanWrite, FirstUnits, IsArea, WritesRecord}
use Rattle.record_core.proofs.RecordLemmas.{length-record_payload}
use Rattle.record_core.proofs.SizeLemmas.{up-most}

-- two puts, one right behind the other
pub put-append : (image : List ℕ) (place : ℕ) (a b : List ℕ) → place + length a + length b ≤ length image → put (put image place a) (place + length a) b ≡ put image place (a ++ b)
put-append image place a b fits = same_lists _ _ (search (arith, places)) (λ k d inside. grind (arith, places))

-- a payload's put and then its header's before it
pub put-before : (image : List ℕ) (place : ℕ) (a b : List ℕ) → place + length a + length b ≤ length image → put (put image (place + length a) b) place a ≡ put image place (a ++ b)
put-before image place a b fits = same_lists _ _ (search (arith, places)) (λ k d inside. grind (arith, places))

pub put-nothing : (image : List ℕ) (place : ℕ) → put image place [] ≡ image
put-nothing image place =
    ap (λ (l : List ℕ). l ++ drop (place + 0) image) (append-nil (take place image))
    ∙ ap (λ (k : ℕ). take place image ++ drop k image) (add-zero place)
    ∙ take-append-drop place image

some_is : {X : Type 0} (x y : X) → Some x ≡ Some y → x ≡ y
some_is x y same = cc

-- ---- a list of bytes, as far as it was written

-- The first of these bytes stand from this place on, written in ascending order.
pub record Pieces (old now : FlashState) (place : ℕ) (all : List ℕ) (done : ℕ) : Type 0 where
  pub runs : RunsBy old now (Ascends old.geometry.prog place all) Done
  pub written : ForSome old.image (λ image. now.image ≡ Some (put image place (take done all)))
  pub whole : IsMultipleOf old.geometry.prog done
  pub most : done ≤ length all

nothing_put : (prog place : ℕ) (all image : List ℕ) → FirstUnits prog place all image image
nothing_put prog place all image = record { done = 0; whole = zero-mod prog; most = omega arith; is = sym (put-nothing image place) }

pub pieces_none : (s : FlashState) (place : ℕ) (all : List ℕ) → Pieces s s place all 0
pieces_none s place all = record {
  runs = runs_none s (Ascends s.geometry.prog place all) Done tt (λ image told. nothing_put s.geometry.prog place all image);
  written = λ image told. told ∙ ap Some (sym (put-nothing image place));
  whole = zero-mod s.geometry.prog;
  most = omega arith;
}

-- one piece more
put_more : (image : List ℕ) (place : ℕ) (all : List ℕ) (done count : ℕ) → done + count ≤ length all → place + length all ≤ length image → put (put image place (take done all)) (place + done) (part all done count) ≡ put image place (take (done + count) all)
put_more image place all done count within fits =
    let long : length (take done all) ≡ done = length-take-le done all (omega arith) in
    let piece : length (part all done count) ≡ count = length-part all done count within in
    ap (λ (k : ℕ). put (put image place (take done all)) (place + k) (part all done count)) (sym long)
    ∙ put-append image place (take done all) (part all done count) (omega (arith, long, piece, within, fits))
    ∙ ap (put image place) (sym (take-add done count all))

-- each moment of its program is one of the whole
next_moment : (prog place : ℕ) (all image : List ℕ) (done count : ℕ) → IsMultipleOf prog done → IsMultipleOf prog count → done + count ≤ length all → place + length all ≤ length image → (call : Option DeviceCall) (c : List ℕ)
    → IsMomentWithin (put image place (take done all)) (place + done) (part all done count) call c → Ascends prog place all image call c
next_moment prog place all image done count whole whole_count within fits None c is = record {
  done = done + count;
  whole = IsMultipleOf-add prog done count whole whole_count;
  most = within;
  is = is ∙ put_more image place all done count within fits;
}
next_moment prog place all image done count whole whole_count within fits (Some call) c moment = record {
  done = done;
  count = count;
  whole = whole;
  within = within;
  moment = moment;
}

range_fits : {s : FlashState} (place n : ℕ) → IsLawful s → place + n ≤ size_of s.geometry → ForSome s.image (λ image. place + n ≤ length image)
range_fits place n lawful inside image told = omega (arith, inside, lawful.sized image told)

module _ {old mid : FlashState} {place : ℕ} {all : List ℕ} {done : ℕ} (lawful : IsLawful old) (so_far : Pieces old mid place all done) (inside : place + length all ≤ size_of old.geometry) where
  put_so_far : (image now : List ℕ) → old.image ≡ Some image → mid.image ≡ Some now → now ≡ put image place (take done all)
  put_so_far image now told mid_told = some_is now (put image place (take done all)) (sym mid_told ∙ so_far.written image told)

  module _ {new : FlashState} {T : Type 0} {piece : List ℕ} (count : ℕ) (whole : IsMultipleOf old.geometry.prog count) (within : done + count ≤ length all) (is : piece ≡ part all done count) where
    pub piece_runs : IsLawful mid → (result : Result T FlashFault) → Writes mid new (place + done) piece result → RunsBy old new (Ascends old.geometry.prog place all) (ended result)
    piece_runs lawful_mid result wrote =
        let long : length piece ≡ count = ap length is ∙ length-part all done count within in
        runs_more result so_far.runs wrote
        (λ now told. omega (arith, long, within, inside, lawful_mid.sized now told, ap size_of so_far.runs.kept.geometry))
        (λ image now told mid_told was call c moment. next_moment old.geometry.prog place all image done count so_far.whole whole within (range_fits place (length all) lawful inside image told) call c
        (subst (λ (l : List ℕ). IsMomentWithin l (place + done) (part all done count) call c) (put_so_far image now told mid_told)
        (subst (λ (l : List ℕ). IsMomentWithin now (place + done) l call c) is moment)))

    pub pieces_more : {x : T} → IsLawful mid → Writes mid new (place + done) piece (Ok x) → Pieces old new place all (done + count)
    pieces_more {x} lawful_mid wrote = record {
      runs = piece_runs lawful_mid (Ok x) wrote;
      written = λ image told.
          wrote.written (put image place (take done all)) (so_far.written image told)
          ∙ ap (λ (l : List ℕ). Some (put (put image place (take done all)) (place + done) l)) is
          ∙ ap Some (put_more image place all done count within (range_fits place (length all) lawful inside image told));
      whole = IsMultipleOf-add old.geometry.prog done count so_far.whole whole;
      most = within;
    }

  -- the next piece may be programmed
  pub next_piece : (count : ℕ) → CanWrite old place (length all) → IsMultipleOf old.geometry.prog count → 1 ≤ count → count ≤ old.geometry.erase → done + count ≤ length all → CanProgram mid (place + done) count
  next_piece count can whole some most within =
      let of_old : CanProgram old (place + done) count = record {
        place_aligned = IsMultipleOf-add old.geometry.prog place done can.aligned so_far.whole;
        length_aligned = whole;
        at_least = omega (arith, unit_fits old.geometry.prog 0 count (zero-mod old.geometry.prog) whole some);
        at_most = most;
        inside = omega (arith, can.inside, within);
        erased = λ image told i from to. can.erased image told i (omega (arith, from)) (omega (arith, to, within));
      } in
      let long : length (take done all) ≡ done = length-take-le done all so_far.most in
      CanProgram-kept so_far.runs.kept (λ now mid_told.
      let was = told_before so_far.runs.kept mid_told in
      let fits : place + length all ≤ length was.0 = range_fits place (length all) lawful inside was.0 was.1 in
      subst (λ (l : List ℕ). IsErased l (place + done) count) (sym (put_so_far was.0 now was.1 mid_told))
      (IsErased-Torn place (length (take done all)) was.0 (put was.0 place (take done all)) (place + done) count
      (Torn-put was.0 place (take done all) (omega (arith, fits, long, within))) (inr (omega (arith, long)))
      (of_old.erased was.0 was.1))) of_old

-- how many bytes the next piece has
pub record IsStep (prog erase work n done count : ℕ) : Type 0 where
  pub whole : IsMultipleOf prog count
  pub some : 1 ≤ count
  pub in_unit : count ≤ erase
  pub in_work : count ≤ work
  pub within : done + count ≤ n

IsMultipleOf-min : (unit a b : ℕ) → IsMultipleOf unit a → IsMultipleOf unit b → IsMultipleOf unit (min a b)
IsMultipleOf-min unit a b whole_a whole_b = elim (cases_lt a b) [
  | inl less ↦ let is : min a b ≡ a = omega arith in subst (IsMultipleOf unit) (sym is) whole_a
  | inr not_less ↦ let is : min a b ≡ b = omega arith in subst (IsMultipleOf unit) (sym is) whole_b
]

pub step_is : (prog erase work most n done count : ℕ) → 0 < prog → prog ≤ work → prog ≤ erase → most ≡ min work erase → IsMultipleOf prog n → IsMultipleOf prog done → done < n → count ≡ min (most / prog * prog) (n - done) → IsStep prog erase work n done count
step_is prog erase work most n done count positive unit_work unit_erase most_is whole_n whole_done more count_is =
    let step : ℕ = most / prog * prog in
    let split : most / prog * prog + most % prog ≡ most = div-add-mod' most prog in
    let rest : most % prog < prog = mod_below most prog positive in
    record {
      whole = subst (IsMultipleOf prog) (sym count_is)
          (IsMultipleOf-min prog step (n - done) (IsMultipleOf-mul prog (most / prog)) (IsMultipleOf-sub prog n done whole_n whole_done));
      some = omega (arith, split, rest);
      in_unit = omega (arith, split);
      in_work = omega (arith, split);
      within = omega arith;
    }

-- the same by the geometry that was read from the device
pub next_step : (g read : Geometry) → read ≡ g → IsValid g → (work most n size done count : ℕ) → g.prog ≤ work → most ≡ min work read.erase → size ≡ n → IsMultipleOf g.prog n → IsMultipleOf g.prog done → done < size → count ≡ min (most / read.prog * read.prog) (size - done) → IsStep g.prog g.erase work n done count
next_step g read same valid work most n size done count unit most_is size_is whole_n whole_done more count_is =
    step_is g.prog g.erase work most n done count (prog_positive g valid) unit (prog_le_erase g valid)
    (most_is ∙ ap (λ (x : Geometry). min work x.erase) same) whole_n whole_done (omega (arith, size_is, more))
    (count_is ∙ ap (λ (x : Geometry). min (most / x.prog * x.prog) (size - done)) same ∙ ap (λ (k : ℕ). min (most / g.prog * g.prog) (k - done)) size_is)

module _ (g : Geometry) (valid : IsValid g) (key value : List ℕ) where
  pub payload_long : length (record_payload g.prog key value) ≡ up g.prog (length key + length value)
  payload_long = length-record_payload g.prog (prog_positive g valid) 0 key value

  pub payload_whole : IsMultipleOf g.prog (length (record_payload g.prog key value))
  payload_whole = subst (IsMultipleOf g.prog) (sym payload_long) (up-multiple g.prog (length key + length value))

  -- the next piece of a payload
  pub payload_step : (read : Geometry) → read ≡ g → (work most size done count : ℕ) → g.prog ≤ work → most ≡ min work read.erase → size ≡ up read.prog (length key + length value) → IsMultipleOf g.prog done → done < size → count ≡ min (most / read.prog * read.prog) (size - done)
      → IsStep g.prog g.erase work (length (record_payload g.prog key value)) done count
  payload_step read same work most size done count unit most_is size_is whole_done more count_is =
      next_step g read same valid work most (length (record_payload g.prog key value)) size done count unit most_is
      (size_is ∙ ap (λ (x : Geometry). up x.prog (length key + length value)) same ∙ sym payload_long)
      payload_whole whole_done more count_is

-- ---- a record

-- a header fits the work buffer
pub header_in_work : (prog work : ℕ) → 0 < prog → prog ≤ work → 64 ≤ work → up prog 24 ≤ work
header_in_work prog work positive unit least = elim (cases_lt prog 24) [
  | inl small ↦ omega (arith, up-most prog 24)
  | inr large ↦ omega (arith, up-least prog 24 1 positive (omega (arith, large)))
]

module _ (s : FlashState) (valid : IsValid s.geometry) (place n : ℕ) (can : CanWrite s place (up s.geometry.prog 24 + n)) where
  -- behind the header's range the payload's
  pub can_payload : CanWrite s (place + up s.geometry.prog 24) n
  can_payload = record {
    aligned = IsMultipleOf-add s.geometry.prog place (up s.geometry.prog 24) can.aligned (up-multiple s.geometry.prog 24);
    inside = omega (arith, can.inside);
    erased = λ image told i from to. can.erased image told i (omega (arith, from)) (omega (arith, to));
  }

  pub can_header : CanProgram s place (up s.geometry.prog 24)
  can_header =
      let some : 0 < up s.geometry.prog 24 = omega (arith, up-ge s.geometry.prog 24 (prog_positive s.geometry valid)) in
      record {
        place_aligned = can.aligned;
        length_aligned = up-multiple s.geometry.prog 24;
        at_least = omega (arith, unit_fits s.geometry.prog 0 (up s.geometry.prog 24) (zero-mod s.geometry.prog) (up-multiple s.geometry.prog 24) some);
        at_most = omega (arith, valid.header_fits);
        inside = omega (arith, can.inside);
        erased = λ image told i from to. can.erased image told i from (omega (arith, to));
      }

-- a whole payload was written
abbrev pub HasPayload : FlashState → FlashState → ℕ → List ℕ → Type 0
HasPayload old mid behind payload = ForSome old.image (λ image. mid.image ≡ Some (put image behind payload))

module _ {old mid : FlashState} (lawful : IsLawful old) (kept : Keeps old mid) (payload : List ℕ) where
  -- behind a whole payload the header's range is still erased
  pub header_after : (valid : IsValid old.geometry) → (place : ℕ) → (can : CanWrite old place (up old.geometry.prog 24 + length payload)) → HasPayload old mid (place + up old.geometry.prog 24) payload → CanProgram mid place (up old.geometry.prog 24)
  header_after valid place can written =
      let behind : ℕ = place + up old.geometry.prog 24 in
      let of_old = can_header old valid place (length payload) can in
      CanProgram-kept kept (λ image told.
      let was = told_before kept told in
      let fits : behind + length payload ≤ length was.0 = omega (arith, can.inside, lawful.sized was.0 was.1) in
      let is : put was.0 behind payload ≡ image = some_is (put was.0 behind payload) image (sym (written was.0 was.1) ∙ told) in
      subst (λ (l : List ℕ). IsErased l place (up old.geometry.prog 24)) is
      (IsErased-Torn behind (length payload) was.0 (put was.0 behind payload) place (up old.geometry.prog 24)
      (Torn-put was.0 behind payload fits) (inl (omega arith)) (of_old.erased was.0 was.1))) of_old

-- a payload that failed
pub record_failed : {old new : FlashState} (prog place behind : ℕ) (header payload : List ℕ) → behind ≡ place + length header → RunsBy old new (Ascends prog behind payload) WriteFailed → RunsBy old new (WritesRecord prog place header payload) WriteFailed
record_failed prog place behind header payload at runs =
    runs_weakened (WritesRecord prog place header payload)
    (λ image told call c moment. inl (subst (λ (p : ℕ). Ascends prog p payload image call c) at moment)) runs

module _ {T : Type 0} {old mid new : FlashState} (prog place : ℕ) (header payload : List ℕ) (lawful : IsLawful mid) (inside : place + length header + length payload ≤ size_of old.geometry) where
  -- a whole payload, and then the header's program
  pub record_runs : RunsBy old mid (Ascends prog (place + length header) payload) Done → HasPayload old mid (place + length header) payload → (result : Result T FlashFault) → Writes mid new place header result
      → RunsBy old new (WritesRecord prog place header payload) (ended result)
  record_runs first written result wrote =
      runs_more result
      (runs_weakened (WritesRecord prog place header payload) (λ image told call c moment. inl moment) first) wrote
      (λ now told. omega (arith, inside, lawful.sized now told, ap size_of first.kept.geometry))
      (λ image now told mid_told was call c moment. inr
      (subst (λ (l : List ℕ). IsMomentWithin l place header call c) (some_is now (payload_put image place header payload) (sym mid_told ∙ written image told)) moment))

-- then the record stands
pub record_put : {T : Type 0} (old mid new : FlashState) (prog place flags : ℕ) (key value : List ℕ) → IsLawful old
    → place + length (record_header prog flags key value) + length (record_payload prog key value) ≤ size_of old.geometry → HasPayload old mid (place + length (record_header prog flags key value)) (record_payload prog key value)
    → (result : Result T FlashFault) → Writes mid new place (record_header prog flags key value) result
    → OnImage old.image result (λ image. new.image ≡ Some (put image place (record_bytes prog flags key value)))
unfolding record_bytes
record_put old mid new prog place flags key value lawful inside written result wrote image told = on_ok_weaker result
    (λ is. is ∙ ap Some (put-before image place (record_header prog flags key value) (record_payload prog key value) (omega (arith, inside, lawful.sized image told))))
    (wrote.written (put image (place + length (record_header prog flags key value)) (record_payload prog key value)) (written image told))

-- an area has room for a master record
pub master_inside : (g : Geometry) (area : ℕ) → IsValid g → IsArea g area → area + master_size g.prog ≤ size_of g
master_inside g area valid is_area =
    let fits : master_size g.prog ≤ area_size g = omega (arith, valid.master_fits) in
    ⊎_elim (λ first. omega (arith, first, fits, size-areas g)) (λ second. omega (arith, second, fits, size-areas g)) is_area

pub can_write_master : (s : FlashState) (area : ℕ) → IsValid s.geometry → IsArea s.geometry area → ForSome s.image (λ image. IsErased image area (master_size s.geometry.prog)) → CanWrite s area (master_size s.geometry.prog)
can_write_master s area valid is_area erased =
    let prog : ℕ = s.geometry.prog in
    record {
      aligned = ⊎_elim
          (λ first. subst (IsMultipleOf prog) (sym first) (zero-mod prog))
          (λ second. subst (IsMultipleOf prog) (sym second) (area_whole_progs s.geometry valid))
          is_area;
      inside = master_inside s.geometry area valid is_area;
      erased = erased;
    }
