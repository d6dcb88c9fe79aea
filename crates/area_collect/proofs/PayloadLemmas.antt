-- What copies of bytes leave, one behind another.
use Rattle.std.proofs.Common.{◌≡◌, ◌⊎◌, ℕ, ◌+◌, ◌-◌, ◌*◌, ◌/◌, ◌<◌, ◌≤◌, min, List, [], ◌++◌, length, replicate, refl, sym, ◌∙◌, ap, subst, arith, inl, inr, ⊎_elim, append_assoc, append-nil, length-append}
use Rattle.std.specs.Prelude.{Some, Result}
use Rattle.std.specs.Option.{ForSome}
use Rattle.std.proofs.lemmas.List.{length-replicate}
use Rattle.base_core.specs.Units.{IsMultipleOf, up}
use Rattle.std.proofs.Math.Nat.{zero-mod}
use Rattle.std.proofs.lemmas.Bool.{cases_lt}
use Rattle.base_core.proofs.UnitLemmas.{IsMultipleOf-add, unit_fits, up-is_least, up-multiple}
use Rattle.flash_core.specs.declared.flash.FlashFault.{FlashFault}
use Rattle.flash_core.specs.Calls.{CanProgram, Writes}
use Rattle.flash_core.specs.Images.{IsErased, put}
use Rattle.flash_core.specs.Moments.{Within}
use Rattle.flash_core.specs.Runs.{Done, Ending, RunsBy, ended}
use Rattle.flash_core.specs.Sizes.{IsValid, size_of}
use Rattle.flash_core.specs.State.{FlashState, IsLawful}
use Rattle.flash_core.proofs.ImageLaws.{IsErased-Torn, Torn-refl, part-Torn, put-append, put-nil}
use Rattle.flash_core.proofs.KeptLaws.{CanProgram-kept, told_after, told_before}
use Rattle.flash_core.proofs.MomentLaws.{Within-moment, Within-trans, Within-widen}
use Rattle.flash_core.proofs.RunLaws.{one_write, runs_none, runs_reads, runs_then, runs_weakened}
use Rattle.kv_model.specs.declared.error.KvError.{KvError}
use Rattle.kv_model.specs.Crc.{crc_from}
use Rattle.kv_model.proofs.CrcLemmas.{crc_from-append}
use Rattle.record_core.specs.Endings.{kv_ended}
use Rattle.record_core.specs.Lookup.{IsSeen}
use Rattle.record_core.specs.Reading.{HasRead}
use Rattle.record_core.specs.Written.{CanWrite}
use Rattle.record_core.proofs.LookupLemmas.{IsSeen-more}
use Rattle.record_core.proofs.ReaderLemmas.{has_read_by}
use Rattle.record_core.proofs.WriterLemmas.{IsStep, next_step}
use Rattle.flash_core.specs.declared.geometry.Geometry.{Geometry}
use Rattle.area_collect.specs.Payload.{AreApart, HasCopiedBytes}

pub some_is : {X : Type 0} (x y : X) → Some x ≡ Some y → x ≡ y
some_is x y same = cc

-- a run within a part of a range, behind one within the whole
pub within_then : {old mid new : FlashState} {ending : Ending} (place n q m : ℕ) → place ≤ q → q + m ≤ place + n → RunsBy old mid (Within place n) Done → RunsBy mid new (Within q m) ending → RunsBy old new (Within place n) ending
within_then place n q m from to first second = runs_then first second (λ image now told mid_told torn call c moment.
    Within-trans place n image now call c torn (Within-widen q m place n now call c from to moment))

-- a run within a part of a range
pub within_wider : {old new : FlashState} {ending : Ending} (place n q m : ℕ) → place ≤ q → q + m ≤ place + n → RunsBy old new (Within q m) ending → RunsBy old new (Within place n) ending
within_wider place n q m from to runs = runs_weakened (Within place n) (λ image told call c moment. Within-widen q m place n image call c from to moment) runs

pub within_none : (s : FlashState) (place n : ℕ) → RunsBy s s (Within place n) Done
within_none s place n = runs_none s (Within place n) Done tt (λ image told. Torn-refl place n image)

-- a read that answered, or failed
pub read_within : {T : Type 0} {old new : FlashState} (place n : ℕ) (result : Result T KvError) → HasRead old new result → RunsBy old new (Within place n) (kv_ended result)
read_within place n result read = runs_reads (Within place n) (has_read_by result read) (λ image told. Torn-refl place n image)

-- one program
pub program_within : {T : Type 0} {old new : FlashState} (place : ℕ) (bytes : List ℕ) (result : Result T FlashFault) → IsLawful old → place + length bytes ≤ size_of old.geometry → Writes old new place bytes result → RunsBy old new (Within place (length bytes)) (ended result)
program_within {T} {old} {new} place bytes result lawful inside wrote =
    let fits : ForSome old.image (λ image. place + length bytes ≤ length image) = λ image told. omega (arith, inside, lawful.sized image told) in
    one_write (Within place (length bytes)) result wrote fits (λ image told. Torn-refl place (length bytes) image)
    (λ image told call c moment. Within-moment image place bytes call c (fits image told) moment)

-- what is read behind a run that left these bytes alone was there before
pub seen_before : {old mid : FlashState} (place n q m : ℕ) (bytes : List ℕ) → IsLawful old → RunsBy old mid (Within place n) Done → (q + m ≤ place) ⊎ (place + n ≤ q) → q + m ≤ size_of old.geometry → IsSeen mid q m bytes → IsSeen old q m bytes
seen_before {old} {mid} place n q m bytes lawful runs apart inside seen = record {
  long = seen.long;
  told = λ image told.
      let now = told_after runs.kept told in
      seen.told now.0 now.1 ∙ part-Torn place n image now.0 q m (runs.stands image told now.0 now.1) apart (omega (arith, inside, lawful.sized image told));
}

-- what was erased stays so where a run left it alone
pub erased_behind : {old mid : FlashState} (place n q m : ℕ) → RunsBy old mid (Within place n) Done → (q + m ≤ place) ⊎ (place + n ≤ q) → ForSome old.image (λ image. IsErased image q m) → ForSome mid.image (λ image. IsErased image q m)
erased_behind {old} {mid} place n q m runs apart erased now now_told =
    let was = told_before runs.kept now_told in
    IsErased-Torn place n was.0 now q m (runs.stands was.0 was.1 now now_told) apart (erased was.0 was.1)

-- ---- a piece behind others

-- the bytes so far, and those right behind them
pub copied_more : {old mid new : FlashState} (source target total a none b p n q at to : ℕ) (start so_far sum : ℕ) → IsLawful old → AreApart source target total → source + (a + b) ≤ size_of old.geometry → target + total ≤ size_of old.geometry → none ≡ 0 → a + b + p ≤ total → n ≡ a + b → q ≡ p → at ≡ source + a → to ≡ target + a
    → RunsBy old mid (Within target total) Done → HasCopiedBytes old mid (record { source = source; target = target; size = a; padding = none }) start so_far
    → HasCopiedBytes mid new (record { source = at; target = to; size = b; padding = p }) so_far sum → HasCopiedBytes old new (record { source = source; target = target; size = n; padding = q }) start sum
copied_more {old} {mid} {new} source target total a none b p n q at to start so_far sum lawful apart inside target_inside is_none within n_is q_is at_is to_is runs first second =
    let front : List ℕ = first.bytes in
    let back : List ℕ = second.bytes in
    let pad : List ℕ = replicate p 255 in
    let erased : ℕ = 255 in
    let pad_long : length pad ≡ p = length-replicate p erased in
    let elsewhere : (source + a + b ≤ target) ⊎ (target + total ≤ source + a) = ⊎_elim (λ below. inl (omega (arith, below, within))) (λ behind. inr (omega (arith, behind))) apart in
    let seen : IsSeen old (source + a) b back = seen_before target total (source + a) b back lawful runs elsewhere (omega (arith, inside)) (subst (λ (k : ℕ). IsSeen mid k b back) at_is second.seen) in
    let no_pad : front ++ replicate none 255 ≡ front = ap (λ (k : ℕ). front ++ replicate k 255) is_none ∙ append-nil front in
    let long : length front ≡ a = first.seen.long in
    let all_long : length (front ++ (back ++ pad)) ≡ a + b + p = length-append front (back ++ pad) ∙ omega (arith, long, length-append back pad, second.seen.long, pad_long) in
    record {
      bytes = front ++ back;
      seen = subst (λ (k : ℕ). IsSeen old source k (front ++ back)) (sym n_is) (IsSeen-more first.seen seen);
      sum_is = second.sum_is ∙ ap (λ (k : ℕ). crc_from k back) first.sum_is ∙ sym (crc_from-append start front back);
      written = λ image told.
          second.written (put image target (front ++ replicate none 255)) (first.written image told)
          ∙ ap (λ (l : List ℕ). Some (put (put image target l) to (back ++ pad))) no_pad
          ∙ ap (λ (k : ℕ). Some (put (put image target front) k (back ++ pad))) (to_is ∙ ap (λ (k : ℕ). target + k) (sym long))
          ∙ ap Some (put-append image target front (back ++ pad) (omega (arith, all_long, within, target_inside, lawful.sized image told)))
          ∙ ap (λ (l : List ℕ). Some (put image target l)) (sym (append_assoc front back pad))
          ∙ ap (λ (k : ℕ). Some (put image target ((front ++ back) ++ replicate k 255))) (sym q_is);
    }

pub copied_none : (s : FlashState) (source target n p start : ℕ) → n ≡ 0 → p ≡ 0 → HasCopiedBytes s s (record { source = source; target = target; size = n; padding = p }) start start
unfolding crc_from
copied_none s source target n p start n_is p_is = record {
  bytes = [];
  seen = subst (λ (k : ℕ). IsSeen s source k []) (sym n_is) (record { long = refl; told = λ image told. refl });
  sum_is = refl;
  written = λ image told. told ∙ ap Some (sym (put-nil image target)) ∙ ap (λ (k : ℕ). Some (put image target (replicate k 255))) (sym p_is);
}

-- how far the next piece goes, of bytes padded to whole units
pub record IsNextPiece (prog size done count read : ℕ) : Type 0 where
  pub before_end : done < size
  pub here : min done size ≡ done
  pub none : done - min done size ≡ 0
  pub there : min (done + count) size ≡ min done size + read
  pub padding : done + count - min (done + count) size ≡ count - read
  pub most : read ≤ count

pub next_piece_is : (prog size done count read : ℕ) → 1 ≤ prog → IsMultipleOf prog done → done < up prog size → 1 ≤ count → read ≡ min count (size - done) → IsNextPiece prog size done count read
next_piece_is prog size done count read positive whole more some read_is =
    let before_end : done < size = elim (cases_lt done size) [
      | inl less ↦ less
      | inr not_less ↦ absurd (omega (arith, up-is_least prog size done positive whole (omega (arith, not_less)), more))
    ] in
    record {
      before_end = before_end;
      here = omega (arith, before_end);
      none = omega (arith, before_end);
      there = omega (arith, before_end, read_is);
      padding = omega (arith, before_end, read_is);
      most = omega (arith, read_is);
    }

-- behind the last piece
pub all_copied : {old new : FlashState} (source target size padded done start sum : ℕ) → size ≤ padded → done ≡ padded → HasCopiedBytes old new (record { source = source; target = target; size = min done size; padding = done - min done size }) start sum
    → HasCopiedBytes old new (record { source = source; target = target; size = size; padding = padded - size }) start sum
all_copied {old} {new} source target size padded done start sum fits end copied =
    let n : min done size ≡ size = omega arith in
    let p : done - min done size ≡ padded - size = omega arith in
    subst (λ (k : ℕ). HasCopiedBytes old new (record { source = source; target = target; size = k; padding = padded - size }) start sum) n
    (subst (λ (k : ℕ). HasCopiedBytes old new (record { source = source; target = target; size = min done size; padding = k }) start sum) p copied)

-- the next piece may be programmed
pub can_program_more : {old mid : FlashState} (target n done count : ℕ) → CanWrite old target n → RunsBy old mid (Within target done) Done → IsMultipleOf old.geometry.prog done → IsMultipleOf old.geometry.prog count → 1 ≤ count → count ≤ old.geometry.erase → done + count ≤ n → CanProgram mid (target + done) count
can_program_more {old} {mid} target n done count can runs whole_done whole some most within =
    let of_old : CanProgram old (target + done) count = record {
      place_aligned = IsMultipleOf-add old.geometry.prog target done can.aligned whole_done;
      length_aligned = whole;
      at_least = omega (arith, unit_fits old.geometry.prog 0 count (zero-mod old.geometry.prog) whole some);
      at_most = most;
      inside = omega (arith, can.inside, within);
      erased = λ image told i from to. can.erased image told i (omega (arith, from)) (omega (arith, to, within));
    } in
    CanProgram-kept runs.kept (erased_behind target done (target + done) count runs (inr (omega arith)) of_old.erased) of_old

-- a buffer that was split and filled is as long as before
pub same_units : (front back : List ℕ) (read n : ℕ) → length front ≡ read → back ≡ replicate (n - read) 255 → read ≤ n → length (front ++ back) ≡ n
same_units front back read n long is within =
    let erased : ℕ = 255 in
    length-append front back ∙ omega (arith, long, within, ap length is, length-replicate (n - read) erased)

-- how many bytes the next piece has, padding and all
pub piece_step : (g read : Geometry) → read ≡ g → IsValid g → (size work most padded done count : ℕ) → g.prog ≤ work → most ≡ min work read.erase → padded ≡ up read.prog size → IsMultipleOf g.prog done → done < padded → count ≡ min (most / read.prog * read.prog) (padded - done)
    → IsStep g.prog g.erase work (up g.prog size) done count
piece_step g read same valid size work most padded done count unit most_is padded_is whole more count_is =
    next_step g read same valid work most (up g.prog size) padded done count unit most_is (padded_is ∙ ap (λ (x : Geometry). up x.prog size) same) (up-multiple g.prog size) whole more count_is
