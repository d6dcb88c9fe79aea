-- What a log of writes tells.
use Rattle.std.proofs.Common.{◌≡◌, ◌⊎◌, ℕ, ◌+◌, ◌-◌, ◌<◌, ◌≤◌, List, [], ◌∷◌, ◌++◌, length, take, drop, inl, inr, refl, sym, ◌∙◌, ap, arith, subst}
use Rattle.std.specs.Prelude.{Option, Some, None}
use Rattle.std.proofs.lemmas.List.{places, length-append, length-drop, take-append-le, drop-append-le}
use Rattle.std.proofs.lemmas.Bool.{cases_lt}
use Rattle.std.proofs.Math.Seq.{take-length}
use Rattle.flash_core.specs.declared.write_log.Range.{Range}
use Rattle.flash_core.specs.Calls.{IsMomentWithin}
use Rattle.flash_core.specs.Images.{put, Torn}
use Rattle.flash_core.specs.State.{DeviceCall, call_at}
use Rattle.flash_core.specs.LogMoments.{image_now}
use Rattle.flash_core.specs.WriteLog.{Logged, LogState, MomentOf, image_at, replayed, total, with_write, write_at, writes_of}

pub total_more : (ranges : List Range) (range : Range) → total (ranges ++ range ∷ []) ≡ total ranges + range.size
total_more [] range = omega arith
total_more (first ∷ ranges) range = omega (arith, total_more ranges range)

-- a write more at the end of both lists
pub writes_more : (ranges : List Range) (range : Range) (bytes more : List ℕ) → total ranges ≡ length bytes → range.size ≡ length more
    → writes_of (ranges ++ range ∷ []) (bytes ++ more) ≡ writes_of ranges bytes ++ record { place = range.place; bytes = more } ∷ []
writes_more [] range [] more whole sized =
    ap (λ (l : List ℕ). record { place = range.place; bytes = l } ∷ []) (ap (λ (n : ℕ). take n more) sized ∙ take-length more)
writes_more [] range (byte ∷ bytes) more whole sized = absurd (omega (arith, whole))
writes_more (first ∷ ranges) range bytes more whole sized =
    let le : first.size ≤ length bytes = omega (arith, whole) in
    let here : take first.size (bytes ++ more) ≡ take first.size bytes = take-append-le first.size bytes more le in
    let rest : drop first.size (bytes ++ more) ≡ drop first.size bytes ++ more = drop-append-le first.size bytes more le in
    let long : total ranges ≡ length (drop first.size bytes) = omega (arith, whole, length-drop first.size bytes) in
    ap (λ (l : List ℕ). record { place = first.place; bytes = l } ∷ writes_of (ranges ++ range ∷ []) (drop first.size (bytes ++ more))) here
    ∙ ap (λ (l : List Logged). record { place = first.place; bytes = take first.size bytes } ∷ l)
    (ap (writes_of (ranges ++ range ∷ [])) rest ∙ writes_more ranges range (drop first.size bytes) more long sized)

-- the log as it is kept, with a write more
pub kept_is : (first : List ℕ) (ranges ranges_now : List Range) (bytes bytes_now : List ℕ) (place : ℕ) (more : List ℕ) (left faults : ℕ) → total ranges ≡ length bytes → ranges_now ≡ ranges ++ record { place = place; size = length more } ∷ [] → bytes_now ≡ bytes ++ more
    → record { first = first; writes = writes_of ranges_now bytes_now; left = left - length more; faults = faults } ≡ with_write (record { first = first; writes = writes_of ranges bytes; left = left; faults = faults }) place more
kept_is first ranges ranges_now bytes bytes_now place more left faults whole ranges_is bytes_is =
    ap (λ (l : List Logged). record { first = first; writes = l; left = left - length more; faults = faults })
    (ap (λ (l : List Range). writes_of l bytes_now) ranges_is
    ∙ ap (writes_of (ranges ++ record { place = place; size = length more } ∷ [])) bytes_is
    ∙ writes_more ranges (record { place = place; size = length more }) bytes more whole refl)

-- ---- moments

pub replayed_more : (first : List ℕ) (writes : List Logged) (write : Logged) → replayed first (writes ++ write ∷ []) ≡ put (replayed first writes) write.place write.bytes
replayed_more first [] write = refl
replayed_more first (next ∷ writes) write = replayed_more (put first next.place next.bytes) writes write

module _ (log : LogState) (place : ℕ) (bytes : List ℕ) where
  -- before the new write nothing differs
  image_before : (count : ℕ) → count ≤ length log.writes → image_at log.first (with_write log place bytes).writes count ≡ image_at log.first log.writes count
  image_before count le = ap (replayed log.first) (take-append-le count log.writes (record { place = place; bytes = bytes } ∷ []) le)

  write_before : (count : ℕ) → count < length log.writes → write_at (with_write log place bytes).writes count ≡ write_at log.writes count
  write_before count lt = grind (arith, places)

  write_new : write_at (with_write log place bytes).writes (length log.writes) ≡ record { place = place; bytes = bytes }
  write_new = grind (arith, places)

  long : length (with_write log place bytes).writes ≡ length log.writes + 1
  long = length-append log.writes (record { place = place; bytes = bytes } ∷ [])

  -- what was told stands
  pub moments_stand : (t : ℕ) (call : Option DeviceCall) (c : List ℕ) → MomentOf log.first log.writes t call c → MomentOf log.first (with_write log place bytes).writes t call c
  moments_stand t None c at = record {
    count = at.count;
    since = at.since;
    most = omega (arith, at.most, long);
    is = at.is ∙ sym (image_before at.count at.most);
  }
  moments_stand t (Some call) c at = record {
    count = at.count;
    since = at.since;
    more = omega (arith, at.more, long);
    moment = subst (λ (w : Logged). IsMomentWithin (image_at log.first (with_write log place bytes).writes at.count) w.place w.bytes (Some call) c) (sym (write_before at.count at.more))
        (subst (λ (l : List ℕ). IsMomentWithin l (write_at log.writes at.count).place (write_at log.writes at.count).bytes (Some call) c) (sym (image_before at.count (omega (arith, at.more)))) at.moment);
  }

  module _ (image : List ℕ) (is : image ≡ replayed log.first log.writes) where
    image_then : image_at log.first (with_write log place bytes).writes (length log.writes) ≡ image
    image_then = image_before (length log.writes) (omega arith) ∙ image_now log.first log.writes ∙ sym is

    image_end : image_at log.first (with_write log place bytes).writes (length log.writes + 1) ≡ put image place bytes
    image_end =
        ap (image_at log.first (with_write log place bytes).writes) (sym long)
        ∙ image_now log.first (with_write log place bytes).writes
        ∙ replayed_more log.first log.writes (record { place = place; bytes = bytes })
        ∙ ap (λ (l : List ℕ). put l place bytes) (sym is)

    -- what is told anew is a moment of the new write
    pub moments_anew : (t : ℕ) (call : Option DeviceCall) (c : List ℕ) → MomentOf log.first (with_write log place bytes).writes t call c → MomentOf log.first log.writes t call c ⊎ IsMomentWithin image place bytes call c
    moments_anew t None c at = elim (cases_lt (length log.writes) at.count) [
      | inl new ↦
          let end : at.count ≡ length log.writes + 1 = omega (arith, at.most, long) in
          inr (at.is ∙ ap (image_at log.first (with_write log place bytes).writes) end ∙ image_end)
      | inr old ↦ inl (record { count = at.count; since = at.since; most = old; is = at.is ∙ image_before at.count old })
    ]
    moments_anew t (Some call) c at = elim (cases_lt at.count (length log.writes)) [
      | inl old ↦ inl (record {
        count = at.count;
        since = at.since;
        more = old;
        moment = subst (λ (w : Logged). IsMomentWithin (image_at log.first log.writes at.count) w.place w.bytes (Some call) c) (write_before at.count old)
            (subst (λ (l : List ℕ). IsMomentWithin l (write_at (with_write log place bytes).writes at.count).place (write_at (with_write log place bytes).writes at.count).bytes (Some call) c) (image_before at.count (omega arith)) at.moment);
      })
      | inr new ↦
          let end : at.count ≡ length log.writes = omega (arith, at.more, long) in
          let here : IsMomentWithin (image_at log.first (with_write log place bytes).writes (length log.writes)) (write_at (with_write log place bytes).writes (length log.writes)).place (write_at (with_write log place bytes).writes (length log.writes)).bytes (Some call) c =
          subst (λ (n : ℕ). IsMomentWithin (image_at log.first (with_write log place bytes).writes n) (write_at (with_write log place bytes).writes n).place (write_at (with_write log place bytes).writes n).bytes (Some call) c) end at.moment in
          inr (subst (λ (l : List ℕ). IsMomentWithin l place bytes (Some call) c) image_then
          (subst (λ (w : Logged). IsMomentWithin (image_at log.first (with_write log place bytes).writes (length log.writes)) w.place w.bytes (Some call) c) write_new here))
    ]

    -- each torn image inside it is told, and the whole one behind it
    pub inside_is_told : (c : List ℕ) → Torn place (length bytes) image c → MomentOf log.first (with_write log place bytes).writes (length log.writes) (Some (call_at image place bytes)) c
    inside_is_told c torn =
        let call : DeviceCall = call_at image place bytes in
        record {
          count = length log.writes;
          since = omega arith;
          more = omega (arith, long);
          moment = subst (λ (w : Logged). IsMomentWithin (image_at log.first (with_write log place bytes).writes (length log.writes)) w.place w.bytes (Some call) c) (sym write_new)
              (subst (λ (l : List ℕ). IsMomentWithin l place bytes (Some call) c) (sym image_then) (refl, torn));
        }

    pub behind_is_told : MomentOf log.first (with_write log place bytes).writes (length (with_write log place bytes).writes) None (put image place bytes)
    behind_is_told = record {
      count = length log.writes + 1;
      since = omega (arith, long);
      most = omega (arith, long);
      is = sym image_end;
    }
