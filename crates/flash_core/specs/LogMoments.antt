-- What a log tells of now: the image that its writes lead to, and no other.
use Rattle.std.specs.Prelude.{◌≡◌, ℕ, ◌≤◌, List, length, Option, Some, None}
use Rattle.std.proofs.Common.{◌∙◌, ap, arith, sym}
use Rattle.std.proofs.Math.Seq.{take-length}
use Rattle.flash_core.specs.State.{DeviceCall}
use Rattle.flash_core.specs.WriteLog.{Logged, MomentOf, image_at, replayed}

-- at the end of the log stands the image of now
pub image_now : (first : List ℕ) (writes : List Logged) → image_at first writes (length writes) ≡ replayed first writes
image_now first writes = ap (replayed first) (take-length writes)

-- of now the image alone is told
pub only_now : (first : List ℕ) (writes : List Logged) (image : List ℕ) → image ≡ replayed first writes → (call : Option DeviceCall) (c : List ℕ) → MomentOf first writes (length writes) call c → c ≡ image
only_now first writes image is None c at =
    let end : at.count ≡ length writes = omega (arith, at.since, at.most) in
    at.is ∙ ap (image_at first writes) end ∙ image_now first writes ∙ sym is
only_now first writes image is (Some call) c at = absurd (omega (arith, at.since, at.more))

pub now_is_told : (first : List ℕ) (writes : List Logged) (image : List ℕ) → image ≡ replayed first writes → MomentOf first writes (length writes) None image
now_is_told first writes image is = record {
  count = length writes;
  since = omega arith;
  most = omega arith;
  is = is ∙ sym (image_now first writes);
}

pub moments_earlier : (first : List ℕ) (writes : List Logged) (t u : ℕ) (call : Option DeviceCall) (c : List ℕ) → t ≤ u → MomentOf first writes u call c → MomentOf first writes t call c
moments_earlier first writes t u None c le at = record { count = at.count; since = omega (arith, le, at.since); most = at.most; is = at.is }
moments_earlier first writes t u (Some call) c le at = record { count = at.count; since = omega (arith, le, at.since); more = at.more; moment = at.moment }
