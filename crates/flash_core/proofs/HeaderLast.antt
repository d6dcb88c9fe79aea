-- A payload, and then the header before it.
use Rattle.std.proofs.Common.{ℕ, ◌+◌, ◌≤◌, List, length, inl, inr, subst, sym, arith}
use Rattle.std.specs.Prelude.{Option}
use Rattle.flash_core.specs.Images.{Torn}
use Rattle.flash_core.specs.Moments.{Within}
use Rattle.flash_core.specs.State.{DeviceCall}
use Rattle.flash_core.specs.TwoPrograms.{IsHeaderLast, payload_put}
use Rattle.flash_core.proofs.ImageLaws.{Torn-put, Torn-refl, Torn-widen, length-put}
use Rattle.flash_core.proofs.MomentLaws.{Within-moment_within}

-- at no moment a byte outside the two ranges differs
pub Within-header_last : (place : ℕ) (header payload image : List ℕ) (call : Option DeviceCall) (c : List ℕ) → place + length header + length payload ≤ length image
    → IsHeaderLast place header payload image call c → Within place (length header + length payload) image call c
Within-header_last place header payload image call c fits (inl same) =
    let wide : ℕ = length header + length payload in
    subst (λ (k : Option DeviceCall). Within place wide image k c) (sym same.0) (subst (λ (l : List ℕ). Torn place wide image l) (sym same.1) (Torn-refl place wide image))
Within-header_last place header payload image call c fits (inr (inl moment)) =
    let wide : ℕ = length header + length payload in
    Within-moment_within place wide image image (place + length header) payload call c (Torn-refl place wide image) (omega arith) (omega arith) fits moment
Within-header_last place header payload image call c fits (inr (inr moment)) =
    let behind : ℕ = place + length header in
    let wide : ℕ = length header + length payload in
    let long = length-put image behind payload fits in
    Within-moment_within place wide image (payload_put image place header payload) place header call c
    (Torn-widen behind (length payload) place wide (omega arith) (omega arith) (Torn-put image behind payload fits))
    (omega arith) (omega arith) (omega (arith, fits, long)) moment
