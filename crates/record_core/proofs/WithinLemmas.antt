-- At no moment of a record's write a byte outside its range differs.
use Rattle.std.proofs.Common.{◌≡◌, ℕ, ◌+◌, ◌≤◌, List, length, take, sym, subst, arith, ⊎_elim}
use Rattle.std.specs.Prelude.{Option, Some, None}
use Rattle.std.proofs.lemmas.List.{length-take-le}
use Rattle.flash_core.specs.Images.{part, put, Torn}
use Rattle.flash_core.specs.Moments.{Within}
use Rattle.flash_core.specs.State.{DeviceCall}
use Rattle.flash_core.specs.TwoPrograms.{payload_put}
use Rattle.flash_core.proofs.ImageLaws.{Torn-put, Torn-widen, length-part, length-put}
use Rattle.flash_core.proofs.MomentLaws.{Within-moment_within, Within-widen}
use Rattle.kv_model.specs.Write.{Write}
use Rattle.record_core.specs.Log.{extent}
use Rattle.record_core.specs.Record.{record_header, record_payload}
use Rattle.record_core.specs.Written.{AppendsRecord, Ascends, WritesRecord}
use Rattle.record_core.proofs.RecordLemmas.{length-record_header, length-record_payload}

-- what stands up to a unit differs in the range of the whole alone
first_torn : (image : List ℕ) (place : ℕ) (bytes : List ℕ) (done : ℕ) → done ≤ length bytes → place + length bytes ≤ length image → Torn place (length bytes) image (put image place (take done bytes))
first_torn image place bytes done most fits =
    let long : length (take done bytes) ≡ done = length-take-le done bytes most in
    Torn-widen place (length (take done bytes)) place (length bytes) (omega arith) (omega (arith, long, most))
    (Torn-put image place (take done bytes) (omega (arith, long, most, fits)))

-- each moment of an ascending write lies in its range
pub Within-ascends : (prog place : ℕ) (bytes image : List ℕ) (call : Option DeviceCall) (c : List ℕ) → place + length bytes ≤ length image → Ascends prog place bytes image call c → Within place (length bytes) image call c
Within-ascends prog place bytes image None c fits first =
    subst (λ (l : List ℕ). Torn place (length bytes) image l) (sym first.is) (first_torn image place bytes first.done first.most fits)
Within-ascends prog place bytes image (Some call) c fits in_units =
    let done : ℕ = in_units.done in
    let most : done ≤ length bytes = omega (arith, in_units.within) in
    let long : length (part bytes done in_units.count) ≡ in_units.count = length-part bytes done in_units.count in_units.within in
    let first : List ℕ = take done bytes in
    let first_long : length first ≡ done = length-take-le done bytes most in
    Within-moment_within place (length bytes) image (put image place first) (place + done) (part bytes done in_units.count) (Some call) c
    (first_torn image place bytes done most fits) (omega arith) (omega (arith, long, in_units.within))
    (omega (arith, long, in_units.within, fits, length-put image place first (omega (arith, first_long, most, fits))))
    in_units.moment

-- and so does each moment of the write of a header behind its payload
pub Within-record : (prog place : ℕ) (header payload image : List ℕ) (call : Option DeviceCall) (c : List ℕ) → place + (length header + length payload) ≤ length image → WritesRecord prog place header payload image call c → Within place (length header + length payload) image call c
Within-record prog place header payload image call c fits moment =
    let behind : ℕ = place + length header in
    let n : ℕ = length header + length payload in
    let payload_fits : behind + length payload ≤ length image = omega arith in
    let so_far : Torn place n image (payload_put image place header payload) =
    Torn-widen behind (length payload) place n (omega arith) (omega arith) (Torn-put image behind payload payload_fits) in
    ⊎_elim
    (λ ascends. Within-widen behind (length payload) place n image call c (omega arith) (omega arith) (Within-ascends prog behind payload image call c payload_fits ascends))
    (λ of_header. Within-moment_within place n image (payload_put image place header payload) place header call c so_far (omega arith) (omega arith)
    (omega (arith, fits, length-put image behind payload payload_fits)) of_header)
    moment

-- by the record that is written
pub Within-appends : (prog : ℕ) → 1 ≤ prog → (place : ℕ) (r : Write) (image : List ℕ) (call : Option DeviceCall) (c : List ℕ) → place + extent prog r ≤ length image → AppendsRecord prog place r image call c → Within place (extent prog r) image call c
Within-appends prog positive place r image call c fits moment =
    let header : List ℕ = record_header prog r.flags r.key r.value in
    let payload : List ℕ = record_payload prog r.key r.value in
    let size : length header + length payload ≡ extent prog r =
    omega (arith, length-record_header prog positive r.flags r.key r.value, length-record_payload prog positive r.flags r.key r.value) in
    subst (λ (n : ℕ). Within place n image call c) size
    (Within-record prog place header payload image call c (omega (arith, size, fits)) moment)
