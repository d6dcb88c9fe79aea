use Rattle.std.proofs.Common.{◌≡◌, ℕ, ◌<◌, ◌*◌, ◌/◌, List, [], get_or, length, take, refl, sym, ap, ap₂, ◌∙◌, arith}
use Rattle.kv_model.specs.Crc.{crc_from}
use Rattle.record_core.proofs.CrcBySlice.{crc_from-slice, crc_from-rest}
use Rattle.record_core.proofs.checksum.crc.Goals as goal

pub loop-slice-init : goal.loop-slice-init
unfolding crc_from
loop-slice-init c = refl

pub loop-slice-preserved : goal.loop-slice-preserved
loop-slice-preserved c =
    let bytes : List ℕ = c.args.bytes.now in
    let i : ℕ = c.loop-slice.slice-index in
    let inside : i < length bytes / 8 = omega (arith, c.loop-slice-test.true, c.as_chunks.ensures.front_len) in
    c.after_slice-crc.ensures
    ∙ ap₂ (λ (n : ℕ) (slices : List (List ℕ)). crc_from n (get_or slices i [])) c.loop-slice.invariant c.as_chunks.ensures.front
    ∙ sym (crc_from-slice c.args.start (length bytes / 8) i bytes inside)

pub returns : goal.returns
returns c =
    let bytes : List ℕ = c.args.bytes.now in
    let end : c.loop-slice.slice-index * 8 ≡ length bytes / 8 * 8 = omega (arith, c.loop-slice-test.false, c.as_chunks.ensures.front_len) in
    c.after_bytes.ensures
    ∙ ap₂ crc_from (c.loop-slice.invariant ∙ ap (λ (n : ℕ). crc_from c.args.start (take n bytes)) end) c.as_chunks.ensures.back
    ∙ crc_from-rest c.args.start (length bytes / 8 * 8) bytes
