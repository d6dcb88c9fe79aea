use Rattle.std.proofs.Common.{◌≡◌, ℕ, ◌<◌, List, length, get_or, sym, ap, ap₂, ◌∙◌, rules}
use Rattle.std.specs.Int.Bits.{bit_xor}
use Rattle.kv_model.specs.Crc.{shifted_times}
use Rattle.record_core.proofs.CrcBySlice.{crc_from-eight}
use Rattle.record_core.proofs.checksum.after_slice.Goals as goal

pub returns : goal.returns
returns c =
    let slice : List ℕ = c.args.slice.now in
    let long : length slice ≡ 8 = search rules in
    let bytes : (i : ℕ) → get_or slice i 0 < 256 = search rules in
    ap₂ bit_xor
    (c.shifted_word.ensures ∙ ap (λ (n : ℕ). shifted_times 64 (bit_xor c.args.crc n)) c.from_le_bytes-front.ensures)
    (c.shifted_word-2.ensures ∙ ap (shifted_times 32) c.from_le_bytes-back.ensures)
    ∙ sym (crc_from-eight c.args.crc slice long bytes)
