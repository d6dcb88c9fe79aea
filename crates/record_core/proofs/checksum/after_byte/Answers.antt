use Rattle.std.proofs.Common.{◌≡◌, ℕ, ◌/◌, ap, sym, ◌∙◌}
use Rattle.std.specs.Int.Bits.{bit_xor}
use Rattle.kv_model.specs.Crc.{crc_step, shifted_times}
use Rattle.record_core.proofs.CrcByTable.{shifted_byte_and_rest}
use Rattle.record_core.proofs.checksum.after_byte.Goals as goal

pub returns : goal.returns
unfolding crc_step
returns c =
    let mixed : bit_xor c.args.crc c.from.result ≡ bit_xor c.args.crc c.args.byte = ap (bit_xor c.args.crc) c.from.ensures in
    ap (λ (n : ℕ). bit_xor n (bit_xor c.args.crc c.from.result / 256)) c.shifted_byte.ensures
    ∙ sym (shifted_byte_and_rest (bit_xor c.args.crc c.from.result))
    ∙ ap (shifted_times 8) mixed
