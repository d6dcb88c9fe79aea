use Rattle.std.proofs.Common.{ℕ, ◌∙◌, ap, sym, refl, get_or}
use Rattle.kv_model.specs.Crc.{crc_from, crc_step}
use Rattle.record_core.proofs.CrcByTable.{crc_from-more}
use Rattle.record_core.proofs.checksum.after_bytes.Goals as goal

pub loop-byte-init : goal.loop-byte-init
unfolding crc_from
loop-byte-init c = refl

pub loop-byte-preserved : goal.loop-byte-preserved
loop-byte-preserved c =
    c.after_byte-crc.ensures
    ∙ ap (λ (n : ℕ). crc_step n (get_or c.args.bytes.now c.loop-byte.byte-index 0)) c.loop-byte.invariant
    ∙ sym (crc_from-more c.args.start c.loop-byte.byte-index c.args.bytes.now c.loop-byte-test.true)
