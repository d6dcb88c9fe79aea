use Rattle.std.proofs.Common.{◌≡◌, ◌%◌, ◌^◌, refl, sym, ◌∙◌, arith}
use Rattle.std.proofs.Math.Nat.{mod-lt}
use Rattle.record_core.proofs.HeaderLemmas.{flags_fit, low_bytes}
use Rattle.record_core.proofs.header.fields_of.Goals as goal

pub returns-clause-only : goal.returns-clause-only
returns-clause-only c header valid fields =
    let flags : c.u32_at.result ≡ header.flags = c.u32_at.ensures.only header.flags (flags_fit valid) fields.flags in
    let key_size : c.u16_at.result ≡ header.key_size = c.u16_at.ensures.only header.key_size (omega arith) fields.key_size in
    let value_size : c.u32_at-2.result ≡ header.value_size = c.u32_at-2.ensures.only header.value_size (omega arith) fields.value_size in
    let sum : c.u32_at-3.result ≡ header.crc % 2 ^ 32 =
    c.u32_at-3.ensures.only (header.crc % 2 ^ 32) (mod-lt header.crc (omega arith)) (fields.crc ∙ sym (low_bytes header.crc)) in
    rw (flags, key_size, value_size, sum) refl
