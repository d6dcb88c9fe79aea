use Rattle.std.proofs.Common.{◌≡◌, ℕ, List, ◌++◌, length, sym, ◌∙◌, ap}
use Rattle.kv_model.specs.Crc.{crc_from}
use Rattle.kv_model.proofs.CrcLemmas.{crc_from-append}
use Rattle.record_core.specs.Header.{header_front}
use Rattle.record_core.proofs.writer.header_for.Goals as goal

pub returns : goal.returns
returns c =
    let key = c.args.payload.now.key.now in
    let value = c.args.payload.now.value.now in
    let front : List ℕ = header_front c.args.flags (length key) (length value) in
    let start : c.crc_of_front-front.result ≡ crc_from 0xFFFF_FFFF front = c.crc_of_front-front.ensures in
    let sum : c.crc-2.result ≡ crc_from 0xFFFF_FFFF (front ++ key ++ value) =
    c.crc-2.ensures
    ∙ ap (λ (n : ℕ). crc_from n value) (c.crc.ensures ∙ ap (λ (n : ℕ). crc_from n key) start)
    ∙ ap (λ (n : ℕ). crc_from n value) (sym (crc_from-append 0xFFFF_FFFF front key))
    ∙ sym (crc_from-append 0xFFFF_FFFF (front ++ key) value) in
    λ i. record { flags = c.args.flags; key_size = length key; value_size = length value; crc = sum i }
