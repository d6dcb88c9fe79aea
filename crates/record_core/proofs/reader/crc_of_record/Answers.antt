use Rattle.std.proofs.Common.{◌≡◌, ℕ, List, ◌∙◌, ap}
use Rattle.flash_core.specs.Images.{part}
use Rattle.kv_model.specs.Crc.{crc_from}
use Rattle.record_core.specs.Header.{header_front}
use Rattle.record_core.proofs.LookupLemmas.{if_told_crc}
use Rattle.record_core.proofs.ReaderLemmas.{crc_of-pieces}
use Rattle.record_core.proofs.reader.crc_of_record.Goals as goal

pub returns-clause-sum : goal.returns-clause-sum
returns-clause-sum g c image told =
    let header = c.args.header.now in
    let value : List ℕ = part image c.args.place header.value_size in
    let front : List ℕ = header_front header.flags header.key_size header.value_size in
    let before : c.crc-before.result ≡ crc_from (crc_from 0xFFFF_FFFF front) c.args.key.now =
    c.crc-before.ensures ∙ ap (crc_from c.crc_of_front.result) c.as_slice.ensures.bytes ∙ ap (λ (start : ℕ). crc_from start c.args.key.now) c.crc_of_front.ensures in
    if_told_crc (g.F.Flash.state c.args.flash.now) c.args.place header.value_size c.crc-before.result image told c.crc_of_range.result _
    (ap (λ (start : ℕ). crc_from start value) before ∙ crc_of-pieces front c.args.key.now value)
    c.crc_of_range.ensures.sum
