use Rattle.std.proofs.Common.{ℕ, List, take, ◌∙◌, ap}
use Rattle.kv_model.specs.Crc.{crc_from}
use Rattle.record_core.proofs.RecordLemmas.{front_of}
use Rattle.record_core.proofs.header.crc_of_front.Goals as goal

pub returns : goal.returns
returns c =
    c.crc.ensures ∙ ap (λ (l : List ℕ). crc_from 0xFFFF_FFFF (take 20 l)) c.to_bytes.ensures ∙ ap (crc_from 0xFFFF_FFFF) (front_of c.args.header.now)
