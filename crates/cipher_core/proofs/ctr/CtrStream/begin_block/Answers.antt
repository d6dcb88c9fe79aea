use Rattle.std.proofs.Common.{◌+◌, ◌*◌, ap, ◌∙◌, arith, rules}
use Rattle.cipher_core.specs.Ctr.{CtrState, ctr_text}
use Rattle.cipher_core.proofs.CtrText.{ctr_text-front}
use Rattle.cipher_core.proofs.ctr.CtrStream.begin_block.Goals as goal

pub returns-clause-text : goal.returns-clause-text
returns-clause-text c =
    let place = ap (λ (s : CtrState). s.place) c.self.view_is in
    c.combine.ensures
    ∙ ctr_text-front _ _ c.self.inside.blocks c.self.inside.blocks (16 * c.self.inside.blocks + c.self.inside.used) _ _ c.key_stream_block-self-inside.ensures (omega arith) (omega arith) (search rules) (omega arith)
    ∙ ap (λ (s : CtrState). ctr_text s.key s.start s.place c.args.bytes.now) c.self.view_is
