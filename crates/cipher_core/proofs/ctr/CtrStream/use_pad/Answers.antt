use Rattle.std.proofs.Common.{ap, ◌∙◌, arith}
use Rattle.cipher_core.specs.Ctr.{CtrState, text_from}
use Rattle.cipher_core.proofs.CtrText.{ctr_text-rest}
use Rattle.cipher_core.proofs.ctr.CtrStream.use_pad.Goals as goal

pub returns-then-self-eq16-clause-text : goal.returns-then-self-eq16-clause-text
returns-then-self-eq16-clause-text c =
    let place = ap (λ (s : CtrState). s.place) c.self.view_is in
    c.combine.ensures ∙ ctr_text-rest _ _ _ c.self.inside.used _ c.self.inside.pad c.self.invariant.current c.self.told c.self.invariant.below (omega arith)
    ∙ ap (λ (s : CtrState). text_from s c.args.bytes.now) c.self.view_is

pub returns-else-self-eq16-clause-text : goal.returns-else-self-eq16-clause-text
returns-else-self-eq16-clause-text c =
    let place = ap (λ (s : CtrState). s.place) c.self.view_is in
    c.combine.ensures ∙ ctr_text-rest _ _ _ c.self.inside.used _ c.self.inside.pad c.self.invariant.current c.self.told c.self.invariant.below (omega arith)
    ∙ ap (λ (s : CtrState). text_from s c.args.bytes.now) c.self.view_is
