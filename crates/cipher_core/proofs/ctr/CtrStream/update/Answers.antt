use Rattle.std.proofs.Common.{ℕ, List, ◌++◌, length, sym, ap, ◌∙◌, arith}
use Rattle.cipher_core.specs.Ctr.{text_from}
use Rattle.cipher_core.proofs.CtrText.{text_from-++, text_from-joined, advanced-+}
use Rattle.cipher_core.proofs.ctr.CtrStream.update.Goals as goal

pub returns-clause-text : goal.returns-clause-text
returns-clause-text c =
    text_from-joined _ _ _ _ _ _ _ c.split_at_mut-front.ensures.value c.use_pad-2.ensures.text c.use_pad-2.ensures.state
    (text_from-joined _ _ _ _ _ _ _ c.split_at_mut-whole.ensures.value c.use_blocks.ensures.text c.use_blocks.ensures.state c.begin_block.ensures.text)

pub returns-then-buf-left-clause-pieces : goal.returns-then-buf-left-clause-pieces
returns-then-buf-left-clause-pieces c rest =
    text_from-++ _ _ _ rest c.use_pad.ensures.state ∙ ap (λ (xs : List ℕ). xs ++ text_from c.use_pad.new.self rest) (sym c.use_pad.ensures.text)

pub returns-clause-pieces : goal.returns-clause-pieces
returns-clause-pieces c rest =
    let state = advanced-+ _ _ _ _ _ (length c.args.buf.now) c.use_pad-2.ensures.state
    (advanced-+ _ _ _ _ _ (length c.split_at_mut-front.result.1.now) c.use_blocks.ensures.state c.begin_block.ensures.state (omega arith)) (omega arith) in
    text_from-++ c.args.self.now c.begin_block.new.self c.args.buf.now rest state ∙ ap (λ (xs : List ℕ). xs ++ text_from c.begin_block.new.self rest) (sym (returns-clause-text c))
