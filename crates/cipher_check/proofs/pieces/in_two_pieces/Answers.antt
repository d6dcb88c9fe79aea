use Rattle.std.proofs.Common.{[], ap, ap₂, sym, ◌∙◌}
use Rattle.cipher_core.specs.Cmac.{CmacState, cmac}
use Rattle.cipher_check.proofs.pieces.in_two_pieces.Goals as goal

pub returns-clause-tag : goal.returns-clause-tag
returns-clause-tag c =
    let whole = c.update-2.ensures.fed _ (c.update.ensures.fed [] c.new-mac.ensures.fed) in
    let key = c.update-2.ensures.key ∙ c.update.ensures.key ∙ ap (λ (s : CmacState). s.key) c.new-mac.ensures.state in
    c.finish.ensures.cmac _ whole ∙ ap₂ cmac key (sym c.split_at_mut-front.ensures.value)
