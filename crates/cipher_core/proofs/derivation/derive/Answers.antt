use Rattle.std.proofs.Common.{◌++◌, List, [], ◌∷◌, ℕ, ap, ap₂, ◌∙◌}
use Rattle.cipher_core.specs.Cmac.{CmacState, cmac}
use Rattle.cipher_core.proofs.derivation.derive.Goals as goal

pub returns : goal.returns
returns c =
    let first = c.update.ensures.fed [] c.new-stream.ensures.fed in
    let second = c.update-2.ensures.fed _ first in
    let third = c.update-3.ensures.fed _ second in
    let whole = c.update-4.ensures.fed _ third in
    let root = c.update-4.ensures.key ∙ c.update-3.ensures.key ∙ c.update-2.ensures.key ∙ c.update.ensures.key ∙ ap (λ (s : CmacState). s.key) c.new-stream.ensures.state in
    c.finish.ensures.cmac _ whole
    ∙ ap₂ cmac root (ap₂ (λ (t k : List ℕ). 0x01 ∷ (t ++ k ++ 0x00 ∷ 0x00 ∷ 0x80 ∷ [])) c.text.ensures c.as_slice.ensures.bytes)
