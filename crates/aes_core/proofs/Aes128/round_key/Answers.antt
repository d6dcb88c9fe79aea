use Rattle.std.proofs.Common.{List, ℕ, ap, ◌∙◌}
use Rattle.aes_core.specs.Aes.{round_key}
use Rattle.aes_core.proofs.Aes128.round_key.Goals as goal

pub returns : goal.returns
returns c = c.to_block.ensures ∙ c.self.invariant c.args.n _ c.requires ∙ ap (λ (key : List ℕ). round_key key c.args.n) c.self.view_is
