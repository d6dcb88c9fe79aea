use Rattle.std.proofs.Common.{ap, ◌∙◌}
use Rattle.std.specs.Int.{to_be_bytes, w32}
use Rattle.aes_core.specs.Aes.{xor_bytes, words_from, next_round_key}
use Rattle.aes_core.proofs.WordBytes.{to_be_bytes-⊕, four}
use Rattle.aes_core.proofs.columns.Columns.next_round_key.Goals as goal

pub returns : goal.returns
unfolding next_round_key words_from
returns c =
    let first = to_be_bytes-⊕ c.args.self.first c.turned_word.result ∙ ap (xor_bytes (to_be_bytes w32 c.args.self.first)) c.turned_word.ensures in
    let second = to_be_bytes-⊕ c.args.self.second _ ∙ ap (xor_bytes (to_be_bytes w32 c.args.self.second)) first in
    let third = to_be_bytes-⊕ c.args.self.third _ ∙ ap (xor_bytes (to_be_bytes w32 c.args.self.third)) second in
    let fourth = to_be_bytes-⊕ c.args.self.fourth _ ∙ ap (xor_bytes (to_be_bytes w32 c.args.self.fourth)) third in
    four _ _ _ _ _ _ _ _ first second third fourth
