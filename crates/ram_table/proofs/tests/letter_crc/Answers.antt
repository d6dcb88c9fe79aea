use Rattle.std.proofs.Common.{◌≡◌, ℕ, [], ◌∷◌, sym, ◌∙◌, ap, arith}
use Rattle.kv_model.specs.Crc.{crc_of}
use Rattle.ram_table.proofs.LetterLemmas.{last_letter}
use Rattle.ram_table.proofs.tests.letter_crc.Goals as goal

pub returns-in_default : goal.returns-in_default
returns-in_default c =
    let last : c.args.letter ≡ 99 = last_letter c.args.letter c.requires (λ is. omega arith) (λ is. omega arith) in
    sym c.crc_values.ensures.c ∙ ap (λ (n : ℕ). crc_of (n ∷ [])) (sym last)
