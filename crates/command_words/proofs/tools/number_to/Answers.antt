use Rattle.std.proofs.Common.{◌≡◌, ◌∙◌, arith, rules}
use Rattle.command_words.proofs.MeaningLemmas.{one_short}
use Rattle.command_words.proofs.tools.number_to.Goals as goal

pub returns-then-number-lt1 : goal.returns-then-number-lt1
returns-then-number-lt1 c = λ y h.
    let bytes : c.as_bytes.result.now ≡ c.args.word.now = search rules in
    let same = one_short c.as_bytes.result.now c.in_ok-number.number y c.in_ok-number.ensures (omega (arith, h.1), bytes ∙ h.2) in
    omega (arith, same, h.0)
