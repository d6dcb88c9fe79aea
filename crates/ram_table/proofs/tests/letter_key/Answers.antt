use Rattle.std.proofs.Common.{◌≡◌, ℕ, List, [], ◌∷◌, sym, ◌∙◌, ap, subst, arith}
use Rattle.std.specs.Prelude.{IfOk}
use Rattle.ram_table.proofs.LetterLemmas.{last_letter}
use Rattle.ram_table.proofs.tests.letter_key.Goals as goal

pub returns-in_default : goal.returns-in_default
returns-in_default c =
    let last : c.args.letter ≡ 99 = last_letter c.args.letter c.requires (λ is. omega arith) (λ is. omega arith) in
    let read : c.unwrap-in_default.result ≡ 99 ∷ [] = subst (λ r. IfOk r (λ (key : List ℕ). key ≡ 99 ∷ [])) c.unwrap-in_default.ensures c.new-in_default.ensures.bytes in
    read ∙ ap (λ (n : ℕ). n ∷ []) (sym last)
