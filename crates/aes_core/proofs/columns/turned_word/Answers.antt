use Rattle.std.proofs.Common.{ℕ, ap, ◌∙◌}
use Rattle.std.proofs.lemmas.Nat.{xor_of_8}
use Rattle.aes_core.specs.Aes.{◌⊕◌, turned_word}
use Rattle.aes_core.proofs.WordBytes.{to_be_bytes-from, cells}
use Rattle.aes_core.proofs.columns.turned_word.Goals as goal

pub returns : goal.returns
unfolding turned_word
returns c =
    let a = ap (λ (b : ℕ). b ⊕ c.args.constant) (rw c.to_be_bytes.ensures at c.substituted.ensures) in
    let b = rw c.to_be_bytes.ensures at c.substituted-2.ensures in
    let d = rw c.to_be_bytes.ensures at c.substituted-3.ensures in
    let e = rw c.to_be_bytes.ensures at c.substituted-4.ensures in
    to_be_bytes-from _ _ _ _ _ (xor_of_8 _ _ c.substituted.type_inv c.ranges.constant.fits) c.substituted-2.type_inv c.substituted-3.type_inv c.substituted-4.type_inv c.from_be_bytes.ensures
    ∙ cells _ _ _ _ _ _ _ _ a b d e
