use Rattle.std.proofs.Common.{ℕ, List, ap, ◌∙◌}
use Rattle.std.specs.Int.{to_be_bytes, w32}
use Rattle.aes_core.specs.Aes.{xor_bytes}
use Rattle.aes_core.proofs.WordBytes.{to_be_bytes-⊕, to_be_bytes-from, cells}
use Rattle.aes_core.proofs.columns.last_column.Goals as goal

pub returns : goal.returns
returns c =
    let a = rw c.to_be_bytes.ensures at c.substituted.ensures in
    let b = rw c.to_be_bytes-2.ensures at c.substituted-2.ensures in
    let d = rw c.to_be_bytes-3.ensures at c.substituted-3.ensures in
    let e = rw c.to_be_bytes-4.ensures at c.substituted-4.ensures in
    let whole = to_be_bytes-from _ _ _ _ _ c.substituted.type_inv c.substituted-2.type_inv c.substituted-3.type_inv c.substituted-4.type_inv c.from_be_bytes.ensures in
    to_be_bytes-⊕ _ c.args.key ∙ ap (λ (xs : List ℕ). xor_bytes xs (to_be_bytes w32 c.args.key)) (whole ∙ cells _ _ _ _ _ _ _ _ a b d e)
