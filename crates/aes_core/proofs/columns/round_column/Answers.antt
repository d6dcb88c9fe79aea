use Rattle.std.proofs.Common.{ℕ, List, ap, ap₂, ◌∙◌}
use Rattle.std.specs.Int.{to_be_bytes, w32}
use Rattle.aes_core.specs.Aes.{◌⊕◌, mixed_column, xor_bytes}
use Rattle.aes_core.proofs.WordBytes.{to_be_bytes-⊕}
use Rattle.aes_core.proofs.columns.round_column.Goals as goal

pub returns : goal.returns
unfolding mixed_column
returns c =
    let a = rw c.to_be_bytes.ensures at c.from_first_row.ensures in
    let b = rw c.to_be_bytes-2.ensures at c.from_second_row.ensures in
    let d = rw c.to_be_bytes-3.ensures at c.from_third_row.ensures in
    let e = rw c.to_be_bytes-4.ensures at c.from_fourth_row.ensures in
    let e1 = to_be_bytes-⊕ c.from_first_row.result c.from_second_row.result ∙ ap₂ xor_bytes a b in
    let e2 = to_be_bytes-⊕ (c.from_first_row.result ⊕ c.from_second_row.result) c.from_third_row.result ∙ ap₂ xor_bytes e1 d in
    let e3 = to_be_bytes-⊕ (c.from_first_row.result ⊕ c.from_second_row.result ⊕ c.from_third_row.result) c.from_fourth_row.result ∙ ap₂ xor_bytes e2 e in
    to_be_bytes-⊕ _ c.args.key ∙ ap (λ (xs : List ℕ). xor_bytes xs (to_be_bytes w32 c.args.key)) e3
