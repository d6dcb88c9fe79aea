use Rattle.std.proofs.Common.{List, ℕ, ◌∷◌, ◌++◌, replicate, ap, ap₂, ◌∙◌}
use Rattle.aes_lanes.specs.Circuit.{lanes, outputs_of}
use Rattle.aes_lanes.specs.SBox.{norm, inverse, products, substitutes}
use Rattle.aes_lanes.proofs.Bytes.{HasBlock-substituted}
use Rattle.aes_lanes.proofs.s_box.substituted.Goals as goal

pub returns : goal.returns
returns c place block =
    let turned = c.inverse_of.ensures ∙ ap (outputs_of lanes inverse) (c.norm_of.ensures ∙ ap (outputs_of lanes norm) c.sums_of-sums.ensures) in
    HasBlock-substituted c.args.q _ place block
    (c.substitutes_of.ensures ∙ ap (λ (xs : List (List ℕ)). outputs_of lanes substitutes (replicate 16 255 ∷ xs))
    (c.products_of.ensures ∙ ap₂ (λ (i s : List (List ℕ)). outputs_of lanes products (i ++ s)) turned c.sums_of-sums.ensures))
