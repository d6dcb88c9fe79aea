-- The inverse of each byte, computed.
use Rattle.std.proofs.Common.{◌≡◌, ℕ, ◌<◌, zero, suc, List, get_or, replicate, refl, sym, ap, ◌∙◌, arith}
use Rattle.std.specs.List.{range_with_len}
use Rattle.std.specs.Prelude.{map}
use Rattle.std.proofs.lemmas.List.{get_or-replicate}
use Rattle.std.proofs.lemmas.List.FromFn.{get_or-map-range_with_len}
use Rattle.aes_core.specs.Aes.{inverse, product_of_squares, product, product_of_bits, times_x}

products : map (λ a. product a (inverse a)) (range_with_len 1 255) ≡ replicate 255 1
unfolding inverse product_of_squares product product_of_bits times_x
products = refl

pub product-inverse : (a : ℕ) → 0 < a → a < 256 → product a (inverse a) ≡ 1
product-inverse zero p h = absurd (omega (arith, p))
product-inverse (suc a) p h =
    sym (get_or-map-range_with_len (λ b. product b (inverse b)) 1 255 a (suc a) 0 (omega arith) (omega arith))
    ∙ ap (λ (xs : List ℕ). get_or xs a 0) products ∙ get_or-replicate 255 a 1 0 (omega arith)
