use Rattle.std.proofs.Common.{◌≡◌, ℕ, ◌+◌, ◌*◌, ◌/◌, ◌%◌, List, get_or, refl, sym, ap, ap₂, ◌∙◌, arith}
use Rattle.std.specs.List.{range_with_len}
use Rattle.std.specs.Prelude.{map}
use Rattle.std.proofs.lemmas.List.FromFn.{get_or-map-range_with_len}
use Rattle.aes_core.specs.Aes.{affine, rotated_left}
use Rattle.aes_core.specs.Bits.{bit_of, affine_bit}
use Rattle.aes_core.proofs.laws.affine_map_of_each_bit.Goals as goal

-- bit i of byte b, at place 8 * b + i
computed : map (λ n. bit_of (affine (n / 8)) (n % 8)) (range_with_len 0 2048) ≡ map (λ n. affine_bit (n / 8) (n % 8)) (range_with_len 0 2048)
unfolding affine rotated_left
computed = refl

pub returns : goal.returns
returns c byte i b h =
    let place = 8 * byte + i in
    let byte_is : place / 8 ≡ byte = omega arith in
    let bit_is : place % 8 ≡ i = omega arith in
    let left = get_or-map-range_with_len (λ n. bit_of (affine (n / 8)) (n % 8)) 0 2048 place place 0 (omega arith) (omega arith) in
    let right = get_or-map-range_with_len (λ n. affine_bit (n / 8) (n % 8)) 0 2048 place place 0 (omega arith) (omega arith) in
    ap₂ (λ (m k : ℕ). bit_of (affine m) k) (sym byte_is) (sym bit_is)
    ∙ sym left ∙ ap (λ (xs : List ℕ). get_or xs place 0) computed ∙ right
    ∙ ap₂ affine_bit byte_is bit_is
