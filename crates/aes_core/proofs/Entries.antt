-- Each entry of the tables is what the definition says, computed for all 256 bytes.
use Rattle.std.proofs.Common.{◌≡◌, ℕ, ◌<◌, List, [], ◌∷◌, length, get_or, refl, sym, ap, ◌∙◌, arith}
use Rattle.std.specs.List.{range_with_len}
use Rattle.std.specs.Prelude.{map}
use Rattle.std.specs.Int.{to_be_bytes, w32}
use Rattle.std.proofs.lemmas.List.{get_or-map}
use Rattle.std.proofs.lemmas.List.FromFn.{get_or-map-range_with_len}
use Rattle.aes_core.specs.Aes.{s_box, affine, inverse, product_of_squares, product, product_of_bits, times_x, rotated_left}
use Rattle.aes_core.specs.declared.tables.TheConstants.{S_BOX, FIRST_ROW, SECOND_ROW, THIRD_ROW, FOURTH_ROW}

S_BOX-is : S_BOX ≡ map s_box (range_with_len 0 256)
unfolding s_box affine inverse product_of_squares product product_of_bits times_x rotated_left
S_BOX-is = refl

-- the columns that the entries stand for, from the substituted byte and its products
abbrev pub first : ℕ → List ℕ
first s = product 2 s ∷ s ∷ s ∷ product 3 s ∷ []

abbrev pub second : ℕ → List ℕ
second s = product 3 s ∷ product 2 s ∷ s ∷ s ∷ []

abbrev pub third : ℕ → List ℕ
third s = s ∷ product 3 s ∷ product 2 s ∷ s ∷ []

abbrev pub fourth : ℕ → List ℕ
fourth s = s ∷ s ∷ product 3 s ∷ product 2 s ∷ []

FIRST_ROW-is : map (to_be_bytes w32) FIRST_ROW ≡ map (λ a. first (s_box a)) (range_with_len 0 256)
unfolding s_box affine inverse product_of_squares product product_of_bits times_x rotated_left
FIRST_ROW-is = refl

SECOND_ROW-is : map (to_be_bytes w32) SECOND_ROW ≡ map (λ a. second (s_box a)) (range_with_len 0 256)
unfolding s_box affine inverse product_of_squares product product_of_bits times_x rotated_left
SECOND_ROW-is = refl

THIRD_ROW-is : map (to_be_bytes w32) THIRD_ROW ≡ map (λ a. third (s_box a)) (range_with_len 0 256)
unfolding s_box affine inverse product_of_squares product product_of_bits times_x rotated_left
THIRD_ROW-is = refl

FOURTH_ROW-is : map (to_be_bytes w32) FOURTH_ROW ≡ map (λ a. fourth (s_box a)) (range_with_len 0 256)
unfolding s_box affine inverse product_of_squares product product_of_bits times_x rotated_left
FOURTH_ROW-is = refl

pub get_or-S_BOX : (a : ℕ) → a < 256 → get_or S_BOX a 0 ≡ s_box a
get_or-S_BOX a h = ap (λ (xs : List ℕ). get_or xs a 0) S_BOX-is ∙ get_or-map-range_with_len s_box 0 256 a a 0 h (omega arith)

entry : (table : List ℕ) (f : ℕ → List ℕ) → length table ≡ 256 → map (to_be_bytes w32) table ≡ map f (range_with_len 0 256)
    → (a : ℕ) → a < 256 → to_be_bytes w32 (get_or table a 0) ≡ f a
entry table f long e a h =
    sym (get_or-map (to_be_bytes w32) table a 0 [] (omega arith))
    ∙ ap (λ (xs : List (List ℕ)). get_or xs a []) e
    ∙ get_or-map-range_with_len f 0 256 a a [] h (omega arith)

pub get_or-FIRST_ROW : (a : ℕ) → a < 256 → to_be_bytes w32 (get_or FIRST_ROW a 0) ≡ first (s_box a)
get_or-FIRST_ROW = entry FIRST_ROW (λ a. first (s_box a)) refl FIRST_ROW-is

pub get_or-SECOND_ROW : (a : ℕ) → a < 256 → to_be_bytes w32 (get_or SECOND_ROW a 0) ≡ second (s_box a)
get_or-SECOND_ROW = entry SECOND_ROW (λ a. second (s_box a)) refl SECOND_ROW-is

pub get_or-THIRD_ROW : (a : ℕ) → a < 256 → to_be_bytes w32 (get_or THIRD_ROW a 0) ≡ third (s_box a)
get_or-THIRD_ROW = entry THIRD_ROW (λ a. third (s_box a)) refl THIRD_ROW-is

pub get_or-FOURTH_ROW : (a : ℕ) → a < 256 → to_be_bytes w32 (get_or FOURTH_ROW a 0) ≡ fourth (s_box a)
get_or-FOURTH_ROW = entry FOURTH_ROW (λ a. fourth (s_box a)) refl FOURTH_ROW-is

-- for `using`
pub ruleset entries = (get_or-S_BOX, get_or-FIRST_ROW, get_or-SECOND_ROW, get_or-THIRD_ROW, get_or-FOURTH_ROW)
