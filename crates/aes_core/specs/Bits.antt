-- The affine map of the S-box, bit by bit.
use Rattle.std.specs.Prelude.{ℕ, ◌+◌, ◌/◌, ◌%◌, ◌^◌}

abbrev pub bit_of : ℕ → ℕ → ℕ
bit_of byte i = byte / 2 ^ i % 2

-- the sum of five bits and of the constant's, modulo 2
abbrev pub affine_bit : ℕ → ℕ → ℕ
affine_bit byte i =
    (bit_of byte i + bit_of byte ((i + 4) % 8) + bit_of byte ((i + 5) % 8) + bit_of byte ((i + 6) % 8)
    + bit_of byte ((i + 7) % 8) + bit_of 0x63 i) % 2
