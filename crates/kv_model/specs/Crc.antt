-- The reflected CRC of 32 bits, and the hash of a key.
use Rattle.std.specs.Prelude.{ℕ, zero, suc, ◌/◌, ◌%◌, ◌^◌, ◌==◌, if◌then◌else◌, bit_xor, List, [], ◌∷◌}

-- one bit leaves at the low end, and the polynomial comes in where it was 1
abbrev pub shifted : ℕ → ℕ
shifted x = if x % 2 == 1 then bit_xor (x / 2) 0xEDB8_8320 else x / 2

unfoldable pub shifted_times : ℕ → ℕ → ℕ
shifted_times zero x = x
shifted_times (suc n) x = shifted_times n (shifted x)

-- one byte goes into the low eight bits, which then leave
unfoldable pub crc_step : ℕ → ℕ → ℕ
crc_step crc byte = shifted_times 8 (bit_xor crc byte)

unfoldable pub crc_from : ℕ → List ℕ → ℕ
crc_from start [] = start
crc_from start (byte ∷ bytes) = crc_from (crc_step start byte) bytes

-- no bits are inverted at the end, so it is the complement of the usual CRC-32
abbrev pub crc_of : List ℕ → ℕ
crc_of bytes = crc_from 0xFFFF_FFFF bytes

-- the low bits of the key's CRC
abbrev pub key_hash : ℕ → List ℕ → ℕ
key_hash hash_bits key = crc_of key % 2 ^ hash_bits
