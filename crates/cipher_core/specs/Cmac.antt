-- CMAC, as SP 800-38B defines it, over AES-128 with tags of sixteen bytes.
use Rattle.std.specs.Prelude.{◌≡◌, ℕ, zero, suc, ◌+◌, ◌-◌, ◌*◌, ◌/◌, ◌%◌, ◌^◌, nat_lt, if◌then◌else◌, List, ◌∷◌, ◌++◌, length, drop, replicate, slice_range, bit_xor, ◌==◌}
use Rattle.std.specs.Int.{to_be_bytes, from_be_bytes, w128}
use Rattle.aes_core.specs.Aes.{encrypted, xor_bytes}

-- a number of 128 bits shifted left by one; where the bit shifted out is 1 the last byte is combined with 0x87
unfoldable pub doubled_number : ℕ → ℕ
doubled_number n = if nat_lt n (2 ^ 127) then n * 2 else bit_xor (n * 2 % 2 ^ 128) 0x87

-- the same of a block of sixteen bytes
unfoldable pub doubled : List ℕ → List ℕ
doubled block = to_be_bytes w128 (doubled_number (from_be_bytes w128 block))

-- sixteen zero bytes
abbrev pub zero_block : List ℕ
zero_block = replicate 16 0

-- the subkeys K1 and K2
unfoldable pub first_subkey : List ℕ → List ℕ
first_subkey key = doubled (encrypted key zero_block)

unfoldable pub second_subkey : List ℕ → List ℕ
second_subkey key = doubled (first_subkey key)

-- the chain after the first n blocks of the bytes, from what it was before them
unfoldable pub chained : List ℕ → List ℕ → List ℕ → ℕ → List ℕ
chained key chain bytes zero = chain
chained key chain bytes (suc n) = encrypted key (xor_bytes (chained key chain bytes n) (slice_range bytes (16 * n) (16 * n + 16)))

-- a part of a block, then the bit 1 and zeros
unfoldable pub padded : List ℕ → List ℕ
padded part = part ++ 0x80 ∷ replicate (15 - length part) 0

-- the last block: a whole one is combined with K1, a part is padded and combined with K2
unfoldable pub last_block : List ℕ → List ℕ → List ℕ
last_block key part =
    if length part == 16 then xor_bytes part (first_subkey key)
    else xor_bytes (padded part) (second_subkey key)

-- how many blocks come before the last one, which has 1 to 16 bytes, and none where the message is empty
abbrev pub blocks_before_last : List ℕ → ℕ
blocks_before_last message = (length message - 1) / 16

-- the tag where the chain so far and the bytes of the last block are these
unfoldable pub tag_of : List ℕ → List ℕ → List ℕ → List ℕ
tag_of key chain part = encrypted key (xor_bytes chain (last_block key part))

-- the tag of a message
unfoldable pub cmac : List ℕ → List ℕ → List ℕ
cmac key message =
    tag_of key (chained key zero_block message (blocks_before_last message)) (drop (16 * blocks_before_last message) message)

-- a stream: its key, the chain so far, and the bytes held back, which may be the last block
pub record CmacState : Type 0 where
  pub key : List ℕ
  pub chain : List ℕ
  pub part : List ℕ

-- the stream after a message
pub record HasFed (s : CmacState) (message : List ℕ) : Type 0 where
  pub chain : s.chain ≡ chained s.key zero_block message (blocks_before_last message)
  pub part : s.part ≡ drop (16 * blocks_before_last message) message
