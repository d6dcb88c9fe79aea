-- Counter mode, as SP 800-38A defines it, over blocks of AES-128.
use Rattle.std.specs.Prelude.{ℕ, ◌+◌, ◌/◌, ◌%◌, ◌^◌, List, [], ◌∷◌, bit_xor, slice_index}
use Rattle.std.specs.Int.{to_be_bytes, w128}
use Rattle.aes_core.specs.Aes.{encrypted}

-- the counter block of block n: a number of 128 bits, its highest byte first, modulo 2 ^ 128
unfoldable pub counter_block : ℕ → ℕ → List ℕ
counter_block start n = to_be_bytes w128 ((start + n) % 2 ^ 128)

-- the byte at a place of the key stream, which is the ciphers of the counter blocks, one after another
unfoldable pub key_stream_byte : List ℕ → ℕ → ℕ → ℕ
key_stream_byte key start place = slice_index (encrypted key (counter_block start (place / 16))) (place % 16)

-- the bytes, of which the first stands at a place of the text, combined with the key stream
unfoldable pub ctr_text : List ℕ → ℕ → ℕ → List ℕ → List ℕ
ctr_text key start place [] = []
ctr_text key start place (b ∷ bytes) = bit_xor b (key_stream_byte key start place) ∷ ctr_text key start (place + 1) bytes
