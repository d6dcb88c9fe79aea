-- Eight blocks, sliced: register i has bit i of each byte. Lane n of a register is for byte n of the blocks, and the
-- bits of a lane are for the eight blocks.
use Rattle.std.specs.Prelude.{◌≡◌, ℕ, ◌<◌, ◌≤◌, List, [], ◌∷◌, length, slice_index, slice_index_or, replicate}
use Rattle.aes_core.specs.Aes.{round_key}
use Rattle.aes_core.specs.Bits.{bit_of}
use Rattle.aes_lanes.specs.declared.registers.Registers.{Registers}

-- the registers, the lowest bit first
abbrev pub registers_of : Registers → List (List ℕ)
registers_of q = q.bit0 ∷ q.bit1 ∷ q.bit2 ∷ q.bit3 ∷ q.bit4 ∷ q.bit5 ∷ q.bit6 ∷ q.bit7 ∷ []

-- register n, and zeros where there is none
abbrev pub register : Registers → ℕ → List ℕ
register q n = slice_index_or (registers_of q) n (replicate 16 0)

-- the bits of a byte, the lowest first
abbrev pub bits_of : ℕ → List ℕ
bits_of byte =
    bit_of byte 0 ∷ bit_of byte 1 ∷ bit_of byte 2 ∷ bit_of byte 3
    ∷ bit_of byte 4 ∷ bit_of byte 5 ∷ bit_of byte 6 ∷ bit_of byte 7 ∷ []

-- a register of sixteen lanes has this bit in a lane at the place of a block
pub record IsBit (lane place : ℕ) (register : List ℕ) (bit : ℕ) : Type 0 where
  pub long : length register ≡ 16
  pub here : bit_of (slice_index register lane) place ≡ bit

-- the members of two lists are related, one by one, and what stands for a member beyond their ends
unfoldable pub Related : {A B : Type 0} → (A → B → Type 0) → A → B → List A → List B → Type 0
Related R a b xs ys = (i : ℕ) → R (slice_index_or xs i a) (slice_index_or ys i b)

-- the registers have this byte in a lane at the place of a block
pub record HasByte (q : Registers) (lane place byte : ℕ) : Type 0 where
  pub small : byte < 256
  pub bits : Related (IsBit lane place) (replicate 16 0) 0 (registers_of q) (bits_of byte)

-- the registers have this block, byte by byte, at a place
pub record HasBlock (q : Registers) (place : ℕ) (block : List ℕ) : Type 0 where
  pub long : length block ≡ 16
  pub bytes : (lane : ℕ) → lane < 16 → HasByte q lane place (slice_index block lane)

-- a register has the bits of a block, byte by byte
pub record HasBits (v block : List ℕ) : Type 0 where
  pub long : length block ≡ 16
  pub small : (lane : ℕ) → lane < 16 → slice_index block lane < 256
  pub here : (lane i : ℕ) → lane < 16 → i < 8 → IsBit lane i v (bit_of (slice_index block lane) i)

-- the registers have this block at all eight places
abbrev pub HasKey : Registers → List ℕ → Type 0
HasKey q block = (place : ℕ) → place < 8 → HasBlock q place block

-- the first keys, up to the last, are the round keys of the key, sliced
abbrev pub AreSlicedKeys : List ℕ → ℕ → List Registers → Type 0
AreSlicedKeys key last keys = (n : ℕ) (d : Registers) → n ≤ last → HasKey (slice_index_or keys n d) (round_key key n)
