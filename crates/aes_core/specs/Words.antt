-- The four columns of a state or a round key, as the code keeps them, and the bytes that they stand for.
use Rattle.std.specs.Prelude.{◌≡◌, ℕ, ◌≤◌, List, ◌++◌, slice_index, slice_index_or}
use Rattle.std.specs.Int.{to_be_bytes, w32}
use Rattle.aes_core.specs.Aes.{round_key}
use Rattle.aes_core.specs.declared.columns.Columns.{Columns}

-- each column with its row 0 as the highest byte
abbrev pub bytes_of : Columns → List ℕ
bytes_of s = to_be_bytes w32 s.first ++ (to_be_bytes w32 s.second ++ (to_be_bytes w32 s.third ++ to_be_bytes w32 s.fourth))

-- the byte in a row of a column
abbrev pub row_of : ℕ → ℕ → ℕ
row_of column row = slice_index (to_be_bytes w32 column) row

-- the key that round keys began with
abbrev pub first_key : List Columns → List ℕ
first_key keys = bytes_of (slice_index_or keys 0 (record { first = 0; second = 0; third = 0; fourth = 0 }))

-- the first keys, up to the last, are the round keys of the key
abbrev pub AreRoundKeys : List ℕ → ℕ → List Columns → Type 0
AreRoundKeys key last keys = (n : ℕ) (d : Columns) → n ≤ last → bytes_of (slice_index_or keys n d) ≡ round_key key n
