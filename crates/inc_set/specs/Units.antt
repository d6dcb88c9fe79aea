-- A list of bytes as whole program units, and what remains below one.
use Rattle.std.specs.Prelude.{◌≡◌, ℕ, zero, suc, ◌+◌, ◌*◌, ◌/◌, ◌%◌, List, [], ◌∷◌, ◌++◌, length, take, drop}
use Rattle.record_core.specs.Record.{padded}

-- how many of so many bytes are whole units
abbrev pub whole_size : ℕ → ℕ → ℕ
whole_size prog n = n / prog * prog

unfoldable pub whole_units : ℕ → List ℕ → List ℕ
whole_units prog bytes = take (whole_size prog (length bytes)) bytes

unfoldable pub rest_of : ℕ → List ℕ → List ℕ
rest_of prog bytes = drop (whole_size prog (length bytes)) bytes

-- the buffer begins with these bytes
abbrev pub IsHeld : List ℕ → List ℕ → Type 0
IsHeld rest bytes = take (length bytes) rest ≡ bytes

-- what of a key and a value's bytes is programmed: nothing before the first byte, and then every whole unit
abbrev pub programmed : ℕ → List ℕ → List ℕ → List ℕ
programmed prog key [] = []
programmed prog key (byte ∷ bytes) = whole_units prog (key ++ byte ∷ bytes)

-- how much that is, by sizes
abbrev pub programmed_size : ℕ → ℕ → ℕ → ℕ
programmed_size prog key_size zero = 0
programmed_size prog key_size (suc n) = whole_size prog (key_size + suc n)

-- what of a key is programmed before the first byte
abbrev pub key_units : ℕ → List ℕ → ℕ → List ℕ
key_units prog key zero = whole_units prog key
key_units prog key (suc n) = []

-- what is programmed behind it with some bytes, where the buffer has what remains below a unit of the key and n bytes
abbrev pub completed_units : ℕ → List ℕ → ℕ → List ℕ → List ℕ → List ℕ
completed_units prog key n rest bytes = key_units prog key n ++ whole_units prog (take ((length key + n) % prog) rest ++ bytes)

-- what is left of a payload, padded
abbrev pub last_units : ℕ → List ℕ → ℕ → List ℕ → List ℕ
last_units prog key n rest = key_units prog key n ++ padded prog (take ((length key + n) % prog) rest)
