-- What a torn program or erase leaves of its range.
use Rattle.std.specs.Prelude.{ℕ, zero, suc, ◌+◌, ◌*◌, ◌/◌, ◌%◌, ◌^◌, List, [], ◌∷◌, ◌++◌, length, take, drop, replicate}
use Rattle.kv_model.specs.declared.pattern.Pattern.{Pattern}
use Rattle.kv_model.specs.declared.pattern.Pattern.TheVariants as pattern

-- the generator's next number of 32 bits
abbrev pub next_number : ℕ → ℕ
next_number y = (y * 1664525 + 1013904223) % 2 ^ 32

-- its number i, where number 0 is the seed
unfoldable pub number_at : ℕ → ℕ → ℕ
number_at y zero = y
number_at y (suc i) = number_at (next_number y) i

-- n bytes, byte i from 0 the high byte of number i + 1
unfoldable pub mixed : ℕ → ℕ → List ℕ
mixed y zero = []
mixed y (suc n) = (next_number y / 2 ^ 24) ∷ mixed (next_number y) n

-- what a torn call leaves of a range with these bytes before, and these as a whole call would leave it
abbrev pub torn_bytes : Pattern → List ℕ → List ℕ → List ℕ
torn_bytes pattern.None before after = before
torn_bytes pattern.Half before after = take (length after / 2) after ++ drop (length after / 2) before
torn_bytes pattern.Zero before after = replicate (length before) 0
torn_bytes pattern.All before after = after
torn_bytes (pattern.Mix seed) before after = mixed seed (length before)

-- a pattern as a label spells it: no two alike, and none empty
abbrev pub spelling : Pattern → List ℕ
spelling pattern.None = 0 ∷ []
spelling pattern.Half = 1 ∷ []
spelling pattern.Zero = 2 ∷ []
spelling pattern.All = 3 ∷ []
spelling (pattern.Mix seed) = 4 ∷ (seed ∷ [])
