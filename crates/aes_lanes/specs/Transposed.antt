-- A transposition in layers: each exchanges one bit of the number of a register with the same bit of a place in it.
use Rattle.std.specs.Prelude.{◌≡◌, ℕ, ◌+◌, ◌-◌, ◌*◌, ◌/◌, ◌%◌, ◌<◌, List}
use Rattle.aes_lanes.specs.declared.registers.Registers.{Registers}
use Rattle.aes_lanes.specs.Sliced.{IsBit, register}

-- two registers before and after: what stands in the first one at places with the digit d, and in the second one at
-- places without it, has changed sides; d is 1, 2 or 4
pub record IsExchanged (d : ℕ) (low high new_low new_high : List ℕ) : Type 0 where
  pub low_stays : (lane place bit : ℕ) → lane < 16 → place < 8 → place / d % 2 ≡ 0 → IsBit lane place low bit → IsBit lane place new_low bit
  pub high_comes : (lane place bit : ℕ) → lane < 16 → place < 8 → place / d % 2 ≡ 1 → IsBit lane (place - d) high bit → IsBit lane place new_low bit
  pub low_comes : (lane place bit : ℕ) → lane < 16 → place < 8 → place / d % 2 ≡ 0 → IsBit lane (place + d) low bit → IsBit lane place new_high bit
  pub high_stays : (lane place bit : ℕ) → lane < 16 → place < 8 → place / d % 2 ≡ 1 → IsBit lane place high bit → IsBit lane place new_high bit

-- n with its digit d as that of m
abbrev pub with_digit : ℕ → ℕ → ℕ → ℕ
with_digit d n m = n - n / d % 2 * d + m / d % 2 * d

-- all registers of one layer
abbrev pub IsLayer : ℕ → Registers → Registers → Type 0
IsLayer d q r = (lane n place bit : ℕ) → lane < 16 → n < 8 → place < 8
    → IsBit lane (with_digit d place n) (register q (with_digit d n place)) bit → IsBit lane place (register r n) bit
