-- Whole units.
use Rattle.std.specs.Prelude.{◌≡◌, ℕ, ◌+◌, ◌-◌, ◌*◌, ◌/◌, ◌%◌}

-- n is a whole number of units
abbrev pub IsMultipleOf : ℕ → ℕ → Type 0
IsMultipleOf unit n = n % unit ≡ 0

-- the least multiple of the unit that is not less than x (`padding_is_least`)
unfoldable pub up : ℕ → ℕ → ℕ
up unit x = (x + (unit - 1)) / unit * unit
