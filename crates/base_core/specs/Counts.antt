-- Counts that only rise.
use Rattle.std.specs.Prelude.{◌⊎◌, ℕ, ◌+◌, ◌-◌, ◌<◌, ◌≤◌, ◌^◌, max, min}

-- A count of 64 bits rose, or stands at its last value.
abbrev pub Rose : ℕ → ℕ → Type 0
Rose before now = (before < now) ⊎ (2 ^ 64 ≤ now + 1)

-- such a count after one more: it stands still at its last value
abbrev pub counted : ℕ → ℕ
counted n = min (n + 1) (max n (2 ^ 64 - 1))
