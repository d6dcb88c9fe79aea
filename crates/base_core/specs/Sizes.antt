-- How many bytes a record takes. prog is the device's program unit in bytes.
use Rattle.std.specs.Prelude.{ℕ, ◌+◌}
use Rattle.base_core.specs.Units.{up}

-- a padded header of 24 bytes, and behind it the key and the value, padded
abbrev pub record_size : ℕ → ℕ → ℕ → ℕ
record_size prog key_size value_size = up prog 24 + up prog (key_size + value_size)

-- a master record has a key of four bytes and a value of eight
abbrev pub master_size : ℕ → ℕ
master_size prog = record_size prog 4 8
