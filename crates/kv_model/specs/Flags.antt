-- The bits of flags, and which of them a store takes.
use Rattle.std.specs.Prelude.{ℕ, Bool, ◌||◌, ◌+◌, ◌/◌, ◌%◌, ◌==◌, nat_lt, bit_and}

-- the key can't be set again or removed
abbrev pub is_write_once : ℕ → Bool
is_write_once flags = flags % 2 == 1

-- the value is encrypted
abbrev pub is_confidential : ℕ → Bool
is_confidential flags = (flags / 2) % 2 == 1

-- an old image put back is noticed
abbrev pub is_replay_protected : ℕ → Bool
is_replay_protected flags = (flags / 8) % 2 == 1

-- a secure store keeps the value's tag in its rollback store too
abbrev pub is_mirrored : ℕ → Bool
is_mirrored flags = is_write_once flags || is_replay_protected flags

-- a plain store has write-once alone
abbrev pub is_plain_flags : ℕ → Bool
is_plain_flags flags = nat_lt flags 2

-- a secure store has all three
abbrev pub is_secure_flags : ℕ → Bool
is_secure_flags flags = bit_and flags (1 + 2 + 8) == flags

-- the flags of a record that takes its key away
abbrev pub remove_flags : ℕ
remove_flags = 0x8000_0000
