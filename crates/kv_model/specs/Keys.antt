-- Which bytes are a key, and which are a prefix of keys.
use Rattle.std.specs.Prelude.{ℕ, Bool, not, ◌&&◌, ◌==◌, nat_lt, nat_le, List, length, codes}
use Rattle.std.specs.List.{list_all, list_any}
use Rattle.std.specs.Str.{bytes_eq}
use Rattle.kv_model.specs.declared.limits.TheConstants.{MAX_KEY}

-- these printing bytes stand in no key
abbrev pub reserved_bytes : List ℕ
reserved_bytes = codes "*/?:;\"|<>\\"

unfoldable pub is_key_byte : ℕ → Bool
is_key_byte b = nat_le 0x21 b && nat_le b 0x7E && not (list_any (λ reserved. reserved == b) reserved_bytes)

-- a prefix may be empty, and may be the key of master records
unfoldable pub is_prefix : List ℕ → Bool
is_prefix bytes = nat_le (length bytes) MAX_KEY && list_all is_key_byte bytes

-- the key of a master record, which no caller may use
abbrev pub master_key : List ℕ
master_key = codes "TDBS"

unfoldable pub is_key : List ℕ → Bool
is_key bytes = nat_lt 0 (length bytes) && is_prefix bytes && not (bytes_eq bytes master_key)
