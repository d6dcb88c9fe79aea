-- What a run fixes of a store.
use Rattle.std.specs.Prelude.{ℕ, List, Option}

-- what a secure store has besides: its root key, and the program unit and the room of its rollback store
pub record Secure : Type 0 where
  pub root : List ℕ
  pub prog : ℕ
  pub room : ℕ

pub record Constants : Type 0 where
  -- how many low bits of a key's CRC are its hash
  pub hash_bits : ℕ
  -- the program unit, and what an area has for records; of a secure store those of its primary store
  pub prog : ℕ
  pub room : ℕ
  -- none in plain mode
  pub secure : Option Secure
