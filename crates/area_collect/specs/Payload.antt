-- Bytes copied from one place of a device to another.
use Rattle.std.specs.Prelude.{◌≡◌, ◌⊎◌, ℕ, ◌+◌, ◌≤◌, List, ◌++◌, replicate, Some}
use Rattle.std.specs.Option.{ForSome}
use Rattle.flash_core.specs.Images.{put}
use Rattle.flash_core.specs.State.{FlashState}
use Rattle.kv_model.specs.declared.error.KvError.{KvError}
use Rattle.kv_model.specs.declared.error.KvError.TheVariants.{ReadFault, WriteFault}
use Rattle.kv_model.specs.Crc.{crc_from}
use Rattle.record_core.specs.Lookup.{IsSeen}

-- So many bytes go from the source to the target, and so many bytes 0xFF behind them.
pub record Piece : Type 0 where
  pub source : ℕ
  pub target : ℕ
  pub size : ℕ
  pub padding : ℕ

-- Neither range is part of the other.
abbrev pub AreApart : ℕ → ℕ → ℕ → Type 0
AreApart source target n = (source + n ≤ target) ⊎ (target + n ≤ source)

-- These bytes were read at the source, and stand at the target with the padding behind them; their CRC goes on from
-- this start.
pub record HasCopiedBytes (old new : FlashState) (piece : Piece) (start sum : ℕ) : Type 0 where
  pub bytes : List ℕ
  pub seen : IsSeen old piece.source piece.size bytes
  pub sum_is : sum ≡ crc_from start bytes
  pub written : ForSome old.image (λ image. new.image ≡ Some (put image piece.target (bytes ++ replicate piece.padding 255)))

-- a read or a write failed
abbrev pub IsFault : KvError → Type 0
IsFault e = (e ≡ ReadFault) ⊎ (e ≡ WriteFault)
