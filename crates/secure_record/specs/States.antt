-- What contracts see of the streams.
use Rattle.std.specs.Prelude.{ℕ, List}
use Rattle.secure_record.specs.declared.metadata.Metadata.{Metadata}
use Rattle.secure_record.specs.declared.body.BodyStream.{BodyStream}

-- a record in the making: its metadata as bytes, and the rest so far
pub record SealState : Type 0 where
  pub head : List ℕ
  pub body : BodyStream

-- a record in the reading: its metadata, and the rest so far
pub record OpenState : Type 0 where
  pub metadata : Metadata
  pub body : BodyStream
