-- Streams in counter mode.
use Rattle.std.specs.Prelude.{ℕ, ◌+◌, ◌*◌, ◌%◌, ◌^◌, List}
unfoldable pub use Rattle.aes_lanes.specs.Ctr.{counter_block, key_stream_byte, ctr_text}

-- a stream: its key, the number of its first counter block, and the place of its next byte
pub record CtrState : Type 0 where
  pub key : List ℕ
  pub start : ℕ
  pub place : ℕ

-- after so many places the key stream begins again
abbrev pub period : ℕ
period = 16 * 2 ^ 128

-- the stream after n bytes more
abbrev pub advanced : CtrState → ℕ → CtrState
advanced s n = record s { place = (s.place + n) % period }

-- the text of the next bytes
abbrev pub text_from : CtrState → List ℕ → List ℕ
text_from s bytes = ctr_text s.key s.start s.place bytes
