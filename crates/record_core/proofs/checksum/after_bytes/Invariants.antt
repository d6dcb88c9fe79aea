use Rattle.std.proofs.Common.{◌≡◌, take}
use Rattle.kv_model.specs.Crc.{crc_from}
use Rattle.record_core.proofs.checksum.after_bytes.Given as goal

abbrev pub invariant-loop-byte : goal.invariant-loop-byte
invariant-loop-byte l = l.crc ≡ crc_from l.fn.start (take l.byte-index l.bytes)
