use Rattle.std.proofs.Common.{◌≡◌, ◌*◌, take}
use Rattle.kv_model.specs.Crc.{crc_from}
use Rattle.record_core.proofs.checksum.crc.Given as goal

abbrev pub invariant-loop-slice : goal.invariant-loop-slice
invariant-loop-slice l = l.crc ≡ crc_from l.fn.start (take (l.slice-index * 8) l.bytes)
