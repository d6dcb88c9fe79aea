use Rattle.std.proofs.Common.{refl}
use Rattle.kv_model.specs.Crc.{shifted_times, crc_step, crc_from}
use Rattle.base_core.specs.Units.{up}
use Rattle.record_core.specs.Header.{header_front, header_bytes}
use Rattle.record_core.specs.Record.{record_header, record_payload, record_bytes}
use Rattle.record_core.proofs.laws.record_example.Goals as goal

pub returns : goal.returns
unfolding shifted_times crc_step crc_from up header_front header_bytes record_header record_payload record_bytes
returns c = record { front = refl; payload = refl; size = refl }
