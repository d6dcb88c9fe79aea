use Rattle.std.proofs.Common.{refl}
use Rattle.kv_model.specs.Crc.{shifted_times, crc_step, crc_from}
use Rattle.kv_model.proofs.laws.crc_values.Goals as goal

pub returns : goal.returns
unfolding shifted_times crc_step crc_from
returns c = record {
  digits = refl;
  a = refl;
  b = refl;
  c = refl;
  hashes_of_4_bits = (refl, refl, refl);
  hashes_of_8_bits = (refl, refl, refl);
  hash_of_no_bits = refl;
}
