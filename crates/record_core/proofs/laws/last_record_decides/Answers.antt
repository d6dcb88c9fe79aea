use Rattle.std.proofs.Common.{refl}
use Rattle.kv_model.proofs.WritesLemmas.{map_of-append}
use Rattle.record_core.proofs.LogLemmas.{get-applied_stored, get-applied_removed, get-applied_other}
use Rattle.record_core.proofs.laws.last_record_decides.Goals as goal

pub returns : goal.returns
returns c = record {
  none = refl;
  append = map_of-append;
  stored = get-applied_stored;
  removed = get-applied_removed;
  others = get-applied_other;
}
