use Rattle.std.specs.Ordering.{nat_cmp}
use Rattle.std.specs.Cmp.Lexicographic.{slice_cmp, nat_list_cmp_total}
use Rattle.std.specs.FinMap.{entries-insert}
use Rattle.kv_model.specs.Crc.{shifted_times, crc_step, crc_from}
use Rattle.kv_model.specs.FlaggedMap.{Stored}
use Rattle.kv_model.proofs.MapLemmas.{entries-empty}
use Rattle.kv_model.proofs.next_examples.prefix_limits_keys.Goals as goal

pub returns : goal.returns
unfolding shifted_times crc_step crc_from
returns c = record {
  within = simp (entries-insert {X = Stored} nat_list_cmp_total, entries-empty (slice_cmp nat_cmp) Stored);
  none = simp (entries-insert {X = Stored} nat_list_cmp_total, entries-empty (slice_cmp nat_cmp) Stored);
}
