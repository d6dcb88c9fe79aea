use Rattle.std.specs.Ordering.{nat_cmp}
use Rattle.std.specs.Cmp.Lexicographic.{slice_cmp, nat_list_cmp_total}
use Rattle.std.specs.FinMap.{entries-insert}
use Rattle.kv_model.specs.FlaggedMap.{Stored}
use Rattle.base_core.specs.Units.{up}
use Rattle.kv_model.proofs.MapLemmas.{entries-empty}
use Rattle.kv_model.proofs.size_laws.used_of_two_keys.Goals as goal

pub returns : goal.returns
unfolding up
returns c = record {
  before = simp (entries-insert {X = Stored} nat_list_cmp_total, entries-empty (slice_cmp nat_cmp) Stored);
  after = simp (entries-insert {X = Stored} nat_list_cmp_total, entries-empty (slice_cmp nat_cmp) Stored);
}
