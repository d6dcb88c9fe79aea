use Rattle.std.specs.Ordering.{nat_cmp}
use Rattle.std.specs.Cmp.Lexicographic.{slice_cmp, nat_list_cmp_total}
use Rattle.std.specs.FinMap.{entries-insert, get-insert, get-empty}
use Rattle.kv_model.specs.FlaggedMap.{Stored}
use Rattle.kv_model.specs.Keys.{is_key, is_prefix, is_key_byte}
use Rattle.base_core.specs.Units.{up}
use Rattle.kv_model.proofs.MapLemmas.{entries-empty}
use Rattle.kv_model.proofs.examples.empty_value.Goals as goal

pub returns : goal.returns
unfolding is_key is_prefix is_key_byte up
returns c = simp (
  entries-insert {X = Stored} nat_list_cmp_total,
  entries-empty (slice_cmp nat_cmp) Stored,
  get-insert {X = Stored} nat_list_cmp_total,
  get-empty {X = Stored} (slice_cmp nat_cmp),
)
