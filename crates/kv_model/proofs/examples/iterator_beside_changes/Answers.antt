use Rattle.std.specs.Ordering.{nat_cmp}
use Rattle.std.specs.Cmp.Lexicographic.{slice_cmp, nat_list_cmp_total}
use Rattle.std.specs.FinMap.{entries-insert}
use Rattle.std.proofs.Math.Nat.{mod-one}
use Rattle.kv_model.specs.FlaggedMap.{Stored}
use Rattle.kv_model.proofs.MapLemmas.{entries-empty}
use Rattle.kv_model.proofs.examples.iterator_beside_changes.Goals as goal

pub returns : goal.returns
returns c = record {
  first = simp (mod-one, entries-insert {X = Stored} nat_list_cmp_total, entries-empty (slice_cmp nat_cmp) Stored);
  second = simp (mod-one, entries-insert {X = Stored} nat_list_cmp_total, entries-empty (slice_cmp nat_cmp) Stored);
  third = simp (mod-one, entries-insert {X = Stored} nat_list_cmp_total, entries-empty (slice_cmp nat_cmp) Stored);
  none = simp (mod-one, entries-insert {X = Stored} nat_list_cmp_total, entries-empty (slice_cmp nat_cmp) Stored);
}
