use Rattle.std.specs.FinMap.{get-empty, remove}
use Rattle.std.specs.Ordering.{nat_cmp}
use Rattle.std.specs.Cmp.Lexicographic.{slice_cmp}
use Rattle.area_collect.proofs.MapLemmas.{stand_for_map, stand_without}
use Rattle.area_collect.proofs.laws.last_records_stand_for_the_map.Goals as goal

pub returns : goal.returns
returns c = record {
  same_map = λ map records stand. stand_for_map map records stand;
  without = λ map before after r stand not_before not_after. stand_for_map (remove map r.key) _ (stand_without map before r after stand not_before not_after);
  none = record { each = tt; all = λ key some. absurd (some (get-empty (slice_cmp nat_cmp) key)) };
}
