use Rattle.std.specs.Ordering.{nat_cmp}
use Rattle.std.specs.Cmp.Lexicographic.{slice_cmp}
use Rattle.std.specs.FinMap.{get-insert, get-empty, get-remove, len-empty}
use Rattle.kv_model.specs.FlaggedMap.{Stored}
use Rattle.kv_model.specs.StoreState.{Position, iterator_cmp}
use Rattle.kv_model.specs.Keys.{is_prefix}
use Rattle.kv_model.proofs.MapLemmas.{entries-empty, iterator_total}
use Rattle.kv_model.proofs.examples.iterators_by_number.Goals as goal

pub returns : goal.returns
unfolding is_prefix
returns c = simp (
  entries-empty (slice_cmp nat_cmp) Stored,
  get-insert {X = Position} iterator_total,
  get-remove {X = Position} iterator_total,
  get-empty {X = Position} iterator_cmp,
  len-empty iterator_cmp Position,
)
