use Rattle.std.specs.FinMap.{get-insert, get-empty, len-empty, len-insert}
use Rattle.kv_model.specs.StoreState.{Position, iterator_cmp}
use Rattle.kv_model.specs.Keys.{is_prefix}
use Rattle.kv_model.proofs.MapLemmas.{iterator_total}
use Rattle.kv_model.proofs.examples.sixteen_iterators.Goals as goal

pub returns : goal.returns
unfolding is_prefix
returns c = simp (
  get-insert {X = Position} iterator_total,
  len-insert {X = Position} iterator_total,
  get-empty {X = Position} iterator_cmp,
  len-empty iterator_cmp Position,
)
