use Rattle.std.proofs.Common.{◌≡◌, drop}
use Rattle.kv_model.specs.StoreState.{iterator_cmp}
use Rattle.kv_memory.specs.Places.{later, place_of}
use Rattle.kv_memory.specs.SlotOf.{name_of}
use Rattle.kv_memory.proofs.iterators.place_in.Given as goal

abbrev pub invariant-loop-at : goal.invariant-loop-at
invariant-loop-at l = later l.at (place_of iterator_cmp name_of (l.who, l.n) (drop l.at l.slots)) ≡ place_of iterator_cmp name_of (l.who, l.n) l.slots
