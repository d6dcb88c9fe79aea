use Rattle.std.proofs.Common.{◌≡◌, drop, map}
use Rattle.kv_model.specs.Sizes.{used_by}
use Rattle.kv_memory.specs.EntryOf.{pair_of}
use Rattle.kv_memory.proofs.walk.bytes_used.Given as goal

abbrev pub invariant-loop-at : goal.invariant-loop-at
invariant-loop-at l = l.used ≡ used_by l.prog (map pair_of (drop l.at l.items))
