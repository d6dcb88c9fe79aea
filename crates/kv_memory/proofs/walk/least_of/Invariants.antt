use Rattle.std.proofs.Common.{◌≡◌, drop, map, filter}
use Rattle.std.specs.Option.{option_copied}
use Rattle.kv_model.specs.NextKey.{least_key, may_give}
use Rattle.kv_memory.specs.Cursors.{position_of}
use Rattle.kv_memory.specs.EntryOf.{key_of}
use Rattle.kv_memory.proofs.walk.least_of.Given as goal

abbrev pub invariant-loop-at : goal.invariant-loop-at
invariant-loop-at l = option_copied l.least ≡ least_key l.hash_bits (filter (may_give l.hash_bits (position_of l.cursor)) (map key_of (drop l.at l.items)))
