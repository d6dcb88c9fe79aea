use Rattle.std.proofs.Common.{◌≡◌, drop}
use Rattle.std.specs.Ordering.{nat_cmp}
use Rattle.std.specs.Cmp.Lexicographic.{slice_cmp}
use Rattle.kv_memory.specs.Places.{later, place_of}
use Rattle.kv_memory.specs.EntryOf.{key_of}
use Rattle.kv_memory.proofs.entries.place_in.Given as goal

abbrev pub invariant-loop-at : goal.invariant-loop-at
invariant-loop-at l = later l.at (place_of (slice_cmp nat_cmp) key_of l.key (drop l.at l.items)) ≡ place_of (slice_cmp nat_cmp) key_of l.key l.items
