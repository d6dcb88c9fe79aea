-- The order in which iterators give keys: by their hashes, and then by their bytes, a prefix before what it begins.
use Rattle.std.specs.Prelude.{ℕ, Bool, List}
use Rattle.std.specs.declared.cmp.Ordering.{Ordering}
use Rattle.std.specs.Ordering.{nat_cmp, ordering_then, is_lt}
use Rattle.std.specs.Cmp.Lexicographic.{slice_cmp}
use Rattle.kv_model.specs.Crc.{key_hash}

abbrev pub key_order : ℕ → List ℕ → List ℕ → Ordering
key_order hash_bits a b = ordering_then (nat_cmp (key_hash hash_bits a) (key_hash hash_bits b)) (slice_cmp nat_cmp a b)

abbrev pub is_below : ℕ → List ℕ → List ℕ → Bool
is_below hash_bits a b = is_lt (key_order hash_bits a b)
