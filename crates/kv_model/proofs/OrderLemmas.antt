-- The key order is total, and only equal keys tie in it.
use Rattle.std.proofs.Common.{ℕ, List}
use Rattle.std.specs.Cmp.{IsTotalOrder, nat_cmp_total, on_total}
use Rattle.std.specs.Cmp.Lexicographic.{nat_list_cmp_total}
use Rattle.std.proofs.lemmas.Cmp.{then_total}
use Rattle.kv_model.specs.Crc.{key_hash}
use Rattle.kv_model.specs.KeyOrder.{key_order}

pub key_order_total : (hash_bits : ℕ) → IsTotalOrder (key_order hash_bits)
key_order_total hash_bits = then_total (on_total (λ (key : List ℕ). key_hash hash_bits key) nat_cmp_total) nat_list_cmp_total
