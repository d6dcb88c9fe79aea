-- The key order by hashes, and among equal hashes by bytes.
use Rattle.std.proofs.Common.{◌≡◌, ℕ, ◌<◌, ◌≤◌, List, refl, sym, ◌∙◌, ap, arith}
use Rattle.std.specs.Prelude.{Bool, IsTrue, true, false}
use Rattle.std.specs.declared.cmp.Ordering.{Ordering}
use Rattle.std.specs.declared.cmp.Ordering.TheVariants.{Less, Equal, Greater}
use Rattle.std.specs.Ordering.{MatchOrdering, is_lt, nat_cmp, ordering_reverse, ordering_then}
use Rattle.std.specs.Cmp.{nat_cmp_is, ranks, tied_itself}
use Rattle.std.specs.Cmp.Lexicographic.{nat_list_cmp_total, slice_cmp}
use mathlib.Core.Bool.{false≢true}
use Rattle.kv_model.specs.Crc.{key_hash}
use Rattle.kv_model.specs.KeyOrder.{is_below, key_order}
use Rattle.kv_model.proofs.OrderLemmas.{key_order_total}

less : (r : Ordering) → IsTrue (is_lt r) → r ≡ Less
less Less is = refl
less Equal is = absurd (false≢true is)
less Greater is = absurd (false≢true is)

pub is_below-trans : (bits : ℕ) (a b c : List ℕ) → IsTrue (is_below bits a b) → IsTrue (is_below bits b c) → IsTrue (is_below bits a c)
is_below-trans bits a b c first second =
    ap is_lt ((key_order_total bits).trans a b c (less (key_order bits a b) first) (less (key_order bits b c) second))

pub not_below_itself : (bits : ℕ) (a : List ℕ) → IsTrue (is_below bits a a) → ⊥
not_below_itself bits a below = false≢true (ap is_lt (sym (tied_itself (key_order_total bits) a)) ∙ below)

least_first : (r o : Ordering) (x y : ℕ) → MatchOrdering r (x < y) (x ≡ y) (y < x) → IsTrue (is_lt (ordering_then r o)) → x ≤ y
least_first Less o x y lt is = omega arith
least_first Equal o x y same is = omega arith
least_first Greater o x y gt is = absurd (false≢true is)

-- what is below has no greater hash
pub hash_of_below : (bits : ℕ) (a b : List ℕ) → IsTrue (is_below bits a b) → key_hash bits a ≤ key_hash bits b
hash_of_below bits a b below =
    least_first (nat_cmp (key_hash bits a) (key_hash bits b)) (slice_cmp nat_cmp a b) (key_hash bits a) (key_hash bits b) (ranks (key_hash bits a) (key_hash bits b)) below

pub below_by_hash : (bits : ℕ) (a b : List ℕ) → key_hash bits a < key_hash bits b → IsTrue (is_below bits a b)
below_by_hash bits a b lt =
    ap (λ (r : Ordering). is_lt (ordering_then r (slice_cmp nat_cmp a b))) (sym (nat_cmp_is (key_hash bits a) (key_hash bits b) Less lt))

pub below_by_bytes : (bits : ℕ) (a b : List ℕ) → key_hash bits a ≡ key_hash bits b → slice_cmp nat_cmp a b ≡ Less → IsTrue (is_below bits a b)
below_by_bytes bits a b same lt =
    ap (λ (r : Ordering). is_lt (ordering_then r (slice_cmp nat_cmp a b))) (sym (nat_cmp_is (key_hash bits a) (key_hash bits b) Equal same)) ∙ ap is_lt lt

pub less_from_greater : (a b : List ℕ) → slice_cmp nat_cmp a b ≡ Greater → slice_cmp nat_cmp b a ≡ Less
less_from_greater a b gt = nat_list_cmp_total.antisymm b a ∙ ap ordering_reverse gt

by_test : (bits : ℕ) (a b : List ℕ) (test : Bool) → is_below bits b a ≡ test → IsTrue (is_below bits a b) → test ≡ false
by_test bits a b true is below = absurd (not_below_itself bits a (is_below-trans bits a b a below is))
by_test bits a b false is below = refl

pub not_above : (bits : ℕ) (a b : List ℕ) → IsTrue (is_below bits a b) → is_below bits b a ≡ false
not_above bits a b below = by_test bits a b (is_below bits b a) refl below

pub not_above_itself : (bits : ℕ) (a : List ℕ) → is_below bits a a ≡ false
not_above_itself bits a = ap is_lt (tied_itself (key_order_total bits) a)
