-- The chain of CMAC over bytes that come in pieces.
use Rattle.std.proofs.Common.{◌≡◌, ℕ, zero, suc, ◌+◌, ◌-◌, ◌*◌, ◌<◌, ◌≤◌, List, [], ◌++◌, length, take, drop, refl, sym, ap, ap₂, ◌∙◌, arith, add-one, add-zero, add-suc, append_assoc, subst}
use Rattle.std.specs.Prelude.{slice_range}
use Rattle.std.proofs.lemmas.List.{take-append-le, drop-append-le, length-append, length-drop, take_all, drop_all, drop_at, drop-drop}
use Rattle.aes_core.specs.Aes.{xor_bytes, encrypted}
use Rattle.cipher_core.specs.Cmac.{chained, zero_block, blocks_before_last, CmacState, HasFed}

pub chained-more : (key chain bytes : List ℕ) (n : ℕ)
    → chained key chain bytes (n + 1) ≡ encrypted key (xor_bytes (chained key chain bytes n) (slice_range bytes (16 * n) (16 * n + 16)))
unfolding chained
chained-more key chain bytes n = rw (add-one n) refl

-- only the blocks themselves count
block-front : (a b : List ℕ) (n : ℕ) → 16 * n + 16 ≤ length a → slice_range (a ++ b) (16 * n) (16 * n + 16) ≡ slice_range a (16 * n) (16 * n + 16)
block-front a b n h =
    ap (take (16 * n + 16 - 16 * n)) (drop-append-le (16 * n) a b (omega arith))
    ∙ take-append-le (16 * n + 16 - 16 * n) (drop (16 * n) a) b (omega (arith, length-drop (16 * n) a))

pub chained-front : (key chain a b : List ℕ) (n : ℕ) → 16 * n ≤ length a → chained key chain (a ++ b) n ≡ chained key chain a n
unfolding chained
chained-front key chain a b zero h = refl
chained-front key chain a b (suc n) h =
    ap₂ (λ (c m : List ℕ). encrypted key (xor_bytes c m)) (chained-front key chain a b n (omega (arith, h))) (block-front a b n (omega (arith, h)))

block-back : (a b : List ℕ) (m n : ℕ) → length a ≡ 16 * m
    → slice_range (a ++ b) (16 * (m + n)) (16 * (m + n) + 16) ≡ slice_range b (16 * n) (16 * n + 16)
block-back a b m n h =
    let long : 16 * (m + n) + 16 - 16 * (m + n) ≡ 16 * n + 16 - 16 * n = omega arith in
    let place : 16 * (m + n) ≡ 16 * m + 16 * n = omega arith in
    ap₂ (λ (k : ℕ) (xs : List ℕ). take k xs) long
    (ap (λ (i : ℕ). drop i (a ++ b)) place ∙ sym (drop-drop (16 * n) (16 * m) (a ++ b)) ∙ ap (drop (16 * n)) (drop_at a b (16 * m) h))

pub chained-++ : (key chain a b : List ℕ) (m n : ℕ) → length a ≡ 16 * m
    → chained key chain (a ++ b) (m + n) ≡ chained key (chained key chain a m) b n
unfolding chained
chained-++ key chain a b m zero h = ap (chained key chain (a ++ b)) (add-zero m) ∙ chained-front key chain a b m (omega (arith, h))
chained-++ key chain a b m (suc n) h =
    ap (chained key chain (a ++ b)) (add-suc m n)
    ∙ ap₂ (λ (c x : List ℕ). encrypted key (xor_bytes c x)) (chained-++ key chain a b m n h) (block-back a b m n h)

-- the state after n blocks of the message, with the rest held back
record Absorbed (s : CmacState) (message : List ℕ) (n : ℕ) : Type 0 where
  chain : s.chain ≡ chained s.key zero_block message n
  part : s.part ≡ drop (16 * n) message
  within : 16 * n ≤ length message

Absorbed-hold : (s t : CmacState) (message bytes : List ℕ) (n : ℕ) → Absorbed s message n
    → t ≡ record s { part = s.part ++ bytes } → Absorbed t (message ++ bytes) n
Absorbed-hold s t message bytes n h e = subst (λ (u : CmacState). Absorbed u (message ++ bytes) n) (sym e) (record {
  chain = h.chain ∙ sym (chained-front s.key zero_block message bytes n h.within);
  part = ap (λ (xs : List ℕ). xs ++ bytes) h.part ∙ sym (drop-append-le (16 * n) message bytes h.within);
  within = omega (arith, length-append message bytes, h.within);
})

Absorbed-part : (s t : CmacState) (message : List ℕ) (n : ℕ) → Absorbed s message n → length s.part ≡ 16
    → t ≡ record s { chain = encrypted s.key (xor_bytes s.chain s.part); part = [] } → Absorbed t message (n + 1)
Absorbed-part s t message n h long e =
    let rest : length message - 16 * n ≡ 16 = sym (length-drop (16 * n) message) ∙ ap length (sym h.part) ∙ long in
    let width : 16 * n + 16 - 16 * n ≡ 16 = omega arith in
    let all : slice_range message (16 * n) (16 * n + 16) ≡ s.part =
    ap (λ (k : ℕ). take k (drop (16 * n) message)) width
    ∙ take_all 16 (drop (16 * n) message) (omega (arith, length-drop (16 * n) message, rest)) ∙ sym h.part in
    subst (λ (u : CmacState). Absorbed u message (n + 1)) (sym e) (record {
      chain = ap₂ (λ (c m : List ℕ). encrypted s.key (xor_bytes c m)) h.chain (sym all) ∙ sym (chained-more s.key zero_block message n);
      part = sym (drop_all (16 * (n + 1)) message (omega (arith, rest)));
      within = omega (arith, rest, h.within);
    })

Absorbed-blocks : (s t : CmacState) (message bytes : List ℕ) (n k : ℕ) → Absorbed s message n → s.part ≡ [] → length bytes ≡ 16 * k
    → t ≡ record s { chain = chained s.key s.chain bytes k } → Absorbed t (message ++ bytes) (n + k)
Absorbed-blocks s t message bytes n k h none long e =
    let whole : length message ≡ 16 * n = omega (arith, h.within, length-drop (16 * n) message, ap length (sym h.part ∙ none)) in
    subst (λ (u : CmacState). Absorbed u (message ++ bytes) (n + k)) (sym e) (record {
      chain = ap (λ (c : List ℕ). chained s.key c bytes k) h.chain ∙ sym (chained-++ s.key zero_block message bytes n k whole);
      part = none ∙ sym (drop_all (16 * (n + k)) (message ++ bytes) (omega (arith, length-append message bytes, whole, long)));
      within = omega (arith, length-append message bytes, whole, long);
    })

Absorbed-HasFed : (s : CmacState) (message : List ℕ) (n : ℕ) → Absorbed s message n → n ≡ blocks_before_last message → HasFed s message
Absorbed-HasFed s message n h e = record {
  chain = h.chain ∙ ap (chained s.key zero_block message) e;
  part = h.part ∙ ap (λ (m : ℕ). drop (16 * m) message) e;
}

HasFed-Absorbed : (s : CmacState) (message : List ℕ) → HasFed s message → Absorbed s message (blocks_before_last message)
HasFed-Absorbed s message h = record { chain = h.chain; part = h.part; within = omega arith }

-- bytes for which there is room beside those held back
pub HasFed-hold : (s t : CmacState) (message bytes : List ℕ) → HasFed s message → length s.part + length bytes ≤ 16
    → t ≡ record s { part = s.part ++ bytes } → HasFed t (message ++ bytes)
HasFed-hold s t message bytes h room e =
    let held = ap length h.part ∙ length-drop (16 * blocks_before_last message) message in
    Absorbed-HasFed t (message ++ bytes) _ (Absorbed-hold s t message bytes _ (HasFed-Absorbed s message h) e)
    (omega (arith, held, room, length-append message bytes))

-- bytes that fill the block held back, whole blocks, and 1 to 16 bytes more
pub HasFed-over : (s t u v w : CmacState) (message bytes front rest whole part : List ℕ) (k : ℕ) → HasFed s message
    → bytes ≡ front ++ rest → rest ≡ whole ++ part → length s.part + length front ≡ 16 → length whole ≡ 16 * k → 0 < length part → length part ≤ 16
    → t ≡ record s { part = s.part ++ front } → u ≡ record t { chain = encrypted t.key (xor_bytes t.chain t.part); part = [] }
    → v ≡ record u { chain = chained u.key u.chain whole k } → w ≡ record v { part = v.part ++ part } → HasFed w (message ++ bytes)
HasFed-over s t u v w message bytes front rest whole part k h cut cut' fill long some few e f g i =
    let held = ap length h.part ∙ length-drop (16 * blocks_before_last message) message in
    let full : length t.part ≡ 16 = ap (λ (x : CmacState). length x.part) e ∙ length-append s.part front ∙ fill in
    let first = Absorbed-part t u (message ++ front) _ (Absorbed-hold s t message front _ (HasFed-Absorbed s message h) e) full f in
    let second = Absorbed-blocks u v (message ++ front) whole _ k first (ap (λ (x : CmacState). x.part) f) long g in
    let third = Absorbed-hold v w (message ++ front ++ whole) part _ second i in
    let same : message ++ front ++ whole ++ part ≡ message ++ bytes =
    append_assoc (message ++ front) whole part ∙ append_assoc message front (whole ++ part)
    ∙ ap (λ (xs : List ℕ). message ++ xs) (ap (λ (xs : List ℕ). front ++ xs) (sym cut') ∙ sym cut) in
    subst (HasFed w) same (Absorbed-HasFed w (message ++ front ++ whole ++ part) _ third
    (omega (arith, held, fill, long, some, few, length-append (message ++ front ++ whole) part, length-append (message ++ front) whole, length-append message front)))
