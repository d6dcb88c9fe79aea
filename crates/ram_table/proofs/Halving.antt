-- How often a range is halved, and what the halves keep of the order.
use Rattle.std.proofs.Common.{◌≡◌, ◌⊎◌, ℕ, ◌+◌, ◌*◌, ◌/◌, ◌<◌, ◌≤◌, ◌^◌, List, length, inl, inr, ⊎_elim, refl, sym, ◌∙◌, ap, subst, add-one, arith}
use Rattle.std.proofs.lemmas.Bool.{cases_lt}
use Rattle.std.proofs.Math.Nat.{pow-le-pow_right, mul-le-mul_right, pow-suc, mul_assoc, mul_comm}
use Rattle.ram_table.specs.declared.table.Entry.{Entry}
use Rattle.ram_table.specs.Table.{entry_at}
use Rattle.ram_table.specs.Find.{AscendByHash}

-- After some steps a range that had all is this wide.
pub record IsHalved (start now width all : ℕ) : Type 0 where
  pub used : ℕ
  pub now_is : now ≡ start + used
  pub wide : width * 2 ^ used ≤ all
  pub last : (used ≡ 0) ⊎ (2 ^ used ≤ 2 * all)

pub halved_none : (start all : ℕ) → IsHalved start start all all
halved_none start all = record { used = 0; now_is = omega arith; wide = omega arith; last = inl refl }

doubled : (used : ℕ) → 2 ^ (used + 1) ≡ 2 * 2 ^ used
doubled used = ap (λ n. 2 ^ n) (add-one used) ∙ pow-suc 2 used ∙ mul_comm (2 ^ used) 2

pub halved_more : (start now width all half : ℕ) → IsHalved start now width all → 1 ≤ width → half ≤ width / 2 → IsHalved start (now + 1) half all
halved_more start now width all half halved some le =
    let twice : 2 * half ≤ width = omega arith in
    let wider : (2 * half) * 2 ^ halved.used ≤ width * 2 ^ halved.used = mul-le-mul_right (2 ^ halved.used) twice in
    let one : 1 * 2 ^ halved.used ≤ width * 2 ^ halved.used = mul-le-mul_right (2 ^ halved.used) some in
    let next : half * 2 ^ (halved.used + 1) ≡ (2 * half) * 2 ^ halved.used =
    ap (λ n. half * n) (doubled halved.used) ∙ sym (mul_assoc half 2 (2 ^ halved.used)) ∙ ap (λ n. n * 2 ^ halved.used) (mul_comm half 2) in
    record {
      used = halved.used + 1;
      now_is = omega (arith, halved.now_is);
      wide = omega (arith, next, wider, halved.wide);
      last = inr (omega (arith, doubled halved.used, one, halved.wide));
    }

pub halved_all : (start now width all digits : ℕ) → IsHalved start now width all → all < 2 ^ digits → now ≤ start + digits
halved_all start now width all digits halved fits =
    ⊎_elim (λ none. omega (arith, halved.now_is, none))
    (λ last. ⊎_elim (λ more. absurd (omega (arith, doubled digits, last, fits, pow-le-pow_right {n = 2} (omega arith) {i = digits + 1} {j = halved.used} (omega (arith, more)))))
    (λ le. omega (arith, halved.now_is, le)) (cases_lt digits halved.used))
    halved.last

-- The first place whose hash is not smaller lies from low to high.
pub record IsBetween (hash low high : ℕ) (entries : List Entry) : Type 0 where
  pub ordered : low ≤ high
  pub inside : high ≤ length entries
  pub below : AscendByHash entries → (i : ℕ) → i < low → (entry_at entries i).hash < hash
  pub above : AscendByHash entries → (i : ℕ) → high ≤ i → i < length entries → hash ≤ (entry_at entries i).hash

up_to : (entries : List Entry) → AscendByHash entries → (i j : ℕ) → i ≤ j → j < length entries → (entry_at entries i).hash ≤ (entry_at entries j).hash
up_to entries ascend i j le inside =
    ⊎_elim (λ less. ascend i j less inside)
    (λ more. let same : i ≡ j = omega arith in subst (λ (n : ℕ). (entry_at entries i).hash ≤ (entry_at entries n).hash) same (omega arith))
    (cases_lt i j)

pub upper_half : {hash low high : ℕ} {entries : List Entry} (middle : ℕ) → IsBetween hash low high entries → middle < high → (entry_at entries middle).hash < hash → IsBetween hash (middle + 1) high entries
upper_half {hash = hash} {high = high} {entries = entries} middle between inside less = record {
  ordered = omega arith;
  inside = between.inside;
  below = λ ascend i lt. omega (arith, up_to entries ascend i middle (omega arith) (omega (arith, between.inside)));
  above = between.above;
}

pub lower_half : {hash low high : ℕ} {entries : List Entry} (middle : ℕ) → IsBetween hash low high entries → low ≤ middle → middle < high → hash ≤ (entry_at entries middle).hash → IsBetween hash low middle entries
lower_half {hash = hash} {entries = entries} middle between from inside least = record {
  ordered = from;
  inside = omega (arith, between.inside);
  below = between.below;
  above = λ ascend i le within. omega (arith, up_to entries ascend middle i le within);
}
