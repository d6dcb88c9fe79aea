-- The transposition, from its three layers.
use Rattle.std.proofs.Common.{◌≡◌, ℕ, zero, suc, ◌+◌, ◌-◌, ◌*◌, ◌/◌, ◌%◌, ◌<◌, ◌≤◌, List, get_or, refl, sym, ap, ap₂, ◌∙◌, arith, inl, inr, subst}
use Rattle.std.specs.Prelude.{map}
use Rattle.std.specs.List.{range_with_len}
use Rattle.std.proofs.lemmas.Bool.{cases_eq}
use Rattle.std.proofs.lemmas.List.FromFn.{get_or-map-range_with_len}
use Rattle.aes_lanes.specs.declared.registers.Registers.{Registers}
use Rattle.aes_lanes.specs.Sliced.{IsBit, register}
use Rattle.aes_lanes.specs.Transposed.{IsExchanged, IsLayer, with_digit}

moved : (q : Registers) (lane place place' n n' bit : ℕ) → place ≡ place' → n ≡ n' → IsBit lane place (register q n) bit → IsBit lane place' (register q n') bit
moved q lane place place' n n' bit e f h =
    subst (λ (k : ℕ). IsBit lane place' (register q k) bit) f (subst (λ (k : ℕ). IsBit lane k (register q n) bit) e h)

-- a register without the digit
to_low : (d n : ℕ) (q : Registers) (new_low new_high : List ℕ) → IsExchanged d (register q n) (register q (n + d)) new_low new_high
    → n / d % 2 ≡ 0 → (lane place bit : ℕ) → lane < 16 → place < 8
    → IsBit lane (with_digit d place n) (register q (with_digit d n place)) bit → IsBit lane place new_low bit
to_low d n q new_low new_high step without lane place bit l p h =
    elim (cases_eq (place / d % 2) 0) [
      | inl e ↦ step.low_stays lane place bit l p e
          (moved q lane _ place _ n bit
          (ap₂ (λ (a b : ℕ). place - a * d + b * d) e without ∙ omega arith)
          (ap₂ (λ (a b : ℕ). n - a * d + b * d) without e ∙ omega arith) h)
      | inr ne ↦
          let e : place / d % 2 ≡ 1 = omega arith in
          step.high_comes lane place bit l p e
          (moved q lane _ (place - d) _ (n + d) bit
          (ap₂ (λ (a b : ℕ). place - a * d + b * d) e without ∙ omega arith)
          (ap₂ (λ (a b : ℕ). n - a * d + b * d) without e ∙ omega arith) h)
    ]

-- a register with it
to_high : (d n : ℕ) (q : Registers) (new_low new_high : List ℕ) → IsExchanged d (register q n) (register q (n + d)) new_low new_high
    → (n + d) / d % 2 ≡ 1 → (lane place bit : ℕ) → (place / d % 2 ≡ 1 → d ≤ place) → lane < 16 → place < 8
    → IsBit lane (with_digit d place (n + d)) (register q (with_digit d (n + d) place)) bit → IsBit lane place new_high bit
to_high d n q new_low new_high step has lane place bit at_least l p h =
    elim (cases_eq (place / d % 2) 0) [
      | inl e ↦ step.low_comes lane place bit l p e
          (moved q lane _ (place + d) _ n bit
          (ap₂ (λ (a b : ℕ). place - a * d + b * d) e has ∙ omega arith)
          (ap₂ (λ (a b : ℕ). n + d - a * d + b * d) has e ∙ omega arith) h)
      | inr ne ↦
          let e : place / d % 2 ≡ 1 = omega arith in
          let enough : d ≤ place = at_least e in
          step.high_stays lane place bit l p e
          (moved q lane _ place _ (n + d) bit
          (ap₂ (λ (a b : ℕ). place - a * d + b * d) e has ∙ omega arith)
          (ap₂ (λ (a b : ℕ). n + d - a * d + b * d) has e ∙ omega arith) h)
    ]

pub IsLayer-bits : (q r : Registers) → IsExchanged 1 q.bit0 q.bit1 r.bit0 r.bit1 → IsExchanged 1 q.bit2 q.bit3 r.bit2 r.bit3
    → IsExchanged 1 q.bit4 q.bit5 r.bit4 r.bit5 → IsExchanged 1 q.bit6 q.bit7 r.bit6 r.bit7 → IsLayer 1 q r
IsLayer-bits q r a b c d lane zero place bit l m p h = to_low 1 0 q r.bit0 r.bit1 a refl lane place bit l p h
IsLayer-bits q r a b c d lane (suc zero) place bit l m p h = to_high 1 0 q r.bit0 r.bit1 a refl lane place bit (λ e. omega (arith, e)) l p h
IsLayer-bits q r a b c d lane (suc (suc zero)) place bit l m p h = to_low 1 2 q r.bit2 r.bit3 b refl lane place bit l p h
IsLayer-bits q r a b c d lane (suc (suc (suc zero))) place bit l m p h = to_high 1 2 q r.bit2 r.bit3 b refl lane place bit (λ e. omega (arith, e)) l p h
IsLayer-bits q r a b c d lane (suc (suc (suc (suc zero)))) place bit l m p h = to_low 1 4 q r.bit4 r.bit5 c refl lane place bit l p h
IsLayer-bits q r a b c d lane (suc (suc (suc (suc (suc zero))))) place bit l m p h = to_high 1 4 q r.bit4 r.bit5 c refl lane place bit (λ e. omega (arith, e)) l p h
IsLayer-bits q r a b c d lane (suc (suc (suc (suc (suc (suc zero)))))) place bit l m p h = to_low 1 6 q r.bit6 r.bit7 d refl lane place bit l p h
IsLayer-bits q r a b c d lane (suc (suc (suc (suc (suc (suc (suc zero))))))) place bit l m p h = to_high 1 6 q r.bit6 r.bit7 d refl lane place bit (λ e. omega (arith, e)) l p h
IsLayer-bits q r a b c d lane (suc (suc (suc (suc (suc (suc (suc (suc n)))))))) place bit l m p h = absurd (omega (arith, m))

pub IsLayer-pairs : (q r : Registers) → IsExchanged 2 q.bit0 q.bit2 r.bit0 r.bit2 → IsExchanged 2 q.bit1 q.bit3 r.bit1 r.bit3
    → IsExchanged 2 q.bit4 q.bit6 r.bit4 r.bit6 → IsExchanged 2 q.bit5 q.bit7 r.bit5 r.bit7 → IsLayer 2 q r
IsLayer-pairs q r a b c d lane zero place bit l m p h = to_low 2 0 q r.bit0 r.bit2 a refl lane place bit l p h
IsLayer-pairs q r a b c d lane (suc zero) place bit l m p h = to_low 2 1 q r.bit1 r.bit3 b refl lane place bit l p h
IsLayer-pairs q r a b c d lane (suc (suc zero)) place bit l m p h = to_high 2 0 q r.bit0 r.bit2 a refl lane place bit (λ e. omega (arith, e)) l p h
IsLayer-pairs q r a b c d lane (suc (suc (suc zero))) place bit l m p h = to_high 2 1 q r.bit1 r.bit3 b refl lane place bit (λ e. omega (arith, e)) l p h
IsLayer-pairs q r a b c d lane (suc (suc (suc (suc zero)))) place bit l m p h = to_low 2 4 q r.bit4 r.bit6 c refl lane place bit l p h
IsLayer-pairs q r a b c d lane (suc (suc (suc (suc (suc zero))))) place bit l m p h = to_low 2 5 q r.bit5 r.bit7 d refl lane place bit l p h
IsLayer-pairs q r a b c d lane (suc (suc (suc (suc (suc (suc zero)))))) place bit l m p h = to_high 2 4 q r.bit4 r.bit6 c refl lane place bit (λ e. omega (arith, e)) l p h
IsLayer-pairs q r a b c d lane (suc (suc (suc (suc (suc (suc (suc zero))))))) place bit l m p h = to_high 2 5 q r.bit5 r.bit7 d refl lane place bit (λ e. omega (arith, e)) l p h
IsLayer-pairs q r a b c d lane (suc (suc (suc (suc (suc (suc (suc (suc n)))))))) place bit l m p h = absurd (omega (arith, m))

pub IsLayer-halves : (q r : Registers) → IsExchanged 4 q.bit0 q.bit4 r.bit0 r.bit4 → IsExchanged 4 q.bit1 q.bit5 r.bit1 r.bit5
    → IsExchanged 4 q.bit2 q.bit6 r.bit2 r.bit6 → IsExchanged 4 q.bit3 q.bit7 r.bit3 r.bit7 → IsLayer 4 q r
IsLayer-halves q r a b c d lane zero place bit l m p h = to_low 4 0 q r.bit0 r.bit4 a refl lane place bit l p h
IsLayer-halves q r a b c d lane (suc zero) place bit l m p h = to_low 4 1 q r.bit1 r.bit5 b refl lane place bit l p h
IsLayer-halves q r a b c d lane (suc (suc zero)) place bit l m p h = to_low 4 2 q r.bit2 r.bit6 c refl lane place bit l p h
IsLayer-halves q r a b c d lane (suc (suc (suc zero))) place bit l m p h = to_low 4 3 q r.bit3 r.bit7 d refl lane place bit l p h
IsLayer-halves q r a b c d lane (suc (suc (suc (suc zero)))) place bit l m p h = to_high 4 0 q r.bit0 r.bit4 a refl lane place bit (λ e. omega (arith, e)) l p h
IsLayer-halves q r a b c d lane (suc (suc (suc (suc (suc zero))))) place bit l m p h = to_high 4 1 q r.bit1 r.bit5 b refl lane place bit (λ e. omega (arith, e)) l p h
IsLayer-halves q r a b c d lane (suc (suc (suc (suc (suc (suc zero)))))) place bit l m p h = to_high 4 2 q r.bit2 r.bit6 c refl lane place bit (λ e. omega (arith, e)) l p h
IsLayer-halves q r a b c d lane (suc (suc (suc (suc (suc (suc (suc zero))))))) place bit l m p h = to_high 4 3 q r.bit3 r.bit7 d refl lane place bit (λ e. omega (arith, e)) l p h
IsLayer-halves q r a b c d lane (suc (suc (suc (suc (suc (suc (suc (suc n)))))))) place bit l m p h = absurd (omega (arith, m))

-- where the three layers take a bit from: the register, and its place
origin : ℕ → ℕ → ℕ
origin i n =
    let i1 = with_digit 1 i n in
    let n1 = with_digit 1 n i in
    with_digit 4 (with_digit 2 i1 n1) (with_digit 2 n1 i1)

origin_computed : map (λ k. origin (k / 8) (k % 8)) (range_with_len 0 64) ≡ map (λ k. k % 8) (range_with_len 0 64)
unfolding origin
origin_computed = refl

origin-is : (i n : ℕ) → i < 8 → n < 8 → origin i n ≡ n
origin-is i n hi hn =
    let k = 8 * i + n in
    let is_i : k / 8 ≡ i = omega arith in
    let is_n : k % 8 ≡ n = omega arith in
    let left = get_or-map-range_with_len (λ m. origin (m / 8) (m % 8)) 0 64 k k 0 (omega arith) (omega arith) in
    let right = get_or-map-range_with_len (λ m. m % 8) 0 64 k k 0 (omega arith) (omega arith) in
    sym (ap₂ origin is_i is_n) ∙ sym left ∙ ap (λ (xs : List ℕ). get_or xs k 0) origin_computed ∙ right ∙ is_n

digit1-small : (i n : ℕ) → i < 8 → n < 8 → with_digit 1 i n < 8
digit1-small i n hi hn = omega (arith, hi, hn)

digit2-small : (i n : ℕ) → i < 8 → n < 8 → with_digit 2 i n < 8
digit2-small i n hi hn = omega (arith, hi, hn)

pub IsLayer-three : (q first second r : Registers) → IsLayer 4 q first → IsLayer 2 first second → IsLayer 1 second r
    → (lane i n bit : ℕ) → lane < 16 → i < 8 → n < 8 → IsBit lane i (register q n) bit → IsBit lane n (register r i) bit
unfolding origin
IsLayer-three q first second r halves pairs bits lane i n bit l hi hn h =
    let i1 = with_digit 1 i n in
    let n1 = with_digit 1 n i in
    let si : i1 < 8 = digit1-small i n hi hn in
    let sn : n1 < 8 = digit1-small n i hn hi in
    bits lane i n bit l hi hn
    (pairs lane i1 n1 bit l si sn
    (halves lane (with_digit 2 i1 n1) (with_digit 2 n1 i1) bit l (digit2-small i1 n1 si sn) (digit2-small n1 i1 sn si)
    (moved q lane i _ n _ bit (sym (origin-is n i hn hi)) (sym (origin-is i n hi hn)) h)))
