-- A counter block is the number whose bytes it has.
use Rattle.std.proofs.Common.{◌≡◌, ℕ, ◌+◌, ◌*◌, ◌/◌, ◌%◌, ◌^◌, ◌<◌, [], ◌∷◌, refl, ap, arith}
use Rattle.std.specs.Int.{from_be_bytes, to_be_bytes, w128}
use Rattle.std.proofs.Math.Nat.{div-div-eq-div-mul}

sixteen_digits : (q0 q1 q2 q3 q4 q5 q6 q7 q8 q9 q10 q11 q12 q13 q14 q15 q16 d0 d1 d2 d3 d4 d5 d6 d7 d8 d9 d10 d11 d12 d13 d14 d15 : ℕ)
    → q0 ≡ 256 * q1 + d0
    → q1 ≡ 256 * q2 + d1
    → q2 ≡ 256 * q3 + d2
    → q3 ≡ 256 * q4 + d3
    → q4 ≡ 256 * q5 + d4
    → q5 ≡ 256 * q6 + d5
    → q6 ≡ 256 * q7 + d6
    → q7 ≡ 256 * q8 + d7
    → q8 ≡ 256 * q9 + d8
    → q9 ≡ 256 * q10 + d9
    → q10 ≡ 256 * q11 + d10
    → q11 ≡ 256 * q12 + d11
    → q12 ≡ 256 * q13 + d12
    → q13 ≡ 256 * q14 + d13
    → q14 ≡ 256 * q15 + d14
    → q15 ≡ 256 * q16 + d15
    → q16 ≡ 0 → from_be_bytes w128 (d15 ∷ d14 ∷ d13 ∷ d12 ∷ d11 ∷ d10 ∷ d9 ∷ d8 ∷ d7 ∷ d6 ∷ d5 ∷ d4 ∷ d3 ∷ d2 ∷ d1 ∷ d0 ∷ []) ≡ q0
sixteen_digits q0 q1 q2 q3 q4 q5 q6 q7 q8 q9 q10 q11 q12 q13 q14 q15 q16 d0 d1 d2 d3 d4 d5 d6 d7 d8 d9 d10 d11 d12 d13 d14 d15 e0 e1 e2 e3 e4 e5 e6 e7 e8 e9 e10 e11 e12 e13 e14 e15 z = omega arith

next_digit : (n p q : ℕ) → p * 256 ≡ q → n / p ≡ 256 * (n / q) + n / p % 256
next_digit n p q e =
    let one : n / p / 256 ≡ n / (p * 256) = div-div-eq-div-mul n p 256 in
    let two = ap (λ (k : ℕ). n / k) e in
    omega (arith, one, two)

pub from_be_bytes-to_be_bytes_16 : (n : ℕ) → n < 2 ^ 128 → from_be_bytes w128 (to_be_bytes w128 n) ≡ n
from_be_bytes-to_be_bytes_16 n fits =
    sixteen_digits n (n / 2 ^ 8) (n / 2 ^ 16) (n / 2 ^ 24) (n / 2 ^ 32) (n / 2 ^ 40) (n / 2 ^ 48) (n / 2 ^ 56) (n / 2 ^ 64) (n / 2 ^ 72) (n / 2 ^ 80) (n / 2 ^ 88) (n / 2 ^ 96) (n / 2 ^ 104) (n / 2 ^ 112) (n / 2 ^ 120) (n / 2 ^ 128) _ _ _ _ _ _ _ _ _ _ _ _ _ _ _ _
    (omega arith) (next_digit n (2 ^ 8) (2 ^ 16) refl) (next_digit n (2 ^ 16) (2 ^ 24) refl) (next_digit n (2 ^ 24) (2 ^ 32) refl) (next_digit n (2 ^ 32) (2 ^ 40) refl) (next_digit n (2 ^ 40) (2 ^ 48) refl) (next_digit n (2 ^ 48) (2 ^ 56) refl) (next_digit n (2 ^ 56) (2 ^ 64) refl) (next_digit n (2 ^ 64) (2 ^ 72) refl) (next_digit n (2 ^ 72) (2 ^ 80) refl) (next_digit n (2 ^ 80) (2 ^ 88) refl) (next_digit n (2 ^ 88) (2 ^ 96) refl) (next_digit n (2 ^ 96) (2 ^ 104) refl) (next_digit n (2 ^ 104) (2 ^ 112) refl) (next_digit n (2 ^ 112) (2 ^ 120) refl) (next_digit n (2 ^ 120) (2 ^ 128) refl) (omega arith)
