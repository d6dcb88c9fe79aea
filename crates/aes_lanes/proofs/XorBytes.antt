-- The exclusive or of two lists of bytes.
use Rattle.std.proofs.Common.{◌≡◌, ℕ, zero, suc, ◌<◌, ◌≤◌, List, [], ◌∷◌, length, get_or, refl, ap, arith}
use Rattle.std.proofs.lemmas.List.{ext_get_or}
use Rattle.aes_core.specs.Aes.{◌⊕◌, xor_bytes}

pub length-xor_bytes : (xs ys : List ℕ) → length xs ≤ length ys → length (xor_bytes xs ys) ≡ length xs
length-xor_bytes [] ys h = refl
length-xor_bytes (x ∷ xs) [] h = absurd (omega (arith, h))
length-xor_bytes (x ∷ xs) (y ∷ ys) h = ap suc (length-xor_bytes xs ys (omega (arith, h)))

pub get_or-xor_bytes : (xs ys : List ℕ) (k : ℕ) → k < length xs → length xs ≤ length ys → get_or (xor_bytes xs ys) k 0 ≡ get_or xs k 0 ⊕ get_or ys k 0
get_or-xor_bytes [] ys k h le = absurd (omega (arith, h))
get_or-xor_bytes (x ∷ xs) [] k h le = absurd (omega (arith, le))
get_or-xor_bytes (x ∷ xs) (y ∷ ys) zero h le = refl
get_or-xor_bytes (x ∷ xs) (y ∷ ys) (suc k) h le = get_or-xor_bytes xs ys k (omega (arith, h)) (omega (arith, le))

-- a list that has the exclusive or in each place
pub xor_bytes-each : (zs xs ys : List ℕ) → length zs ≡ length xs → length xs ≤ length ys
    → ((k : ℕ) → k < length xs → get_or zs k 0 ≡ get_or xs k 0 ⊕ get_or ys k 0) → zs ≡ xor_bytes xs ys
xor_bytes-each zs xs ys long le each =
    ext_get_or 0 zs (xor_bytes xs ys) (omega (arith, length-xor_bytes xs ys le, long))
    (λ k h. let within : k < length xs = omega (arith, long, h) in
    let e = get_or-xor_bytes xs ys k within le in let d = each k within in cc)
