-- One round more.
use Rattle.std.proofs.Common.{◌≡◌, ℕ, ◌+◌, ◌*◌, ◌%◌, List, ◌++◌, length, refl, ap, ◌∙◌, add-one, arith}
use Rattle.std.proofs.Math.Nat.{mod-add-mod}
use Rattle.cipher_core.specs.Ctr.{CtrState, advanced, text_from, period}
use Rattle.kv_bench.specs.Passes.{repeated, passed}

pub repeated-one : (bytes : List ℕ) → repeated bytes 1 ≡ bytes
unfolding repeated
repeated-one bytes = refl

pub repeated-more : (bytes : List ℕ) (n : ℕ) → repeated bytes (n + 1) ≡ repeated bytes n ++ bytes
unfolding repeated
repeated-more bytes n = rw (add-one n) refl

pub passed-more : (s : CtrState) (buffer : List ℕ) (n : ℕ) → passed s buffer (n + 1) ≡ text_from (advanced s (n * length buffer)) (passed s buffer n)
unfolding passed
passed-more s buffer n = rw (add-one n) refl

pub advanced-more : (s : CtrState) (n k : ℕ) → advanced (advanced s (n * k)) k ≡ advanced s ((n + 1) * k)
advanced-more s n k =
    let total : s.place + n * k + k ≡ s.place + (n + 1) * k = omega arith in
    ap (λ (p : ℕ). record s { place = p }) (mod-add-mod (s.place + n * k) period k ∙ ap (λ (x : ℕ). x % period) total)
