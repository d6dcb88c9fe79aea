-- Blocks of a text, combined in place.
use Rattle.std.proofs.Common.{◌≡◌, ℕ, ◌+◌, ◌*◌, ◌≤◌, List, [], ◌∷◌, ◌++◌, length, take, drop, refl, ap, ap₂, ◌∙◌, arith, append-nil}
use borrow.Rule.Slice.PartMut.{put_mid}
use Rattle.std.proofs.lemmas.List.{length-take, length-drop, take_all, drop_all}
use Rattle.aes_core.specs.Aes.{xor_bytes, encrypted}
use Rattle.aes_lanes.specs.Ctr.{counter_block, ctr_text}
use Rattle.aes_lanes.specs.Sliced.{HasBits}
use Rattle.aes_lanes.proofs.CtrText.{ctr_text-put_mid, ctr_text-one}

-- block n, which stands at a
pub block_put : (key : List ℕ) (start n a : ℕ) (whole bytes block pad : List ℕ) → a ≡ 16 * n → a + 16 ≤ length whole
    → bytes ≡ ctr_text key start 0 (take a whole) ++ drop a whole → block ≡ xor_bytes (take 16 (drop a bytes)) pad
    → ((b : List ℕ) → HasBits pad b → pad ≡ b) → HasBits pad (encrypted key (counter_block start n))
    → put_mid a 16 bytes block ≡ ctr_text key start 0 (take (a + 16) whole) ++ drop (a + 16) whole
block_put key start n a whole bytes block pad at within so_far text known has =
    let is = known (encrypted key (counter_block start n)) has in
    let size : length (take 16 (drop a whole)) ≡ 16 = length-take 16 (drop a whole) ∙ omega (arith, length-drop a whole, within) in
    ctr_text-put_mid key start 0 a 16 16 whole bytes block refl within so_far (λ same.
    text ∙ ap (λ (xs : List ℕ). xor_bytes xs pad) same
    ∙ ctr_text-one key start n (0 + a) (take 16 (drop a whole)) pad is (omega (arith, at)) (ap length is ∙ has.long) size)

-- all of it
pub whole_text : (key : List ℕ) (start n : ℕ) (whole : List ℕ) → length whole ≤ n
    → ctr_text key start 0 (take n whole) ++ drop n whole ≡ ctr_text key start 0 whole
whole_text key start n whole h =
    ap₂ (λ (xs ys : List ℕ). ctr_text key start 0 xs ++ ys) (take_all n whole h) (drop_all n whole h) ∙ append-nil (ctr_text key start 0 whole)

pub no_text : (key : List ℕ) (start : ℕ) (bytes : List ℕ) → length bytes ≡ 0 → bytes ≡ ctr_text key start 0 bytes
unfolding ctr_text
no_text key start [] h = refl
no_text key start (b ∷ bytes) h = absurd (omega (arith, h))
