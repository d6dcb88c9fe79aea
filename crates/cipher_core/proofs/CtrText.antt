-- How the text of a stream is put together from pieces.
use Rattle.std.proofs.Common.{◌≡◌, ℕ, ◌+◌, ◌-◌, ◌*◌, ◌/◌, ◌%◌, ◌^◌, ◌<◌, ◌≤◌, List, [], ◌∷◌, ◌++◌, length, take, drop, refl, sym, ap, ap₂, ◌∙◌, arith}
use Rattle.std.proofs.lemmas.List.{length-drop, take_all}
use Rattle.std.proofs.Math.Nat.{mod-add-mod}
use Rattle.aes_core.specs.Aes.{xor_bytes, encrypted}
use Rattle.cipher_core.specs.Ctr.{counter_block, key_stream_byte, ctr_text, period, CtrState, advanced, text_from}
pub use Rattle.aes_lanes.proofs.CtrText.{length-ctr_text, ctr_text-front, ctr_text-block, ctr_text-++, ctr_text-moved}
use Rattle.aes_lanes.proofs.CtrText.{ctr_text-same, key_stream_byte-again}

pub ctr_text-% : (key : List ℕ) (start place : ℕ) (bytes : List ℕ) → ctr_text key start (place % period) bytes ≡ ctr_text key start place bytes
ctr_text-% key start place bytes =
    ctr_text-same key start start (place % period) place bytes (λ i.
    let q = place / period in
    let split : place + i ≡ place % period + i + 16 * (2 ^ 128 * q) = omega arith in
    sym (ap (key_stream_byte key start) split ∙ key_stream_byte-again key start (place % period + i) q))

-- bytes that the rest of the block in use is enough for
pub ctr_text-rest : (key : List ℕ) (start n used : ℕ) (bytes pad : List ℕ) → (0 < used → pad ≡ encrypted key (counter_block start n))
    → length pad ≡ 16 → used < 16 → length bytes ≤ (16 - used) % 16
    → xor_bytes bytes (take (16 - used) (drop used pad)) ≡ ctr_text key start (16 * n + used) bytes
unfolding ctr_text
ctr_text-rest key start n used [] pad is long below le = refl
ctr_text-rest key start n used (b ∷ bytes) pad is long below le =
    let same = is (omega (arith, le, below)) in
    let all : take (16 - used) (drop used pad) ≡ drop used pad = take_all (16 - used) (drop used pad) (omega (arith, length-drop used pad, long)) in
    ap (xor_bytes (b ∷ bytes)) (all ∙ ap (drop used) same)
    ∙ ctr_text-block key start n used (b ∷ bytes) (ap length (sym same) ∙ long) (omega (arith, le, below))

-- a piece and then the next
pub text_from-++ : (s t : CtrState) (a b : List ℕ) → t ≡ advanced s (length a) → text_from s (a ++ b) ≡ text_from s a ++ text_from t b
text_from-++ s t a b after =
    ctr_text-++ s.key s.start s.place a b
    ∙ ap (λ (xs : List ℕ). text_from s a ++ xs) (sym (ctr_text-% s.key s.start (s.place + length a) b) ∙ ap (λ (u : CtrState). text_from u b) (sym after))

pub text_from-joined : (s t : CtrState) (a b whole a' b' : List ℕ) → whole ≡ a ++ b → a' ≡ text_from s a → t ≡ advanced s (length a) → b' ≡ text_from t b
    → a' ++ b' ≡ text_from s whole
text_from-joined s t a b whole a' b' cut first after second =
    ap₂ (λ (xs ys : List ℕ). xs ++ ys) first second ∙ sym (text_from-++ s t a b after) ∙ ap (text_from s) (sym cut)

pub advanced-+ : (s t u : CtrState) (m n k : ℕ) → t ≡ advanced s m → u ≡ advanced t n → m + n ≡ k → u ≡ advanced s k
advanced-+ s t u m n k first second sum =
    let total : s.place + m + n ≡ s.place + k = omega arith in
    second ∙ ap (λ (x : CtrState). advanced x n) first
    ∙ ap (λ (p : ℕ). record s { place = p }) (mod-add-mod (s.place + m) period n ∙ ap (λ (x : ℕ). x % period) total)
