-- How the text of counter mode is put together from pieces.
use Rattle.std.proofs.Common.{◌≡◌, ℕ, suc, ◌+◌, ◌*◌, ◌/◌, ◌%◌, ◌^◌, ◌<◌, ◌≤◌, List, [], ◌∷◌, ◌++◌, length, get_or, take, drop, refl, sym, ap, ap₂, ◌∙◌, arith, drop-cons, add_assoc, append_assoc, add-zero}
use borrow.Rule.Slice.PartMut.{put_mid}
use Rattle.std.proofs.lemmas.List.{length-take, take_at, drop_at, drop-drop}
use Rattle.std.proofs.Math.Seq.{take-add}
use Rattle.std.specs.Int.{to_be_bytes, w128}
use Rattle.std.proofs.Math.Nat.{add-mod-mod, mod-add-mod, add-mul-mod_self_left}
use Rattle.aes_core.specs.Aes.{◌⊕◌, xor_bytes, encrypted}
use Rattle.aes_lanes.specs.Ctr.{counter_block, key_stream_byte, ctr_text}

pub length-ctr_text : (key : List ℕ) (start place : ℕ) (bytes : List ℕ) → length (ctr_text key start place bytes) ≡ length bytes
unfolding ctr_text
length-ctr_text key start place [] = refl
length-ctr_text key start place (b ∷ bytes) = ap suc (length-ctr_text key start (place + 1) bytes)

pub ctr_text-++ : (key : List ℕ) (start place : ℕ) (a b : List ℕ)
    → ctr_text key start place (a ++ b) ≡ ctr_text key start place a ++ ctr_text key start (place + length a) b
unfolding ctr_text
ctr_text-++ key start place [] b = ap (λ (p : ℕ). ctr_text key start p b) (omega arith)
ctr_text-++ key start place (x ∷ a) b =
    let moved : place + 1 + length a ≡ place + length (x ∷ a) = omega arith in
    ap (λ (xs : List ℕ). x ⊕ key_stream_byte key start place ∷ xs)
    (ctr_text-++ key start (place + 1) a b ∙ ap (λ (p : ℕ). ctr_text key start (place + 1) a ++ ctr_text key start p b) moved)

pub counter_block-% : (start n : ℕ) → counter_block start (n % 2 ^ 128) ≡ counter_block start n
unfolding counter_block
counter_block-% start n = ap (to_be_bytes w128) (add-mod-mod start n (2 ^ 128))

counter_block-again : (start n q : ℕ) → counter_block start (n + 2 ^ 128 * q) ≡ counter_block start n
unfolding counter_block
counter_block-again start n q = ap (to_be_bytes w128) (ap (λ (x : ℕ). x % 2 ^ 128) (sym (add_assoc start n (2 ^ 128 * q))) ∙ add-mul-mod_self_left (start + n) (2 ^ 128) q)

pub key_stream_byte-again : (key : List ℕ) (start place q : ℕ) → key_stream_byte key start (place + 16 * (2 ^ 128 * q)) ≡ key_stream_byte key start place
unfolding key_stream_byte
key_stream_byte-again key start place q =
    let n = 2 ^ 128 * q in
    let block : (place + 16 * n) / 16 ≡ place / 16 + n = omega arith in
    let within : (place + 16 * n) % 16 ≡ place % 16 = omega arith in
    ap₂ (λ (b w : ℕ). get_or (encrypted key (counter_block start b)) w 0) block within
    ∙ ap (λ (b : List ℕ). get_or (encrypted key b) (place % 16) 0) (counter_block-again start (place / 16) q)

-- the text depends on the bytes of the key stream alone
pub ctr_text-same : (key : List ℕ) (start begin p q : ℕ) (bytes : List ℕ)
    → ((i : ℕ) → key_stream_byte key start (p + i) ≡ key_stream_byte key begin (q + i)) → ctr_text key start p bytes ≡ ctr_text key begin q bytes
unfolding ctr_text
ctr_text-same key start begin p q [] same = refl
ctr_text-same key start begin p q (b ∷ bytes) same =
    let first : key_stream_byte key start p ≡ key_stream_byte key begin q = simp add-zero at (same 0) in
    ap₂ (λ (x : ℕ) (xs : List ℕ). b ⊕ x ∷ xs) first
    (ctr_text-same key start begin (p + 1) (q + 1) bytes (λ i. let e = same (1 + i) in rw (add_assoc p 1 i, add_assoc q 1 i) e))

-- the bytes of one block
pub ctr_text-block : (key : List ℕ) (start n from : ℕ) (bytes : List ℕ) → length (encrypted key (counter_block start n)) ≡ 16
    → length bytes + from ≤ 16 → xor_bytes bytes (drop from (encrypted key (counter_block start n))) ≡ ctr_text key start (16 * n + from) bytes
unfolding ctr_text key_stream_byte
ctr_text-block key start n from [] long le = refl
ctr_text-block key start n from (b ∷ bytes) long le =
    let pad = encrypted key (counter_block start n) in
    let at : from < length pad = omega (arith, long, le) in
    let block : (16 * n + from) / 16 ≡ n = omega (arith, le) in
    let within : (16 * n + from) % 16 ≡ from = omega (arith, le) in
    let here : get_or (encrypted key (counter_block start ((16 * n + from) / 16))) ((16 * n + from) % 16) 0 ≡ get_or pad from 0 =
    ap₂ (λ (m w : ℕ). get_or (encrypted key (counter_block start m)) w 0) block within in
    let rest = ctr_text-block key start n (suc from) bytes long (omega (arith, le)) in
    let next : 16 * n + suc from ≡ 16 * n + from + 1 = omega arith in
    ap (xor_bytes (b ∷ bytes)) (drop-cons pad from 0 at)
    ∙ ap₂ (λ (x : ℕ) (xs : List ℕ). b ⊕ x ∷ xs) (sym here) (rest ∙ ap (λ (p : ℕ). ctr_text key start p bytes) next)

-- m bytes more in place
pub ctr_text-put_mid : (key : List ℕ) (start place a m k : ℕ) (whole bytes block : List ℕ) → k ≡ m → a + m ≤ length whole
    → bytes ≡ ctr_text key start place (take a whole) ++ drop a whole
    → (take m (drop a bytes) ≡ take m (drop a whole) → block ≡ ctr_text key start (place + a) (take m (drop a whole)))
    → put_mid a k bytes block ≡ ctr_text key start place (take (a + m) whole) ++ drop (a + m) whole
ctr_text-put_mid key start place a m k whole bytes block size within so_far here =
    let front = ctr_text key start place (take a whole) in
    let long : length front ≡ a = length-ctr_text key start place (take a whole) ∙ length-take a whole ∙ omega arith in
    let before : take a bytes ≡ front = ap (take a) so_far ∙ take_at front (drop a whole) a long in
    let behind : drop a bytes ≡ drop a whole = ap (drop a) so_far ∙ drop_at front (drop a whole) a long in
    let end : drop k (drop a bytes) ≡ drop (a + m) whole =
    ap (λ (n : ℕ). drop n (drop a bytes)) size ∙ ap (drop m) behind ∙ drop-drop m a whole in
    let shorter : length (take a whole) ≡ a = length-take a whole ∙ omega arith in
    let halves : ctr_text key start place (take (a + m) whole) ≡ front ++ block =
    ap (ctr_text key start place) (take-add a m whole) ∙ ctr_text-++ key start place (take a whole) (take m (drop a whole))
    ∙ ap (λ (n : ℕ). front ++ ctr_text key start (place + n) (take m (drop a whole))) shorter
    ∙ ap (λ (xs : List ℕ). front ++ xs) (sym (here (ap (take m) behind))) in
    ap₂ (λ (xs ys : List ℕ). xs ++ (block ++ ys)) before end ∙ sym (append_assoc front block (drop (a + m) whole))
    ∙ ap (λ (xs : List ℕ). xs ++ drop (a + m) whole) (sym halves)

-- one whole block
pub ctr_text-one : (key : List ℕ) (start n place : ℕ) (bytes pad : List ℕ) → pad ≡ encrypted key (counter_block start n)
    → place ≡ 16 * n → length pad ≡ 16 → length bytes ≡ 16 → xor_bytes bytes pad ≡ ctr_text key start place bytes
ctr_text-one key start n place bytes pad is at long size =
    let there : 16 * n + 0 ≡ place = omega arith in
    ap (xor_bytes bytes) is ∙ ctr_text-block key start n 0 bytes (ap length (sym is) ∙ long) (omega arith)
    ∙ ap (λ (p : ℕ). ctr_text key start p bytes) there

counter_block-moved : (start first n i : ℕ) → first ≡ (start + n) % 2 ^ 128 → counter_block first i ≡ counter_block start (n + i)
unfolding counter_block
counter_block-moved start first n i is =
    ap (to_be_bytes w128)
    (ap (λ (k : ℕ). (k + i) % 2 ^ 128) is ∙ mod-add-mod (start + n) (2 ^ 128) i ∙ ap (λ (k : ℕ). k % 2 ^ 128) (add_assoc start n i))

key_stream_byte-moved : (key : List ℕ) (start first n i : ℕ) → first ≡ (start + n) % 2 ^ 128
    → key_stream_byte key first (0 + i) ≡ key_stream_byte key start (16 * n + i)
unfolding key_stream_byte
key_stream_byte-moved key start first n i is =
    let block : (16 * n + i) / 16 ≡ n + (0 + i) / 16 = omega arith in
    let within : (16 * n + i) % 16 ≡ (0 + i) % 16 = omega arith in
    ap (λ (b : List ℕ). get_or (encrypted key b) ((0 + i) % 16) 0) (counter_block-moved start first n ((0 + i) / 16) is)
    ∙ sym (ap₂ (λ (b w : ℕ). get_or (encrypted key (counter_block start b)) w 0) block within)

-- a text from a later counter block on
pub ctr_text-moved : (key : List ℕ) (start first n : ℕ) (bytes : List ℕ) → first ≡ (start + n) % 2 ^ 128
    → ctr_text key first 0 bytes ≡ ctr_text key start (16 * n) bytes
ctr_text-moved key start first n bytes is = ctr_text-same key first start 0 (16 * n) bytes (λ i. key_stream_byte-moved key start first n i is)

-- bytes at the front of a block, whose number may have wrapped
pub ctr_text-front : (key : List ℕ) (start n m place : ℕ) (bytes pad : List ℕ) → pad ≡ encrypted key (counter_block start m)
    → m ≡ n % 2 ^ 128 → place ≡ 16 * n → length pad ≡ 16 → length bytes ≤ 16 → xor_bytes bytes pad ≡ ctr_text key start place bytes
ctr_text-front key start n m place bytes pad is wrapped at long le =
    let same : pad ≡ encrypted key (counter_block start n) =
    is ∙ ap (λ (i : ℕ). encrypted key (counter_block start i)) wrapped ∙ ap (encrypted key) (counter_block-% start n) in
    let there : 16 * n + 0 ≡ place = omega arith in
    ap (xor_bytes bytes) same
    ∙ ctr_text-block key start n 0 bytes (ap length (sym same) ∙ long) (omega arith)
    ∙ ap (λ (p : ℕ). ctr_text key start p bytes) there
