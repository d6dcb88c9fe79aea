use Rattle.std.proofs.Common.{◌≡◌, ℕ, ◌+◌, ◌*◌, ◌/◌, ◌%◌, ◌^◌, ◌<◌, List, get_or, sym, ap, ◌∙◌, rules}
use Rattle.kv_model.specs.Crc.{shifted_times}
use Rattle.record_core.proofs.CrcBySlice.{shifted-word}
use Rattle.record_core.proofs.shifts.shifted_word.Goals as goal

pub returns : goal.returns
returns c =
    let row : ℕ = c.args.row in
    let word : ℕ = c.args.word in
    let fits : word < 2 ^ 32 = search rules in
    let first : c.shifted_byte.result ≡ shifted_times (8 * (row + 3 + 1)) (word % 256) =
    c.shifted_byte.ensures ∙ ap (λ (bytes : List ℕ). shifted_times (8 * (row + 3 + 1)) (get_or bytes 0 0)) c.to_le_bytes.ensures in
    let second : c.shifted_byte-2.result ≡ shifted_times (8 * (row + 2 + 1)) (word / 256 % 256) =
    c.shifted_byte-2.ensures ∙ ap (λ (bytes : List ℕ). shifted_times (8 * (row + 2 + 1)) (get_or bytes 1 0)) c.to_le_bytes.ensures in
    let third : c.shifted_byte-3.result ≡ shifted_times (8 * (row + 1 + 1)) (word / 65536 % 256) =
    c.shifted_byte-3.ensures ∙ ap (λ (bytes : List ℕ). shifted_times (8 * (row + 1 + 1)) (get_or bytes 2 0)) c.to_le_bytes.ensures in
    let last : c.shifted_byte-4.result ≡ shifted_times (8 * (row + 1)) (word / 16777216 % 256) =
    c.shifted_byte-4.ensures ∙ ap (λ (bytes : List ℕ). shifted_times (8 * (row + 1)) (get_or bytes 3 0)) c.to_le_bytes.ensures in
    rw (first, second, third, last) (sym (shifted-word row word fits))
