-- What is written of a line is its canonical spelling, which is read again.
use Rattle.std.proofs.Common.{◌≡◌, ℕ, ◌<◌, inl, inr, get_or, arith, List, [], ◌∷◌, ◌++◌, refl, sym, ap, ◌∙◌, append_assoc, subst, true, false}
use Rattle.hex.specs.Hex.{lower_digits}
use Rattle.hex.proofs.HexLemmas.{length-encode_with, decode_of-encode_lower}
use Rattle.std.specs.List.{join_with_byte}
use Rattle.std.proofs.lemmas.List.{append-nil}
use Rattle.std.specs.Prelude.{codes}
use Rattle.std.specs.Fmt.{decimal}
use Rattle.kv_model.specs.declared.pattern.Pattern.{Pattern}
use Rattle.script_core.specs.declared.line.Side.{Side}
use Rattle.script_core.specs.Grammar.{side_letter, pattern_words, cut_word, hex_word, IsHexWord, Spells, lines_of, is_skipped, Read, IsScript}
use Rattle.script_core.specs.declared.line.Line.{Line}
use Rattle.script_core.proofs.Lines.{Spells-alone}
use Rattle.script_core.proofs.Splits.{split_last}
use Rattle.script_core.specs.Reading.{behind}

-- words with a separator between each two
pub join_with_byte-behind : (c : ℕ) (word : List ℕ) (words : List (List ℕ)) → join_with_byte c (word ∷ words) ≡ word ++ behind c words
join_with_byte-behind c word [] = sym (append-nil word)
join_with_byte-behind c word (next ∷ words) = ap (λ (rest : List ℕ). word ++ c ∷ rest) (join_with_byte-behind c next words)

-- the words of a cut, put together piece by piece
pub cut_spelled : (side : Side) (n : ℕ) (torn : Pattern) (old verb letter number text name first digits : List ℕ) → name ≡ codes "cut" → first ≡ side_letter side → digits ≡ decimal n
    → verb ≡ old ++ behind 32 (name ∷ []) → letter ≡ verb ++ behind 32 (first ∷ []) → number ≡ letter ++ behind 58 (digits ∷ []) → text ≡ number ++ behind 58 (pattern_words torn)
    → text ≡ old ++ behind 32 (codes "cut" ∷ cut_word side n torn ∷ [])
unfolding cut_word
cut_spelled side n torn old verb letter number text name first digits c f d v l k t =
    let word : join_with_byte 58 (side_letter side ∷ decimal n ∷ pattern_words torn) ≡ side_letter side ++ behind 58 (decimal n ∷ pattern_words torn) = join_with_byte-behind 58 (side_letter side) (decimal n ∷ pattern_words torn) in
    rw (t, k, l, v, c, f, d, word) (simp (append_assoc, append-nil) (rw (append-nil (side_letter side), append-nil (decimal n)) refl))

-- the one word for some bytes stands for them
pub IsHexWord-hex_word : (value : List ℕ) → ((i : ℕ) → get_or value i 0 < 256) → IsHexWord (hex_word value) value
unfolding IsHexWord
IsHexWord-hex_word [] fits = inl (refl, refl)
IsHexWord-hex_word (b ∷ bytes) fits = inr (omega (arith, length-encode_with lower_digits (b ∷ bytes)), decode_of-encode_lower (b ∷ bytes) fits)

-- the text of a line that was put together
pub printed : (who : ℕ) (words : List (List ℕ)) (start digits front text result : List ℕ) → start ≡ [] → digits ≡ decimal who → front ≡ start ++ digits → text ≡ front ++ behind 32 words → result ≡ text
    → result ≡ join_with_byte 32 (decimal who ∷ words)
printed who words start digits front text result s d f t r = r ∙ t ∙ rw (f, s, d) (sym (join_with_byte-behind 32 (decimal who) words))

-- a line alone is a script of itself, where no mode forbids it
pub Read-alone : (text : List ℕ) (line : Line) → is_skipped text ≡ false → Spells text line → Read (record { threads = false; secure = true }) (text ∷ []) [] (line ∷ [])
Read-alone text line kept h = rw kept (line, [], refl, (h, (tt, tt)), refl)

pub IsScript-alone : (text : List ℕ) (line : Line) → Spells text line → IsScript (record { threads = false; secure = true }) text (line ∷ [])
IsScript-alone text line h =
    let alone = Spells-alone text line h in
    let lines : lines_of text ≡ text ∷ [] = split_last 10 text alone.0 in
    record { reads = subst (λ (ts : List (List ℕ)). Read (record { threads = false; secure = true }) ts [] (line ∷ [])) (sym lines) (Read-alone text line alone.1 h); count = omega arith }
