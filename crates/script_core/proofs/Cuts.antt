-- What is read of the word of a cut is the cut that it spells, and what it spells is read.
use Rattle.std.proofs.Common.{◌≡◌, ℕ, ◌^◌, ◌<◌, eqb, List, [], ◌∷◌, Some, None, refl, sym, ap, subst, ◌∙◌, arith}
use Rattle.std.specs.Prelude.{codes}
use Rattle.std.specs.Fmt.{decimal}
use Rattle.std.specs.List.{slice_split, join_with_byte}
use Rattle.std.proofs.lemmas.List.Splits.{join_with_byte-slice_split}
use Rattle.kv_model.specs.declared.pattern.Pattern.{Pattern}
use Rattle.kv_model.specs.declared.pattern.Pattern.TheVariants as pattern
use Rattle.script_core.specs.declared.line.Act.{Act}
use Rattle.script_core.specs.declared.line.Act.TheVariants.{Do, Cut}
use Rattle.script_core.specs.declared.line.PowerCut.{PowerCut}
use Rattle.script_core.specs.declared.line.Side.{Side}
use Rattle.script_core.specs.declared.line.Side.TheVariants.{Primary, Rollback}
use Rattle.script_core.specs.Grammar.{side_letter, pattern_words, IsPattern, cut_word, SpellsCut, IsAct}
use Rattle.script_core.specs.Reading.{◌>>=◌, word_at, end_at, number_of, count_of, side_of, mix_of, plain_pattern_of, lone_pattern_of, pattern_of, cut_of, lone_cut_of}
use Rattle.script_core.proofs.Options.{some_is, bind_some}
use Rattle.script_core.proofs.Rows.{field_some, end_some, named}
use Rattle.script_core.proofs.Splits.{IsWhole, AreWhole, IsClean, AreClean, AreWhole-clean, IsWhole-join_with_byte, slice_split-join_with_byte}
use Rattle.script_core.proofs.Words.{number_of-is_some, number_of-decimal, count_of-is_some, count_of-decimal, IsWhole-decimal, IsClean-decimal}

abbrev IsSide : List ℕ → Side → Type 0
IsSide word side = word ≡ side_letter side

side_is : (word : List ℕ) (side : Side) → side_of word ≡ Some side → IsSide word side
unfolding side_of
side_is word side =
    named IsSide _ word (codes "p") side _ _ (λ h. ap side_letter (some_is Primary side h))
    (named IsSide _ word (codes "r") side _ _ (λ h. ap side_letter (some_is Rollback side h)) (λ h. absurd cc) refl) refl

abbrev ArePatternWords : List (List ℕ) → Pattern → Type 0
ArePatternWords parts torn = IsPattern torn × (parts ≡ pattern_words torn)

abbrev IsPlain : List ℕ → Pattern → Type 0
IsPlain name torn = ArePatternWords (name ∷ []) torn

plain_pattern_is : (name : List ℕ) (torn : Pattern) → plain_pattern_of name ≡ Some torn → IsPlain name torn
unfolding plain_pattern_of
plain_pattern_is name torn =
    named IsPlain _ name (codes "none") torn _ _ (λ h. subst (IsPlain (codes "none")) (some_is pattern.None torn h) (tt, refl))
    (named IsPlain _ name (codes "half") torn _ _ (λ h. subst (IsPlain (codes "half")) (some_is pattern.Half torn h) (tt, refl))
    (named IsPlain _ name (codes "zero") torn _ _ (λ h. subst (IsPlain (codes "zero")) (some_is pattern.Zero torn h) (tt, refl))
    (named IsPlain _ name (codes "all") torn _ _ (λ h. subst (IsPlain (codes "all")) (some_is pattern.All torn h) (tt, refl)) (λ h. absurd cc) refl) refl) refl) refl

mix_is : (parts : List (List ℕ)) (torn : Pattern) → mix_of parts ≡ Some torn → ArePatternWords (codes "mix" ∷ parts) torn
unfolding mix_of
mix_is parts torn h =
    let seed = field_some number_of (λ seed rest. end_at rest >>= λ _. Some (pattern.Mix seed)) parts torn h in
    let end = end_some seed.1 (pattern.Mix seed.2) torn seed.5 in
    let read = number_of-is_some seed.0 seed.2 seed.4 in
    subst (ArePatternWords (codes "mix" ∷ parts)) {x = pattern.Mix seed.2} end.1 (read.1, cc (seed.3, end.0, read.0))

lone_pattern_is : (name : List ℕ) (parts : List (List ℕ)) (torn : Pattern) → lone_pattern_of name parts ≡ Some torn → ArePatternWords (name ∷ parts) torn
unfolding lone_pattern_of
lone_pattern_is name parts torn h =
    let plain = bind_some (plain_pattern_of name) (λ t. end_at parts >>= λ _. Some t) torn h in
    let end = end_some parts plain.0 torn plain.2 in
    let is = plain_pattern_is name plain.0 plain.1 in
    subst (ArePatternWords (name ∷ parts)) end.1 (is.0, ap (λ (ps : List (List ℕ)). name ∷ ps) end.0 ∙ is.1)

pattern_is : (parts : List (List ℕ)) (torn : Pattern) → pattern_of parts ≡ Some torn → ArePatternWords parts torn
unfolding pattern_of
pattern_is [] torn h = absurd cc
pattern_is (name ∷ parts) torn h =
    named (λ w t. ArePatternWords (w ∷ parts) t) _ name (codes "mix") torn _ _ (mix_is parts torn) (lone_pattern_is name parts torn) refl h

-- a cut, and the word for it
abbrev pub IsCutWord : List ℕ → Act → Type 0
IsCutWord word cut = (side : Side) × (n : ℕ) × (torn : Pattern) × (Cut side n torn ≡ cut) × IsAct (Cut side n torn) × (word ≡ cut_word side n torn)

-- what a word is where an act is a cut
abbrev SpellsAct : List ℕ → Act → Type 0
SpellsAct word (Cut side n torn) = SpellsCut word (record { side = side; n = n; pattern = torn })
SpellsAct word (Do call) = ⊥

IsCut-exact : (word : List ℕ) (side : Side) (n : ℕ) (torn : Pattern) → IsCutWord word (Cut side n torn) → SpellsCut word (record { side = side; n = n; pattern = torn })
IsCut-exact word side n torn (s, m, t, same, valid, spelled) =
    subst (λ (a : Act). SpellsAct word a) same (valid, spelled)

pub cut_is : (word : List ℕ) (cut : Act) → cut_of word ≡ Some cut → IsCutWord word cut
unfolding cut_of cut_word
cut_is word cut h =
    let side = field_some side_of (λ side rest. word_at rest >>= λ w. count_of w.0 >>= λ n. pattern_of w.1 >>= λ torn. Some (Cut side n torn)) (slice_split (λ b. eqb b 58) word) cut h in
    let n = field_some count_of (λ n rest. pattern_of rest >>= λ torn. Some (Cut side.2 n torn)) side.1 cut side.5 in
    let torn = bind_some (pattern_of n.1) (λ t. Some (Cut side.2 n.2 t)) cut n.5 in
    let letter : side.0 ≡ side_letter side.2 = side_is side.0 side.2 side.4 in
    let number = count_of-is_some n.0 n.2 n.4 in
    let form = pattern_is n.1 torn.0 torn.1 in
    let parts : slice_split (λ b. eqb b 58) word ≡ side_letter side.2 ∷ decimal n.2 ∷ pattern_words torn.0 = cc (side.3, n.3, letter, number.0, form.1) in
    (side.2, n.2, torn.0, some_is (Cut side.2 n.2 torn.0) cut torn.2, (number.1, number.2, form.0), sym (join_with_byte-slice_split 58 word) ∙ ap (join_with_byte 58) parts)

pub lone_cut_of-is_some : (words : List (List ℕ)) (cut : Act) → lone_cut_of words ≡ Some cut → (word : List ℕ) × (words ≡ word ∷ []) × IsCutWord word cut
unfolding lone_cut_of
lone_cut_of-is_some words cut h =
    let word = field_some cut_of (λ cut rest. end_at rest >>= λ _. Some cut) words cut h in
    let end = end_some word.1 word.2 cut word.5 in
    (word.0, cc (word.3, end.0), subst (IsCutWord word.0) end.1 (cut_is word.0 word.2 word.4))

-- ---- back

side_of-letter : (side : Side) → side_of (side_letter side) ≡ Some side
unfolding side_of
side_of-letter Primary = refl
side_of-letter Rollback = refl

pattern_of-words : (torn : Pattern) → IsPattern torn → pattern_of (pattern_words torn) ≡ Some torn
unfolding pattern_of mix_of lone_pattern_of plain_pattern_of
pattern_of-words pattern.None h = refl
pattern_of-words pattern.Half h = refl
pattern_of-words pattern.Zero h = refl
pattern_of-words pattern.All h = refl
pattern_of-words (pattern.Mix seed) h = rw (number_of-decimal seed h) refl

IsWhole-letter : (side : Side) → IsWhole 58 (side_letter side) × IsClean (side_letter side)
IsWhole-letter Primary = (refl, (refl, refl))
IsWhole-letter Rollback = (refl, (refl, refl))

AreWhole-pattern : (torn : Pattern) → IsPattern torn → AreWhole 58 (pattern_words torn) × AreClean (pattern_words torn)
AreWhole-pattern pattern.None h = ((refl, tt), ((refl, refl), tt))
AreWhole-pattern pattern.Half h = ((refl, tt), ((refl, refl), tt))
AreWhole-pattern pattern.Zero h = ((refl, tt), ((refl, refl), tt))
AreWhole-pattern pattern.All h = ((refl, tt), ((refl, refl), tt))
AreWhole-pattern (pattern.Mix seed) h =
    let wide : seed < 2 ^ 64 = omega arith in
    ((refl, (IsWhole-decimal 58 seed refl wide, tt)), ((refl, refl), (IsClean-decimal seed wide, tt)))

pub cut_of-word : (side : Side) (n : ℕ) (torn : Pattern) → IsAct (Cut side n torn) → cut_of (cut_word side n torn) ≡ Some (Cut side n torn)
unfolding cut_of cut_word
cut_of-word side n torn h =
    let wide : n < 2 ^ 64 = omega arith in
    let parts = slice_split-join_with_byte 58 (side_letter side) (decimal n ∷ pattern_words torn) (IsWhole-letter side).0 (IsWhole-decimal 58 n refl wide, (AreWhole-pattern torn h.2).0) in
    rw (parts, side_of-letter side, count_of-decimal n h.0 h.1, pattern_of-words torn h.2) refl

pub lone_cut_of-word : (side : Side) (n : ℕ) (torn : Pattern) → IsAct (Cut side n torn) → lone_cut_of (cut_word side n torn ∷ []) ≡ Some (Cut side n torn)
unfolding lone_cut_of
lone_cut_of-word side n torn h = rw (cut_of-word side n torn h) refl

pub IsClean-cut : (side : Side) (n : ℕ) (torn : Pattern) → IsAct (Cut side n torn) → IsClean (cut_word side n torn)
unfolding cut_word
IsClean-cut side n torn h =
    let wide : n < 2 ^ 64 = omega arith in
    let number = IsClean-decimal n wide in
    let rest = AreWhole-clean (pattern_words torn) (AreWhole-pattern torn h.2).1 in
    let letter = (IsWhole-letter side).1 in (
      IsWhole-join_with_byte 32 58 (side_letter side) (decimal n ∷ pattern_words torn) refl letter.0 (number.0, rest.0),
      IsWhole-join_with_byte 10 58 (side_letter side) (decimal n ∷ pattern_words torn) refl letter.1 (number.1, rest.1),
    )

-- ---- a word by itself

pub reads_cut : (word : List ℕ) (side : Side) (n : ℕ) (torn : Pattern) → cut_of word ≡ Some (Cut side n torn) → SpellsCut word (record { side = side; n = n; pattern = torn })
reads_cut word side n torn h = IsCut-exact word side n torn (cut_is word (Cut side n torn) h)

pub reads_no_cut : (word : List ℕ) → cut_of word ≡ None → (other : PowerCut) → SpellsCut word other → ⊥
reads_no_cut word none other h = absurd (let read = cut_of-word other.side other.n other.pattern h.0 in let same = ap cut_of h.1 in cc)
