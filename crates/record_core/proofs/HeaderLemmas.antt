-- A header and its fields in the bytes.
use Rattle.std.proofs.Common.{◌≡◌, ℕ, ◌≤◌, ◌<◌, ◌^◌, ◌/◌, ◌%◌, List, [], ◌∷◌, ◌++◌, length, drop, slice_range, codes, refl, sym, ◌∙◌, ap, subst, arith, ⊎_elim}
use Rattle.std.specs.Int.{w16, w32, to_le_bytes, from_le_bytes}
use Rattle.std.proofs.lemmas.List.{drop_all}
use Rattle.std.proofs.lemmas.List.Folds.{drop_split}
use Rattle.std.proofs.lemmas.Nat.{from_le_bytes-to_le_bytes_2, from_le_bytes-to_le_bytes_4}
use Rattle.record_core.specs.declared.header.Header.{Header}
use Rattle.record_core.specs.Header.{header_front, header_bytes, HasFields, HasForm, IsHeader, IsValid}

in_fields : (bytes : List ℕ) → length bytes ≡ 24 → bytes ≡ slice_range bytes 0 4 ++ (slice_range bytes 4 6 ++ (slice_range bytes 6 8 ++ (slice_range bytes 8 12 ++ (slice_range bytes 12 14 ++ (slice_range bytes 14 16 ++ (slice_range bytes 16 20 ++ (slice_range bytes 20 24 ++ [])))))))
in_fields bytes long =
    let next : (from to : ℕ) → from ≤ to → drop from bytes ≡ slice_range bytes from to ++ drop to bytes = λ from to. drop_split bytes from to in
    let end : drop 24 bytes ≡ [] = drop_all 24 bytes (omega arith) in
    next 0 4 (omega arith) ∙ ap (λ (l : List ℕ). slice_range bytes 0 4 ++ l) (
    next 4 6 (omega arith) ∙ ap (λ (l : List ℕ). slice_range bytes 4 6 ++ l) (
    next 6 8 (omega arith) ∙ ap (λ (l : List ℕ). slice_range bytes 6 8 ++ l) (
    next 8 12 (omega arith) ∙ ap (λ (l : List ℕ). slice_range bytes 8 12 ++ l) (
    next 12 14 (omega arith) ∙ ap (λ (l : List ℕ). slice_range bytes 12 14 ++ l) (
    next 14 16 (omega arith) ∙ ap (λ (l : List ℕ). slice_range bytes 14 16 ++ l) (
    next 16 20 (omega arith) ∙ ap (λ (l : List ℕ). slice_range bytes 16 20 ++ l) (
    next 20 24 (omega arith) ∙ ap (λ (l : List ℕ). slice_range bytes 20 24 ++ l) end)))))))

joined : (header : Header) (a b c d e f g h : List ℕ) → a ≡ codes "KVR1" → b ≡ to_le_bytes w16 24 → c ≡ to_le_bytes w16 1 → d ≡ to_le_bytes w32 header.flags → e ≡ to_le_bytes w16 header.key_size → f ≡ to_le_bytes w16 0 → g ≡ to_le_bytes w32 header.value_size → h ≡ to_le_bytes w32 header.crc → a ++ (b ++ (c ++ (d ++ (e ++ (f ++ (g ++ (h ++ []))))))) ≡ header_bytes header
unfolding header_front header_bytes
joined header a b c d e f g h is_a is_b is_c is_d is_e is_f is_g is_h = rw (is_a, is_b, is_c, is_d, is_e, is_f, is_g, is_h) refl

-- what has the form and the fields of a header is its spelling
pub header_is : (header : Header) (bytes : List ℕ) → length bytes ≡ 24 → HasForm bytes → HasFields bytes header → bytes ≡ header_bytes header
header_is header bytes long form fields =
    in_fields bytes long
    ∙ joined header _ _ _ _ _ _ _ _ form.magic form.header_size form.revision fields.flags fields.key_size form.reserved fields.value_size fields.crc

pub spelling_has_form : (header : Header) → HasForm (header_bytes header)
unfolding header_front header_bytes
spelling_has_form header = record { magic = refl; header_size = refl; revision = refl; reserved = refl }

pub spelling_has_fields : (header : Header) → HasFields (header_bytes header) header
unfolding header_front header_bytes
spelling_has_fields header = record { flags = refl; key_size = refl; value_size = refl; crc = refl }

pub header_has_form : (bytes : List ℕ) (header : Header) → bytes ≡ header_bytes header → HasForm bytes
header_has_form bytes header is = subst HasForm (sym is) (spelling_has_form header)

pub header_has_fields : (bytes : List ℕ) (header : Header) → bytes ≡ header_bytes header → HasFields bytes header
header_has_fields bytes header is = subst (λ (l : List ℕ). HasFields l header) (sym is) (spelling_has_fields header)

pub flags_fit : {flags key_size value_size : ℕ} → IsHeader flags key_size value_size → flags < 2 ^ 32
flags_fit valid = ⊎_elim (λ plain. omega arith) (⊎_elim (λ write_once. omega arith) (λ remove. omega arith)) valid.kind

pub same_u16 : (m n : ℕ) → m < 2 ^ 16 → n < 2 ^ 16 → to_le_bytes w16 m ≡ to_le_bytes w16 n → m ≡ n
same_u16 m n hm hn same = sym (from_le_bytes-to_le_bytes_2 m hm) ∙ ap (from_le_bytes w16) same ∙ from_le_bytes-to_le_bytes_2 n hn

pub same_u32 : (m n : ℕ) → m < 2 ^ 32 → n < 2 ^ 32 → to_le_bytes w32 m ≡ to_le_bytes w32 n → m ≡ n
same_u32 m n hm hn same = sym (from_le_bytes-to_le_bytes_4 m hm) ∙ ap (from_le_bytes w32) same ∙ from_le_bytes-to_le_bytes_4 n hn

-- four bytes hold a number's low 32 bits
pub low_bytes : (n : ℕ) → to_le_bytes w32 (n % 2 ^ 32) ≡ to_le_bytes w32 n
low_bytes n =
    let a : n % 2 ^ 32 % 256 ≡ n % 256 = omega arith in
    let b : n % 2 ^ 32 / 256 % 256 ≡ n / 256 % 256 = omega arith in
    let c : n % 2 ^ 32 / 65536 % 256 ≡ n / 65536 % 256 = omega arith in
    let d : n % 2 ^ 32 / 16777216 % 256 ≡ n / 16777216 % 256 = omega arith in
    λ i. a i ∷ b i ∷ c i ∷ d i ∷ []

-- two valid headers with one spelling have the same sizes and flags
pub record SameSizes (a b : Header) : Type 0 where
  pub flags : a.flags ≡ b.flags
  pub key_size : a.key_size ≡ b.key_size
  pub value_size : a.value_size ≡ b.value_size

pub same_sizes : (a b : Header) → IsValid a → IsValid b → header_bytes a ≡ header_bytes b → SameSizes a b
same_sizes a b valid_a valid_b same =
    let of_a : HasFields (header_bytes a) a = spelling_has_fields a in
    let of_b : HasFields (header_bytes a) b = header_has_fields (header_bytes a) b same in
    record {
      flags = same_u32 a.flags b.flags (flags_fit valid_a) (flags_fit valid_b) (sym of_a.flags ∙ of_b.flags);
      key_size = same_u16 a.key_size b.key_size (omega (arith, valid_a.key_most)) (omega (arith, valid_b.key_most)) (sym of_a.key_size ∙ of_b.key_size);
      value_size = same_u32 a.value_size b.value_size (omega (arith, valid_a.value_most)) (omega (arith, valid_b.value_most)) (sym of_a.value_size ∙ of_b.value_size);
    }
