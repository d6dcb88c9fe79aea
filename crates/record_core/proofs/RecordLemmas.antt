-- Sizes and parts of a record's spelling.
use Rattle.std.proofs.Common.{◌≡◌, ℕ, ◌+◌, ◌-◌, ◌≤◌, List, [], ◌++◌, length, take, drop, replicate, refl, sym, ◌∙◌, ap, arith, append_assoc, length-append}
use Rattle.std.proofs.lemmas.List.{length-replicate, drop-take, drop-drop, take-take}
use Rattle.std.proofs.Math.Seq.{take-append_seam, drop-append_seam}
use Rattle.flash_core.specs.Images.{part}
use Rattle.base_core.specs.Units.{up}
use Rattle.base_core.specs.Sizes.{record_size}
use Rattle.base_core.proofs.UnitLemmas.{up-ge}
use Rattle.record_core.specs.declared.header.Header.{Header}
use Rattle.record_core.specs.Header.{header_front, header_bytes}
use Rattle.record_core.specs.Record.{header_of, padded, record_header, record_payload, record_bytes}

-- ---- parts of lists

pub part-part : (l : List ℕ) (place n i m : ℕ) → i + m ≤ n → part (part l place n) i m ≡ part l (place + i) m
part-part l place n i m within =
    let split : n ≡ i + (n - i) = omega arith in
    let front : drop i (take n (drop place l)) ≡ take (n - i) (drop i (drop place l)) =
    ap (λ (k : ℕ). drop i (take k (drop place l))) split ∙ drop-take i (n - i) (drop place l) in
    ap (take m) front ∙ take-take m (n - i) (drop i (drop place l)) (omega arith) ∙ ap (take m) (drop-drop i place l)

-- what stands between two others
pub part-middle : (a b c : List ℕ) (place n : ℕ) → place ≡ length a → n ≡ length b → part (a ++ (b ++ c)) place n ≡ b
part-middle a b c place n at long =
    ap (λ (k : ℕ). take n (drop k (a ++ (b ++ c)))) at
    ∙ ap (λ (k : ℕ). take k (drop (length a) (a ++ (b ++ c)))) long
    ∙ ap (take (length b)) (drop-append_seam a (b ++ c))
    ∙ take-append_seam b c

-- ---- sizes

pub length-header_bytes : (header : Header) → length (header_bytes header) ≡ 24
unfolding header_front header_bytes
length-header_bytes header = refl

module _ (prog : ℕ) (positive : 1 ≤ prog) where
  pub length-padded : (bytes : List ℕ) → length (padded prog bytes) ≡ up prog (length bytes)
  length-padded bytes =
      let pad : ℕ = up prog (length bytes) - length bytes in
      let erased : ℕ = 255 in
      length-append bytes (replicate pad 255) ∙ omega (arith, length-replicate pad erased, up-ge prog (length bytes) positive)

  module _ (flags : ℕ) (key value : List ℕ) where
    pub length-record_header : length (record_header prog flags key value) ≡ up prog 24
    unfolding record_header
    length-record_header = length-padded _ ∙ ap (up prog) (length-header_bytes _)

    pub length-record_payload : length (record_payload prog key value) ≡ up prog (length key + length value)
    unfolding record_payload
    length-record_payload = length-padded (key ++ value) ∙ ap (up prog) (length-append key value)

    pub length-record_bytes : length (record_bytes prog flags key value) ≡ record_size prog (length key) (length value)
    unfolding record_bytes
    length-record_bytes =
        length-append (record_header prog flags key value) (record_payload prog key value)
        ∙ ap (λ (n : ℕ). n + length (record_payload prog key value)) length-record_header
        ∙ ap (λ (n : ℕ). up prog 24 + n) length-record_payload

-- ---- parts of a record

module _ (prog flags : ℕ) (key value : List ℕ) where
  -- the header stands first
  pub part-header : part (record_bytes prog flags key value) 0 24 ≡ header_bytes (header_of flags key value)
  unfolding record_bytes record_header
  part-header =
      let header : List ℕ = header_bytes (header_of flags key value) in
      let pad : List ℕ = replicate (up prog (length header) - length header) 255 in
      ap (λ (l : List ℕ). part l 0 24) (append_assoc header pad (record_payload prog key value))
      ∙ part-middle [] header (pad ++ record_payload prog key value) 0 24 refl (sym (length-header_bytes _))

  -- behind the padded header the key
  pub part-key : 1 ≤ prog → part (record_bytes prog flags key value) (up prog 24) (length key) ≡ key
  unfolding record_bytes record_payload
  part-key positive =
      let header : List ℕ = record_header prog flags key value in
      let pad : List ℕ = replicate (up prog (length (key ++ value)) - length (key ++ value)) 255 in
      ap (λ (l : List ℕ). part (header ++ l) (up prog 24) (length key)) (append_assoc key value pad)
      ∙ part-middle header key (value ++ pad) (up prog 24) (length key) (sym (length-record_header prog positive flags key value)) refl

  -- and behind the key the value
  pub part-value : 1 ≤ prog → part (record_bytes prog flags key value) (up prog 24 + length key) (length value) ≡ value
  unfolding record_bytes record_payload
  part-value positive =
      let header : List ℕ = record_header prog flags key value in
      let pad : List ℕ = replicate (up prog (length (key ++ value)) - length (key ++ value)) 255 in
      let place : ℕ = up prog 24 + length key in
      let behind : place ≡ length (header ++ key) = sym (length-append header key ∙ ap (λ (n : ℕ). n + length key) (length-record_header prog positive flags key value)) in
      ap (λ (l : List ℕ). part (header ++ l) place (length value)) (append_assoc key value pad)
      ∙ ap (λ (l : List ℕ). part l place (length value)) (sym (append_assoc header key (value ++ pad)))
      ∙ part-middle (header ++ key) value pad place (length value) behind refl

-- what of a header goes into the CRC, whatever CRC it has itself
pub front_of : (header : Header) → take 20 (header_bytes header) ≡ header_front header.flags header.key_size header.value_size
unfolding header_front header_bytes
front_of header = refl
