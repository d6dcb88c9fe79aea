-- What reads leave of a device, and a record by the parts of it that are read.
use Rattle.std.proofs.Common.{◌≡◌, ℕ, ◌+◌, ◌-◌, ◌<◌, ◌≤◌, ◌^◌, List, [], ◌++◌, length, replicate, IsTrue, refl, sym, ◌∙◌, ap, subst, arith, add_assoc, append_assoc, append-nil, length-append}
use Rattle.std.specs.Prelude.{◌↔◌, Bool, Option, Some, None, Result, Ok, Err, IsNone, IfSome, IfOk, IsErrAnd, MatchOption}
use mathlib.Core.Bool.{false≢true}
use Rattle.std.specs.Int.{w32, to_le_bytes}
use Rattle.std.proofs.lemmas.List.{length-replicate}
use Rattle.flash_core.specs.Calls.{CountsStand, OnlyReads}
use Rattle.flash_core.specs.Runs.{ReadsBy}
use Rattle.flash_core.specs.Images.{part}
use Rattle.flash_core.specs.State.{FlashState}
use Rattle.flash_core.proofs.ImageLaws.{length-part, part-append}
use Rattle.base_core.proofs.CountLemmas.{Rose-since}
use Rattle.flash_core.proofs.KeptLaws.{OnlyReads-trans}
use Rattle.flash_core.proofs.RunLaws.{counts_same}
use Rattle.kv_model.specs.Crc.{crc_from, crc_of}
use Rattle.kv_model.specs.declared.error.KvError.{KvError}
use Rattle.kv_model.specs.Write.{Write}
use Rattle.kv_model.specs.Keys.{is_key, master_key}
use Rattle.base_core.specs.Units.{up}
use Rattle.base_core.specs.Sizes.{master_size, record_size}
use Rattle.kv_model.proofs.CrcLemmas.{crc_from-append}
use Rattle.base_core.proofs.UnitLemmas.{up-ge}
use Rattle.record_core.specs.declared.header.Header.{Header}
use Rattle.record_core.specs.Endings.{kv_ended, kv_ending}
use Rattle.record_core.specs.Header.{header_bytes, header_front, HasFields, IsHeader, IsValid}
use Rattle.record_core.specs.Log.{IsRecordAt}
use Rattle.record_core.specs.Reading.{HasNoRecord, HasRead, HasRecord, IsFitting, IsPadded, IsWhole, crc_read}
use Rattle.record_core.specs.Record.{header_of, IsMaster, master_value, padded, record_bytes, record_crc, record_header, record_payload}
use Rattle.record_core.proofs.HeaderLemmas.{SameSizes, header_has_fields, same_sizes, same_u32, spelling_has_fields}
use Rattle.record_core.proofs.LogLemmas.{extent-positive, header_at, key_at, value_at}
use Rattle.record_core.proofs.RecordLemmas.{length-header_bytes, length-record_header, part-header, part-middle, part-part}

-- ---- reads one after another

abbrev refusal : {T : Type 0} → KvError → Result T KvError
refusal e = Err e

pub after_reads : {T : Type 0} {a b c : FlashState} (result : Result T KvError) → OnlyReads a b → CountsStand a b → HasRead b c result → HasRead a c result
after_reads (Ok x) first stand second = record {
  kept = OnlyReads-trans first second.kept;
  steady = λ steady. second.steady (first.steady steady);
  cause = second.cause;
  counts = counts_same stand second.counts;
}
after_reads (Err e) first stand second = record {
  kept = OnlyReads-trans first second.kept;
  steady = λ steady. second.steady (first.steady steady);
  cause = (second.cause.0, Rose-since first.read_faults second.cause.1);
  counts = tt;
}

-- a refusal is handed on
pub refused : {T U : Type 0} {a b : FlashState} (result : Result U KvError) (e : KvError) → IsErrAnd result (λ x. x ≡ e) → HasRead a b (refusal {T = T} e) → HasRead a b result
refused (Ok x) e is read = absurd is
refused (Err x) e is read = record {
  kept = read.kept;
  steady = λ steady. absurd (false≢true (read.steady steady));
  cause = (is ∙ read.cause.0, read.cause.1);
  counts = tt;
}

-- how such a call ended
pub has_read_by : {T : Type 0} {old new : FlashState} (result : Result T KvError) → HasRead old new result → ReadsBy old new (kv_ended result)
has_read_by (Ok x) read = record { kept = read.kept; cause = tt; counts = read.counts }
has_read_by {T} {old} {new} (Err e) read = subst (λ (k : KvError). ReadsBy old new (kv_ending k)) (sym read.cause.0) (record {
  kept = read.kept;
  cause = (read.cause.1, λ steady. false≢true (read.steady steady));
  counts = read.kept.write_faults;
})

-- a range and the one behind it
pub crc_of-more : (start : ℕ) (image : List ℕ) (place done count : ℕ) → crc_from (crc_from start (part image place done)) (part image (place + done) count) ≡ crc_from start (part image place (done + count))
crc_of-more start image place done count =
    sym (ap (crc_from start) (part-append image place done count) ∙ crc_from-append start (part image place done) (part image (place + done) count))

pub crc_of-pieces : (front key value : List ℕ) → crc_from (crc_from (crc_from 0xFFFF_FFFF front) key) value ≡ crc_of (front ++ key ++ value)
crc_of-pieces front key value =
    sym (crc_from-append 0xFFFF_FFFF (front ++ key) value ∙ ap (λ (start : ℕ). crc_from start value) (crc_from-append 0xFFFF_FFFF front key))

-- ---- the parts of a record

module _ (prog : ℕ) (positive : 1 ≤ prog) (image : List ℕ) (place : ℕ) where
  -- whole units are the bytes and their padding
  part-padded : (at n : ℕ) (bytes : List ℕ) → length bytes ≡ n → part image at n ≡ bytes → part image (at + n) (up prog n - n) ≡ replicate (up prog n - n) 255 → part image at (up prog n) ≡ padded prog bytes
  part-padded at n bytes long is pad =
      let split : up prog n ≡ n + (up prog n - n) = omega (arith, up-ge prog n positive) in
      ap (part image at) split
      ∙ part-append image at n (up prog n - n)
      ∙ ap (λ (l : List ℕ). l ++ part image (at + n) (up prog n - n)) is
      ∙ ap (λ (l : List ℕ). bytes ++ l) pad
      ∙ ap (λ (k : ℕ). bytes ++ replicate (up prog k - k) 255) (sym long)

  pub assembled : (flags : ℕ) (key value : List ℕ) → part image place 24 ≡ header_bytes (header_of flags key value) → part image (place + up prog 24) (length key + length value) ≡ key ++ value → IsPadded prog image place (length key + length value)
      → part image place (record_size prog (length key) (length value)) ≡ record_bytes prog flags key value
  unfolding record_bytes record_header record_payload
  assembled flags key value header payload pad =
      let size : ℕ = length key + length value in
      let spelled : List ℕ = header_bytes (header_of flags key value) in
      part-append image place (up prog 24) (up prog size)
      ∙ ap (λ (l : List ℕ). l ++ part image (place + up prog 24) (up prog size)) (part-padded place 24 spelled (length-header_bytes _) header pad.header)
      ∙ ap (λ (l : List ℕ). padded prog spelled ++ l) (part-padded (place + up prog 24) size (key ++ value) (length-append key value) payload pad.payload)

  module _ (flags : ℕ) (key value : List ℕ) (is : part image place (record_size prog (length key) (length value)) ≡ record_bytes prog flags key value) where
    part_of : (i m : ℕ) → i + m ≤ record_size prog (length key) (length value) → part image (place + i) m ≡ part (record_bytes prog flags key value) i m
    part_of i m within = sym (part-part image place (record_size prog (length key) (length value)) i m within) ∙ ap (λ (l : List ℕ). part l i m) is

    pub header_of_record : part image place 24 ≡ header_bytes (header_of flags key value)
    header_of_record =
        let at : place ≡ place + 0 = omega arith in
        ap (λ (p : ℕ). part image p 24) at
        ∙ part_of 0 24 (omega (arith, up-ge prog 24 positive))
        ∙ part-header prog flags key value

    pub payload_of_record : part image (place + up prog 24) (length key + length value) ≡ key ++ value
    unfolding record_bytes record_payload
    payload_of_record =
        let header : List ℕ = record_header prog flags key value in
        let pad : List ℕ = replicate (up prog (length (key ++ value)) - length (key ++ value)) 255 in
        part_of (up prog 24) (length key + length value) (omega (arith, up-ge prog (length key + length value) positive))
        ∙ part-middle header (key ++ value) pad (up prog 24) (length key + length value) (sym (length-record_header prog positive flags key value)) (sym (length-append key value))

    behind_header : part image (place + 24) (up prog 24 - 24) ≡ replicate (up prog 24 - 24) 255
    unfolding record_bytes record_header
    behind_header =
        let spelled : List ℕ = header_bytes (header_of flags key value) in
        let pad : List ℕ = replicate (up prog (length spelled) - length spelled) 255 in
        let long : length spelled ≡ 24 = length-header_bytes _ in
        let pad_is : pad ≡ replicate (up prog 24 - 24) 255 = ap (λ (k : ℕ). replicate (up prog k - k) 255) long in
        let pad_long : up prog 24 - 24 ≡ length pad = sym (ap length pad_is ∙ length-replicate (up prog 24 - 24) _) in
        part_of 24 (up prog 24 - 24) (omega (arith, up-ge prog 24 positive))
        ∙ ap (λ (l : List ℕ). part l 24 (up prog 24 - 24)) (append_assoc spelled pad (record_payload prog key value))
        ∙ part-middle spelled pad (record_payload prog key value) 24 (up prog 24 - 24) (sym long) pad_long
        ∙ pad_is

    behind_payload : part image (place + up prog 24 + (length key + length value)) (up prog (length key + length value) - (length key + length value)) ≡ replicate (up prog (length key + length value) - (length key + length value)) 255
    unfolding record_bytes record_payload
    behind_payload =
        let size : ℕ = length key + length value in
        let header : List ℕ = record_header prog flags key value in
        let both : List ℕ = key ++ value in
        let pad : List ℕ = replicate (up prog (length both) - length both) 255 in
        let long : length both ≡ size = length-append key value in
        let pad_is : pad ≡ replicate (up prog size - size) 255 = ap (λ (k : ℕ). replicate (up prog k - k) 255) long in
        let pad_long : up prog size - size ≡ length pad = sym (ap length pad_is ∙ length-replicate (up prog size - size) _) in
        let before : up prog 24 + size ≡ length (header ++ both) = sym (length-append header both ∙ ap (λ (n : ℕ). length header + n) long ∙ ap (λ (n : ℕ). n + size) (length-record_header prog positive flags key value)) in
        let grouped : header ++ (both ++ pad) ≡ (header ++ both) ++ (pad ++ []) = ap (λ (l : List ℕ). header ++ (both ++ l)) (sym (append-nil pad)) ∙ sym (append_assoc header both (pad ++ [])) in
        ap (λ (p : ℕ). part image p (up prog size - size)) (add_assoc place (up prog 24) size)
        ∙ part_of (up prog 24 + size) (up prog size - size) (omega (arith, up-ge prog size positive))
        ∙ ap (λ (l : List ℕ). part l (up prog 24 + size) (up prog size - size)) grouped
        ∙ part-middle (header ++ both) pad [] (up prog 24 + size) (up prog size - size) before pad_long
        ∙ pad_is

    pub padded_of_record : IsPadded prog image place (length key + length value)
    padded_of_record = record { header = behind_header; payload = behind_payload }

  -- ---- what was read is a record

  pub has_record : (end : ℕ) (key : List ℕ) (header : Header) → end ≤ length image → IsTrue (is_key key) → IsFitting prog place end key header → part image place 24 ≡ header_bytes header
      → key ≡ part image (place + up prog 24) header.key_size → IsWhole prog image place key header → HasRecord prog image place end key header
  has_record end key header long valid_key fitting spelled key_is whole =
      let value : List ℕ = part image (place + (up prog 24 + header.key_size)) header.value_size in
      let value_size : header.value_size ≡ length value =
      sym (length-part image (place + (up prog 24 + header.key_size)) header.value_size (omega (arith, fitting.inside, long, up-ge prog (header.key_size + header.value_size) positive))) in
      let key_size : header.key_size ≡ length key = sym fitting.key_size in
      let sum : header.crc ≡ record_crc header.flags key value =
      whole.sum ∙ (λ i. crc_of (header_front header.flags (key_size i) (value_size i) ++ key ++ value)) in
      let header_is : header ≡ header_of header.flags key value = λ i. record { flags = header.flags; key_size = key_size i; value_size = value_size i; crc = sum i } in
      let at : place + up prog 24 + length key ≡ place + (up prog 24 + header.key_size) = omega (arith, key_size) in
      let payload : part image (place + up prog 24) (length key + length value) ≡ key ++ value =
      part-append image (place + up prog 24) (length key) (length value)
      ∙ ap (λ (l : List ℕ). l ++ part image (place + up prog 24 + length key) (length value)) (ap (part image (place + up prog 24)) (sym key_size) ∙ sym key_is)
      ∙ ap (λ (l : List ℕ). key ++ l) (ap (λ (p : ℕ). part image p (length value)) at ∙ ap (part image (place + (up prog 24 + header.key_size))) (sym value_size)) in
      let size : header.key_size + header.value_size ≡ length key + length value = λ i. key_size i + value_size i in
      record {
        written = record { flags = header.flags; key = key; value = value };
        stands = record {
          valid_key = valid_key;
          valid_header = subst IsValid header_is fitting.valid;
          spelling = assembled header.flags key value (spelled ∙ ap header_bytes header_is) payload (subst (IsPadded prog image place) size whole.padded);
        };
        inside = subst (λ (h : Header). place + record_size prog h.key_size h.value_size ≤ end) header_is fitting.inside;
        key_is = refl;
        header_is = header_is;
      }

  -- ---- a record gives what is read

  module _ (header : Header) (r : Write) (stands : IsRecordAt prog image place r) (valid : IsValid header) (spelled : part image place 24 ≡ header_bytes header) where
    sizes : SameSizes header (header_of r.flags r.key r.value)
    sizes = same_sizes header (header_of r.flags r.key r.value) valid stands.valid_header (sym spelled ∙ header_at prog positive image place r stands)

    key_read : part image (place + up prog 24) header.key_size ≡ r.key
    key_read = ap (part image (place + up prog 24)) sizes.key_size ∙ key_at prog positive image place r stands

    pub is_key_read : IsTrue (is_key (part image (place + up prog 24) header.key_size))
    is_key_read = subst (λ (l : List ℕ). IsTrue (is_key l)) (sym key_read) stands.valid_key

    pub is_whole_record : (key : List ℕ) → header.crc < 2 ^ 32 → key ≡ part image (place + up prog 24) header.key_size
        → crc_read prog image place key header < 2 ^ 32
        → IsWhole prog image place key header
    is_whole_record key crc_fits key_is fits =
        let key_same : key ≡ r.key = key_is ∙ key_read in
        let value_same : part image (place + (up prog 24 + header.key_size)) header.value_size ≡ r.value =
        (λ i. part image (place + (up prog 24 + sizes.key_size i)) (sizes.value_size i)) ∙ value_at prog positive image place r stands in
        let total : crc_read prog image place key header ≡ record_crc r.flags r.key r.value =
        λ i. crc_of (header_front (sizes.flags i) (sizes.key_size i) (sizes.value_size i) ++ key_same i ++ value_same i) in
        let of_record : HasFields (header_bytes header) (header_of r.flags r.key r.value) =
        header_has_fields (header_bytes header) (header_of r.flags r.key r.value) (sym spelled ∙ header_at prog positive image place r stands) in
        let of_header : HasFields (header_bytes header) header = spelling_has_fields header in
        record {
          sum = same_u32 header.crc _ crc_fits fits (sym of_header.crc ∙ of_record.crc ∙ ap (to_le_bytes w32) (sym total));
          padded = subst (IsPadded prog image place) (λ i. sym sizes.key_size i + sym sizes.value_size i) (padded_of_record r.flags r.key r.value stands.spelling);
        }

-- ---- from what a call answered

module _ (prog : ℕ) (positive : 1 ≤ prog) (image : List ℕ) (place end : ℕ) (from : place ≤ end) where
  -- too little room for a header
  pub no_room : end - place < 24 → HasNoRecord prog image place end
  no_room short r stands = omega (arith, extent-positive prog positive r)

  pub head_found : (bytes : List ℕ) → bytes ≡ part image place 24 → (found : Option Header) → IfSome found (λ header. bytes ≡ header_bytes header)
      → ((header : Header) → IsHeader header.flags header.key_size header.value_size → bytes ≡ header_bytes header → IsNone found → end - place < record_size prog header.key_size header.value_size)
      → MatchOption found (HasNoRecord prog image place end) (λ header. part image place 24 ≡ header_bytes header)
  head_found bytes is None spelled none = λ r stands.
      let too_large : end - place < record_size prog (length r.key) (length r.value) =
      none (header_of r.flags r.key r.value) stands.valid_header (is ∙ header_at prog positive image place r stands) refl in
      omega (arith, too_large)
  head_found bytes is (Some header) spelled none = sym is ∙ spelled

pub both_padded : (prog : ℕ) (image : List ℕ) (place size : ℕ) → part image (place + 24) (up prog 24 - 24) ≡ replicate (up prog 24 - 24) 255 → (result : Result Bool KvError)
    → IfOk result (λ is_padded. IsTrue is_padded ↔ (part image (place + up prog 24 + size) (up prog size - size) ≡ replicate (up prog size - size) 255))
    → IfOk result (λ is_padded. IsTrue is_padded ↔ IsPadded prog image place size)
both_padded prog image place size header (Ok is_padded) payload = (λ yes. record { header = header; payload = payload.0 yes }, λ pad. payload.1 pad.payload)
both_padded prog image place size header (Err e) payload = payload

pub whole_padded : (prog : ℕ) (image : List ℕ) (place : ℕ) (key : List ℕ) (header : Header) → header.crc ≡ crc_read prog image place key header → (result : Result Bool KvError)
    → IfOk result (λ is_padded. IsTrue is_padded ↔ IsPadded prog image place (header.key_size + header.value_size)) → IfOk result (λ is_whole. IsTrue is_whole ↔ IsWhole prog image place key header)
whole_padded prog image place key header sum (Ok is_padded) padded = (λ yes. record { sum = sum; padded = padded.0 yes }, λ whole. padded.1 whole.padded)
whole_padded prog image place key header sum (Err e) padded = padded

-- ---- master records

abbrev none : {T : Type 0} → Option T
none = None

module _ (prog : ℕ) (positive : 1 ≤ prog) (image : List ℕ) (area version : ℕ) where
  pub master_stands : version < 2 ^ 16 → part image area 24 ≡ header_bytes (header_of 0 master_key (master_value version)) → part image (area + up prog 24) 12 ≡ master_key ++ master_value version → IsPadded prog image area 12
      → IsMaster prog version (part image area (master_size prog))
  master_stands in_range header payload pad = record { in_range = in_range; spelling = assembled prog positive image area 0 master_key (master_value version) header payload pad }

  module _ (is : IsMaster prog version (part image area (master_size prog))) where
    pub header_of_stand : part image area 24 ≡ header_bytes (header_of 0 master_key (master_value version))
    header_of_stand = header_of_record prog positive image area 0 master_key (master_value version) is.spelling

    pub payload_of_stand : part image (area + up prog 24) 12 ≡ master_key ++ master_value version
    payload_of_stand = payload_of_record prog positive image area 0 master_key (master_value version) is.spelling

    pub padded_of_stand : IsPadded prog image area 12
    padded_of_stand = padded_of_record prog positive image area 0 master_key (master_value version) is.spelling

pub none_is_not_some : {T : Type 0} (x : T) → none {T = T} ≡ Some x → ⊥
none_is_not_some x same = cc
