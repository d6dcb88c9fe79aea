-- What is read back of a record.
use Rattle.std.proofs.Common.{◌≡◌, ◌⊎◌, ℕ, ◌+◌, ◌-◌, ◌%◌, ◌^◌, ◌<◌, ◌≤◌, List, ◌++◌, length, take, drop, replicate, sym, ◌∙◌, ap, subst, arith, inl, inr, append_assoc, length-append, length-drop}
use Rattle.std.specs.Prelude.{Result, Ok, Err, MatchResult, IfErr, IfOk, Some}
use Rattle.std.proofs.lemmas.List.{drop-drop, drop-replicate}
use Rattle.std.proofs.Math.Seq.{drop-append_seam}
use Rattle.flash_core.specs.Calls.{OnlyReads}
use Rattle.base_core.proofs.CountLemmas.{Rose-since}
use Rattle.flash_core.specs.Images.{part}
use Rattle.flash_core.specs.State.{FlashState}
use Rattle.flash_core.proofs.ImageLaws.{part-append}
use Rattle.kv_model.specs.declared.call.Got.{Got}
use Rattle.kv_model.specs.declared.error.KvError.{KvError}
use Rattle.kv_model.specs.declared.error.KvError.TheVariants.{InvalidSize}
use Rattle.kv_model.specs.Crc.{crc_of}
use Rattle.kv_model.specs.Write.{Write}
use Rattle.base_core.specs.Units.{up}
use Rattle.record_core.specs.declared.header.Header.{Header}
use Rattle.record_core.specs.Header.{header_front, header_bytes}
use Rattle.record_core.specs.Log.{IsRecordAt, extent}
use Rattle.record_core.specs.Lookup.{HeadSeen, IsHead, IsReadFault, IsSeen}
use Rattle.record_core.specs.Record.{record_crc}
use Rattle.record_core.proofs.HeaderLemmas.{low_bytes}
use Rattle.record_core.proofs.LogLemmas.{header_at, key_at, value_at}
use Rattle.record_core.proofs.LookupLemmas.{IsSeen-since, one_head}
use Rattle.area_log.specs.Checked.{ChecksWrong, GivesChecked, IsTooFar}
use Rattle.area_log.specs.Reading.{Gives, IsRead, ReadsValue, filled, sum_of}

-- what four bytes of a CRC leave of a record's header
abbrev pub head_of : Write → Header
head_of r = record { flags = r.flags; key_size = length r.key; value_size = length r.value; crc = record_crc r.flags r.key r.value % 2 ^ 32 }

spelled : (r : Write) → header_bytes (record { flags = r.flags; key_size = length r.key; value_size = length r.value; crc = record_crc r.flags r.key r.value }) ≡ header_bytes (head_of r)
unfolding header_bytes
spelled r = ap (λ (crc : List ℕ). header_front r.flags (length r.key) (length r.value) ++ crc) (sym (low_bytes (record_crc r.flags r.key r.value)))

module _ (prog : ℕ) (positive : 1 ≤ prog) (image : List ℕ) (place : ℕ) (r : Write) (stands : IsRecordAt prog image place r) where
  -- the bytes of a record's header spell what it says
  pub head_is : part image place 24 ≡ header_bytes (head_of r)
  head_is = header_at prog positive image place r stands ∙ spelled r

  payload_at : part image (place + up prog 24) (length r.key + length r.value) ≡ r.key ++ r.value
  payload_at =
      let start : ℕ = place + up prog 24 in
      let at : start + length r.key ≡ place + (up prog 24 + length r.key) = omega arith in
      part-append image start (length r.key) (length r.value)
      ∙ ap (λ (l : List ℕ). l ++ part image (start + length r.key) (length r.value)) (key_at prog positive image place r stands)
      ∙ ap (λ (p : ℕ). r.key ++ part image p (length r.value)) at
      ∙ ap (λ (l : List ℕ). r.key ++ l) (value_at prog positive image place r stands)

-- the bytes behind a list's front
part-behind : (a b : List ℕ) (i n : ℕ) → part (a ++ b) (length a + i) n ≡ part b i n
part-behind a b i n = ap (take n) (sym (drop-drop i (length a) (a ++ b)) ∙ ap (drop i) (drop-append_seam a b))

module _ (s : FlashState) (positive : 1 ≤ s.geometry.prog) (image : List ℕ) (told : s.image ≡ Some image) (at end : ℕ) (r : Write) (stands : IsRecordAt s.geometry.prog image at r) (inside : at + extent s.geometry.prog r ≤ end) where
  head_here : (bytes : List ℕ) → bytes ≡ part image at 24 → IsHead s.geometry.prog (end - at) bytes (head_of r)
  head_here bytes seen = record {
    spelled = seen ∙ head_is s.geometry.prog positive image at r stands;
    valid = stands.valid_header;
    fits = omega arith;
    within = omega (arith, inside);
  }

  header_is : (header : Header) → HeadSeen s at (end - at) header → header ≡ head_of r
  header_is header seen = one_head s.geometry.prog (end - at) seen.bytes header (head_of r) seen.head (head_here seen.bytes (seen.seen.told image told))

  module _ (header : Header) (payload : List ℕ) (read : IsRead s at (end - at) header payload) where
    same : header ≡ head_of r
    same = header_is header read.head

    pub payload_is : payload ≡ r.key ++ r.value
    payload_is =
        read.seen.told image told
        ∙ ap (λ (h : Header). part image (at + up s.geometry.prog 24) (h.key_size + h.value_size)) same
        ∙ payload_at s.geometry.prog positive image at r stands

    sum_is : sum_of header payload ≡ record_crc r.flags r.key r.value
    sum_is =
        (λ i. sum_of (same i) (payload_is i))
        ∙ ap crc_of (sym (append_assoc (header_front r.flags (length r.key) (length r.value)) r.key r.value))

    not_wrong : sum_of header payload < 2 ^ 32 → header.crc ≡ sum_of header payload
    not_wrong fits =
        let crc : header.crc ≡ record_crc r.flags r.key r.value % 2 ^ 32 = ap (λ (h : Header). h.crc) same in
        omega (arith, crc, sum_is, fits)

  -- where a record stands its value is read
  pub value_of_record : (new : FlashState) (offset : ℕ) (buf : List ℕ) (result : Result Got KvError) → ReadsValue s new at (end - at) offset buf result
      → MatchResult result (Gives r offset buf) (λ e. IsReadFault s new e ⊎ ((e ≡ InvalidSize) × (length r.value < offset)))
  value_of_record new offset buf (Ok got) gives =
      let is : gives.header ≡ head_of r = same gives.header gives.payload gives.read in
      let key_size : gives.header.key_size ≡ length r.key = ap (λ (h : Header). h.key_size) is in
      record {
        flags = gives.flags ∙ ap (λ (h : Header). h.flags) is;
        size = gives.size ∙ ap (λ (h : Header). h.value_size) is;
        bytes = gives.bytes
            ∙ ap (λ (l : List ℕ). filled (length buf) (part l (gives.header.key_size + offset) got.read)) (payload_is gives.header gives.payload gives.read)
            ∙ ap (λ (n : ℕ). filled (length buf) (part (r.key ++ r.value) (n + offset) got.read)) key_size
            ∙ ap (filled (length buf)) (part-behind r.key r.value offset got.read);
      }
  value_of_record new offset buf (Err e) (inl fault) = inl fault
  value_of_record new offset buf (Err e) (inr (inl broken)) = absurd (broken.none (head_of r) (head_here broken.bytes (broken.seen.told image told)))
  value_of_record new offset buf (Err e) (inr (inr (inl wrong))) = absurd (wrong.differ (not_wrong wrong.header wrong.payload wrong.read wrong.fits))
  value_of_record new offset buf (Err e) (inr (inr (inr beyond))) =
      let size : beyond.header.value_size ≡ length r.value = ap (λ (h : Header). h.value_size) (same beyond.header beyond.payload beyond.read) in
      inr (beyond.is, omega (arith, beyond.beyond, size))

-- bytes laid over the front of zeros
pub filled_front : (buf out : List ℕ) (k : ℕ) → buf ≡ replicate (length buf) 0 → length out ≡ k → k ≤ length buf → out ++ drop k buf ≡ filled (length buf) out
filled_front buf out k zeros long within =
    ap (λ (l : List ℕ). out ++ drop k l) zeros ∙ ap (λ (l : List ℕ). out ++ l) (drop-replicate k (length buf) 0) ∙ ap (λ (n : ℕ). out ++ replicate (length buf - n) 0) (sym long)

-- ---- what a value's reader answers behind the reader of the header

pub fault_since : {old mid new : FlashState} {e : KvError} → OnlyReads old mid → IsReadFault mid new e → IsReadFault old new e
fault_since reads fault = record {
  is = fault.is;
  rose = Rose-since reads.read_faults fault.rose;
  unsteady = λ steady. fault.unsteady (reads.steady steady);
}

module _ {old mid : FlashState} (reads : OnlyReads old mid) (at room place offset : ℕ) (header : Header) (head : HeadSeen old at room header) (place_is : place ≡ at + up old.geometry.prog 24) where
  is_read : (payload : List ℕ) → IsSeen mid place (header.key_size + header.value_size) payload → IsRead old at room header payload
  is_read payload seen = record { head = head; seen = subst (λ (p : ℕ). IsSeen old p (header.key_size + header.value_size) payload) place_is (IsSeen-since reads seen) }

  pub value_answer : (new : FlashState) (buf : List ℕ) (result : Result Got KvError) → IfErr result (λ e. IsReadFault mid new e ⊎ (ChecksWrong mid place header e ⊎ IsTooFar mid place header offset e))
      → IfOk result (GivesChecked mid place header offset buf) → ReadsValue old new at room offset buf result
  value_answer new buf (Ok got) cause gives = record {
    header = header;
    payload = gives.payload;
    read = is_read gives.payload gives.seen;
    right = gives.right;
    in_value = gives.in_value;
    flags = gives.flags;
    size = gives.size;
    count = gives.count;
    bytes = gives.bytes;
  }
  value_answer new buf (Err e) (inl fault) gives = inl (fault_since reads fault)
  value_answer new buf (Err e) (inr (inl wrong)) gives =
      inr (inr (inl (record { header = header; payload = wrong.payload; read = is_read wrong.payload wrong.seen; differ = wrong.differ; fits = wrong.fits; is = wrong.is })))
  value_answer new buf (Err e) (inr (inr far)) gives =
      inr (inr (inr (record { header = header; payload = far.payload; read = is_read far.payload far.seen; right = far.right; beyond = far.beyond; is = far.is })))

-- bytes laid over the front leave the length
pub length-front : (buf out : List ℕ) (k : ℕ) → length out ≡ k → k ≤ length buf → length (out ++ drop k buf) ≡ length buf
length-front buf out k long within = length-append out (drop k buf) ∙ omega (arith, long, within, length-drop k buf)
