-- What the copy of a record leaves.
use Rattle.std.proofs.Common.{◌≡◌, ℕ, ◌+◌, ◌-◌, ◌≤◌, List, ◌++◌, length, replicate, take, drop, sym, ◌∙◌, ap, subst, arith, inl, append_assoc, length-append}
use Rattle.std.specs.Prelude.{Some}
use Rattle.std.specs.Option.{ForSome}
use Rattle.std.proofs.lemmas.List.{length-drop, length-take-le, take-append-drop}
use Rattle.std.proofs.Math.Nat.{zero-mod}
use Rattle.base_core.specs.Units.{IsMultipleOf, up}
use Rattle.base_core.proofs.UnitLemmas.{IsMultipleOf-add, unit_fits, up-ge, up-multiple}
use Rattle.flash_core.specs.declared.geometry.Geometry.{Geometry}
use Rattle.flash_core.specs.Calls.{CanProgram, OnlyReads}
use Rattle.flash_core.specs.Images.{put}
use Rattle.flash_core.specs.Moments.{Within}
use Rattle.flash_core.specs.Runs.{Done, Ending, ReadsBy, RunsBy}
use Rattle.flash_core.specs.Sizes.{IsValid, size_of}
use Rattle.flash_core.specs.State.{FlashState, IsLawful}
use Rattle.flash_core.proofs.GeometryLaws.{prog_positive}
use Rattle.flash_core.proofs.ImageLaws.{Torn-refl}
use Rattle.flash_core.proofs.KeptLaws.{CanProgram-kept}
use Rattle.flash_core.proofs.RunLaws.{reads_then_runs}
use Rattle.kv_model.specs.Crc.{crc_from, crc_of}
use Rattle.kv_model.proofs.CrcLemmas.{crc_from-append}
use Rattle.kv_model.specs.Write.{Write}
use Rattle.record_core.specs.declared.header.Header.{Header}
use Rattle.record_core.specs.Header.{IsHeader, header_bytes, header_front}
use Rattle.record_core.specs.Log.{extent, spelling_of}
use Rattle.record_core.specs.Lookup.{HeadSeen, IsHead, IsSeen}
use Rattle.record_core.specs.Record.{header_of, padded, record_bytes, record_header, record_payload}
use Rattle.record_core.specs.Written.{CanWrite}
use Rattle.record_core.proofs.LookupLemmas.{IsSeen-since}
use Rattle.record_core.proofs.RecordLemmas.{length-header_bytes, length-padded}
use Rattle.record_core.proofs.WriterLemmas.{put-before}
use Rattle.area_log.specs.Checked.{ChecksWrong}
use Rattle.area_log.specs.Reading.{IsMismatch, sum_of}
use Rattle.kv_model.specs.declared.error.KvError.{KvError}
use Rattle.area_collect.specs.Copies.{HasCopiedPayload, HasCopiedRecord}
use Rattle.area_collect.specs.Payload.{HasCopiedBytes}
use Rattle.area_collect.proofs.PayloadLemmas.{erased_behind}

-- the CRC that went on over a payload
pub checked_sum : (header : Header) (payload : List ℕ) (front sum : ℕ) → front ≡ crc_of (header_front header.flags header.key_size header.value_size) → sum ≡ crc_from front payload → sum ≡ sum_of header payload
checked_sum header payload front sum front_is sum_is =
    sum_is ∙ ap (λ (k : ℕ). crc_from k payload) front_is ∙ sym (crc_from-append 0xFFFF_FFFF (header_front header.flags header.key_size header.value_size) payload)

-- a payload that was copied and has the header's CRC
pub payload_copied : {old new : FlashState} (source target size front sum : ℕ) (header : Header) → size ≡ header.key_size + header.value_size → front ≡ crc_of (header_front header.flags header.key_size header.value_size) → sum ≡ header.crc
    → HasCopiedBytes old new (record { source = source; target = target; size = size; padding = up old.geometry.prog size - size }) front sum → HasCopiedPayload old new source target header
payload_copied {old} {new} source target size front sum header size_is front_is right copied = record {
  payload = copied.bytes;
  seen = subst (λ (n : ℕ). IsSeen old source n copied.bytes) size_is copied.seen;
  right = sym right ∙ checked_sum header copied.bytes front sum front_is copied.sum_is;
  written = λ image told.
      copied.written image told
      ∙ ap (λ (n : ℕ). Some (put image target (copied.bytes ++ replicate (up old.geometry.prog n - n) 255))) (sym copied.seen.long);
}

-- ---- ranges of a record

module _ {s : FlashState} {target room : ℕ} (can : CanWrite s target room) where
  -- what lies behind the header's range may be written behind reads
  pub can_write_behind : {mid : FlashState} → OnlyReads s mid → (at n m : ℕ) → at ≡ up s.geometry.prog 24 → m ≡ n → at + n ≤ room → CanWrite mid (target + at) m
  can_write_behind {mid} reads at n m at_is m_is within = record {
    aligned = subst (λ (g : Geometry). IsMultipleOf g.prog (target + at)) (sym reads.geometry)
        (IsMultipleOf-add s.geometry.prog target at can.aligned (subst (IsMultipleOf s.geometry.prog) (sym at_is) (up-multiple s.geometry.prog 24)));
    inside = omega (arith, can.inside, m_is, within, ap size_of reads.geometry);
    erased = λ image told i from to. can.erased image (sym reads.image ∙ told) i (omega (arith, from)) (omega (arith, to, m_is, within));
  }

  -- and the header's range behind what was written there
  pub can_program_front : {mid : FlashState} (valid : IsValid s.geometry) (at m : ℕ) → at ≡ up s.geometry.prog 24 → at ≤ room → RunsBy s mid (Within (target + at) m) Done → CanProgram mid target at
  can_program_front {mid} valid at m at_is within runs =
      let some : 1 ≤ at = omega (arith, at_is, up-ge s.geometry.prog 24 (prog_positive s.geometry valid)) in
      let whole : IsMultipleOf s.geometry.prog at = subst (IsMultipleOf s.geometry.prog) (sym at_is) (up-multiple s.geometry.prog 24) in
      let of_old : CanProgram s target at = record {
        place_aligned = can.aligned;
        length_aligned = whole;
        at_least = omega (arith, unit_fits s.geometry.prog 0 at (zero-mod s.geometry.prog) whole some);
        at_most = omega (arith, at_is, valid.header_fits);
        inside = omega (arith, can.inside, within);
        erased = λ image told i from to. can.erased image told i from (omega (arith, to, within));
      } in
      CanProgram-kept runs.kept (erased_behind (target + at) m target at runs (inl (omega arith)) of_old.erased) of_old

-- reads, and then a run within a range
pub reads_then_within : {old mid new : FlashState} {ending : Ending} (place n : ℕ) → ReadsBy old mid Done → RunsBy mid new (Within place n) ending → RunsBy old new (Within place n) ending
reads_then_within place n reads runs = reads_then_runs reads runs (λ image told. Torn-refl place n image)

-- the CRC that differs, of the record whose header was read before
pub mismatch_of : {old mid : FlashState} (place room source : ℕ) (header : Header) (e : KvError) → OnlyReads old mid → HeadSeen old place room header → source ≡ place + up old.geometry.prog 24 → ChecksWrong mid source header e → IsMismatch old place room e
mismatch_of {old} {mid} place room source header e reads head source_is wrong = record {
  header = header;
  payload = wrong.payload;
  read = record { head = head; seen = subst (λ (p : ℕ). IsSeen old p (header.key_size + header.value_size) wrong.payload) source_is (IsSeen-since reads wrong.seen) };
  differ = wrong.differ;
  fits = wrong.fits;
  is = wrong.is;
}

-- ---- the record that was read

abbrev pub written_of : Header → List ℕ → Write
written_of header payload = record { flags = header.flags; key = take header.key_size payload; value = drop header.key_size payload }

module _ (header : Header) (payload : List ℕ) (long : length payload ≡ header.key_size + header.value_size) (right : header.crc ≡ sum_of header payload) where
  key_long : length (take header.key_size payload) ≡ header.key_size
  key_long = length-take-le header.key_size payload (omega (arith, long))

  value_long : length (drop header.key_size payload) ≡ header.value_size
  value_long = length-drop header.key_size payload ∙ omega (arith, long)

  pub joined : take header.key_size payload ++ drop header.key_size payload ≡ payload
  joined = take-append-drop header.key_size payload

  pub header_is : header_of header.flags (take header.key_size payload) (drop header.key_size payload) ≡ header
  header_is =
      let key : List ℕ = take header.key_size payload in
      let value : List ℕ = drop header.key_size payload in
      let crc : crc_of (header_front header.flags (length key) (length value) ++ key ++ value) ≡ header.crc =
      ap (λ (n : ℕ). crc_of (header_front header.flags n (length value) ++ key ++ value)) key_long
      ∙ ap (λ (n : ℕ). crc_of (header_front header.flags header.key_size n ++ key ++ value)) value_long
      ∙ ap crc_of (append_assoc (header_front header.flags header.key_size header.value_size) key value)
      ∙ ap (λ (l : List ℕ). crc_of (header_front header.flags header.key_size header.value_size ++ l)) joined
      ∙ sym right in
      λ i. record { flags = header.flags; key_size = key_long i; value_size = value_long i; crc = crc i }

  pub extent_is : (prog : ℕ) → extent prog (written_of header payload) ≡ up prog 24 + up prog (header.key_size + header.value_size)
  extent_is prog =
      ap (λ (n : ℕ). up prog 24 + up prog (n + length (drop header.key_size payload))) key_long
      ∙ ap (λ (n : ℕ). up prog 24 + up prog (header.key_size + n)) value_long

  pub spelled : (prog : ℕ) → padded prog (header_bytes header) ++ padded prog payload ≡ spelling_of prog (written_of header payload)
  unfolding record_bytes record_header record_payload
  spelled prog =
      ap (λ (h : Header). padded prog (header_bytes h) ++ padded prog payload) (sym header_is)
      ∙ ap (λ (l : List ℕ). padded prog (header_bytes (header_of header.flags (take header.key_size payload) (drop header.key_size payload))) ++ padded prog l) (sym joined)

-- what of the header and the payload together stands
pub record_copied : {old mid last new : FlashState} (place target room at end : ℕ) (header : Header) (bytes : List ℕ) → IsLawful old → IsValid old.geometry → target + room ≤ size_of old.geometry → OnlyReads old mid → at ≡ up old.geometry.prog 24
    → IsSeen old place 24 bytes → IsHead old.geometry.prog room bytes header → HasCopiedPayload mid last (place + at) (target + at) header
    → ForSome last.image (λ image. new.image ≡ Some (put image target (padded last.geometry.prog bytes))) → last.geometry ≡ mid.geometry → end ≡ target + (up old.geometry.prog 24 + up old.geometry.prog (header.key_size + header.value_size))
    → HasCopiedRecord old new place target room end
record_copied {old} {mid} {last} {new} place target room at end header bytes lawful valid inside reads at_is head_seen head copied wrote same end_is =
    let prog : ℕ = old.geometry.prog in
    let payload : List ℕ = copied.payload in
    let this : Write = written_of header payload in
    let seen : IsSeen old (place + at) (header.key_size + header.value_size) payload = IsSeen-since reads copied.seen in
    let long : length payload ≡ header.key_size + header.value_size = seen.long in
    let is : header_of this.flags this.key this.value ≡ header = header_is header payload long copied.right in
    let size : extent prog this ≡ up prog 24 + up prog (header.key_size + header.value_size) = extent_is header payload long copied.right prog in
    let sizes : length this.key + length this.value ≡ header.key_size + header.value_size = sym (length-append this.key this.value) ∙ ap length (joined header payload long copied.right) ∙ long in
    let ahead : List ℕ = padded prog (header_bytes header) in
    let positive = prog_positive old.geometry valid in
    let ahead_long : length ahead ≡ up prog 24 = length-padded prog positive (header_bytes header) ∙ ap (up prog) (length-header_bytes header) in
    let behind_long : length (padded prog payload) ≡ up prog (header.key_size + header.value_size) = length-padded prog positive payload ∙ ap (up prog) long in
    record {
      this = this;
      read = record {
        valid = subst (λ (h : Header). IsHeader h.flags h.key_size h.value_size) (sym is) head.valid;
        header = subst (IsSeen old place 24) (head.spelled ∙ ap header_bytes (sym is)) head_seen;
        payload = subst (λ (n : ℕ). IsSeen old (place + up prog 24) n (this.key ++ this.value)) (sym sizes)
            (subst (IsSeen old (place + up prog 24) (header.key_size + header.value_size)) (sym (joined header payload long copied.right))
            (subst (λ (p : ℕ). IsSeen old (place + p) (header.key_size + header.value_size) payload) at_is seen));
        within = omega (arith, size, head.within);
      };
      end_is = end_is ∙ ap (λ (n : ℕ). target + n) (sym size);
      written = λ image told.
          wrote (put image (target + at) (padded mid.geometry.prog payload)) (copied.written image (reads.image ∙ told))
          ∙ ap (λ (g : Geometry). Some (put (put image (target + at) (padded mid.geometry.prog payload)) target (padded g.prog bytes))) (same ∙ reads.geometry)
          ∙ ap (λ (g : Geometry). Some (put (put image (target + at) (padded g.prog payload)) target (padded prog bytes))) reads.geometry
          ∙ ap (λ (l : List ℕ). Some (put (put image (target + at) (padded prog payload)) target (padded prog l))) head.spelled
          ∙ ap (λ (n : ℕ). Some (put (put image (target + n) (padded prog payload)) target ahead)) (at_is ∙ sym ahead_long)
          ∙ ap Some (put-before image target ahead (padded prog payload) (omega (arith, ahead_long, behind_long, head.within, inside, lawful.sized image told)))
          ∙ ap (λ (l : List ℕ). Some (put image target l)) (spelled header payload long copied.right prog);
    }
