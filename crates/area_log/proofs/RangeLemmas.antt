-- What reads of one piece behind another give.
use Rattle.std.proofs.Common.{◌≡◌, ℕ, ◌+◌, List, ◌++◌, length, append_assoc, refl, sym, ◌∙◌, ap, subst, arith}
use Rattle.std.specs.Prelude.{Result, Ok, Err}
use Rattle.flash_core.specs.Calls.{OnlyReads}
use Rattle.flash_core.specs.Runs.{IsCounted}
use Rattle.flash_core.specs.Images.{part}
use Rattle.flash_core.specs.State.{FlashState}
use Rattle.flash_core.proofs.KeptLaws.{OnlyReads-refl}
use Rattle.kv_model.specs.Crc.{crc_from, crc_of}
use Rattle.kv_model.proofs.CrcLemmas.{crc_from-append}
use Rattle.kv_model.specs.declared.error.KvError.{KvError}
use Rattle.record_core.specs.Endings.{kv_ended, kv_ending}
use Rattle.record_core.specs.Reading.{HasRead}
use Rattle.record_core.specs.Lookup.{IsCrcOf, IsSeen}
use Rattle.record_core.proofs.LookupLemmas.{IsCrcOf-more, IsSeen-more, IsSeen-since}
use Rattle.record_core.proofs.RecordLemmas.{part-middle}

-- what a read counts
pub counts_read : {T : Type 0} {old new : FlashState} (result : Result T KvError) → HasRead old new result → IsCounted old new (kv_ended result)
counts_read (Ok x) read = read.counts
counts_read {old = old} {new = new} (Err e) read = subst (λ (k : KvError). IsCounted old new (kv_ending k)) (sym read.cause.0) read.kept.write_faults

-- A range that was read in three pieces, of which the second was kept, and the CRC of other bytes and of it.
pub record InThree (s : FlashState) (place a n : ℕ) (front out : List ℕ) (sum : ℕ) : Type 0 where
  pub payload : List ℕ
  pub seen : IsSeen s place n payload
  pub is : sum ≡ crc_of (front ++ payload)
  pub kept : out ≡ part payload a (length out)

in_three : {s mid last : FlashState} (place a b c n : ℕ) (front out : List ℕ) (start before through sum : ℕ) → OnlyReads s mid → OnlyReads s last → start ≡ crc_of front → IsCrcOf s place a start before → IsSeen mid (place + a) b out
    → through ≡ crc_from before out → IsCrcOf last (place + a + b) c through sum → a + b + c ≡ n → InThree s place a n front out sum
in_three {s} {mid} {last} place a b c n front out start before through sum reads more start_is first second through_is third whole =
    let tail : List ℕ = third.bytes in
    let payload : List ℕ = first.bytes ++ (out ++ tail) in
    let at : place + a + b ≡ place + (a + b) = omega arith in
    let two : IsSeen s place (a + b) (first.bytes ++ out) = IsSeen-more first.seen (IsSeen-since reads second) in
    let three : IsSeen s place (a + b + c) ((first.bytes ++ out) ++ tail) =
    IsSeen-more two (IsSeen-since more (subst (λ (p : ℕ). IsSeen last p c tail) at third.seen)) in
    record {
      payload = payload;
      seen = subst (λ (l : List ℕ). IsSeen s place n l) (append_assoc first.bytes out tail) (subst (λ (k : ℕ). IsSeen s place k ((first.bytes ++ out) ++ tail)) whole three);
      is =
          third.is
          ∙ ap (λ (k : ℕ). crc_from k tail) (through_is ∙ ap (λ (k : ℕ). crc_from k out) (first.is ∙ ap (λ (k : ℕ). crc_from k first.bytes) start_is))
          ∙ sym (ap (λ (k : ℕ). crc_from (crc_from k out) tail) (crc_from-append 0xFFFF_FFFF front first.bytes))
          ∙ sym (ap (λ (k : ℕ). crc_from k tail) (crc_from-append 0xFFFF_FFFF (front ++ first.bytes) out))
          ∙ sym (crc_from-append 0xFFFF_FFFF ((front ++ first.bytes) ++ out) tail)
          ∙ ap crc_of (append_assoc (front ++ first.bytes) out tail ∙ append_assoc front first.bytes (out ++ tail));
      kept = sym (part-middle first.bytes out tail a (length out) (sym first.seen.long) refl);
    }

-- the same, where the front of the range was read before
pub begun_three : {s mid last : FlashState} (place k a b c n : ℕ) (front out : List ℕ) (start before through sum : ℕ) → OnlyReads s mid → OnlyReads s last → IsCrcOf s place k (crc_of front) start → IsCrcOf s (place + k) a start before
    → IsSeen mid (place + k + a) b out → through ≡ crc_from before out → IsCrcOf last (place + k + a + b) c through sum → k + a + b + c ≡ n → InThree s place (k + a) n front out sum
begun_three {s} {mid} {last} place k a b c n front out start before through sum reads more begun first second through_is third whole =
    let at : place + k + a ≡ place + (k + a) = omega arith in
    in_three place (k + a) b c n front out (crc_of front) before through sum reads more refl (IsCrcOf-more (OnlyReads-refl s) begun first.seen first.is)
    (subst (λ (p : ℕ). IsSeen mid p b out) at second) through_is (subst (λ (p : ℕ). IsCrcOf last (p + b) c through sum) at third) whole

-- what was read is there behind reads
pub IsCrcOf-later : {old mid : FlashState} {place n start sum : ℕ} → OnlyReads old mid → IsCrcOf old place n start sum → IsCrcOf mid place n start sum
IsCrcOf-later reads crc = record {
  bytes = crc.bytes;
  seen = record { long = crc.seen.long; told = λ image told. crc.seen.told image (sym reads.image ∙ told) };
  is = crc.is;
}
