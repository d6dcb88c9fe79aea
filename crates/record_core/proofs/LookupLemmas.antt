-- What was read of a device since a call began.
use Rattle.std.proofs.Common.{◌≡◌, ℕ, ◌+◌, List, ◌++◌, length-append, Some, sym, ◌∙◌, ap, arith}
use Rattle.std.specs.Prelude.{Result, Ok, Err, IfOk}
use Rattle.flash_core.specs.Calls.{OnlyReads}
use Rattle.flash_core.specs.Images.{part}
use Rattle.flash_core.specs.State.{FlashState}
use Rattle.kv_model.specs.declared.error.KvError.{KvError}
use Rattle.kv_model.specs.Crc.{crc_from}
use Rattle.kv_model.proofs.CrcLemmas.{crc_from-append}
use Rattle.flash_core.proofs.ImageLaws.{part-append}
use Rattle.record_core.specs.declared.header.Header.{Header}
use Rattle.record_core.specs.Header.{HasFields, header_bytes}
use Rattle.record_core.specs.Lookup.{IsCrcOf, IsHead, IsSeen}
use Rattle.record_core.proofs.HeaderLemmas.{SameSizes, header_has_fields, same_sizes, same_u32, spelling_has_fields}

-- what was read behind reads was there before them
pub IsSeen-since : {old mid : FlashState} {place n : ℕ} {bytes : List ℕ} → OnlyReads old mid → IsSeen mid place n bytes → IsSeen old place n bytes
IsSeen-since reads seen = record { long = seen.long; told = λ image told. seen.told image (reads.image ∙ told) }

-- of a device that tells its image it is the CRC of that
pub told_crc : {s : FlashState} {place n start sum : ℕ} (image : List ℕ) → s.image ≡ Some image → IsCrcOf s place n start sum → sum ≡ crc_from start (part image place n)
told_crc {s} {place} {n} {start} {sum} image told crc = crc.is ∙ ap (crc_from start) (crc.seen.told image told)

pub if_told_crc : (s : FlashState) (place n start : ℕ) (image : List ℕ) → s.image ≡ Some image → (result : Result ℕ KvError) (sum : ℕ) → crc_from start (part image place n) ≡ sum → IfOk result (IsCrcOf s place n start) → IfOk result (λ x. x ≡ sum)
if_told_crc s place n start image told (Ok x) sum is crc = told_crc image told crc ∙ is
if_told_crc s place n start image told (Err e) sum is crc = tt

-- a range and the one right behind it
pub IsSeen-more : {old : FlashState} {place n m : ℕ} {first second : List ℕ} → IsSeen old place n first → IsSeen old (place + n) m second → IsSeen old place (n + m) (first ++ second)
IsSeen-more {old} {place} {n} {m} {first} {second} front back = record {
  long = length-append first second ∙ omega (arith, front.long, back.long);
  told = λ image told.
      ap (λ (l : List ℕ). l ++ second) (front.told image told)
      ∙ ap (λ (l : List ℕ). part image place n ++ l) (back.told image told)
      ∙ sym (part-append image place n m);
}

-- the CRC goes on over a piece that was read behind reads
pub IsCrcOf-more : {old mid : FlashState} {place n m start so_far sum : ℕ} {piece : List ℕ} → OnlyReads old mid → IsCrcOf old place n start so_far → IsSeen mid (place + n) m piece → sum ≡ crc_from so_far piece → IsCrcOf old place (n + m) start sum
IsCrcOf-more {start = start} {piece = piece} reads crc seen is = record {
  bytes = crc.bytes ++ piece;
  seen = IsSeen-more crc.seen (IsSeen-since reads seen);
  is = is ∙ ap (λ (k : ℕ). crc_from k piece) crc.is ∙ sym (crc_from-append start crc.bytes piece);
}

-- bytes spell one header
pub one_head : (prog room : ℕ) (bytes : List ℕ) (a b : Header) → IsHead prog room bytes a → IsHead prog room bytes b → a ≡ b
one_head prog room bytes a b is_a is_b =
    let same : header_bytes a ≡ header_bytes b = sym is_a.spelled ∙ is_b.spelled in
    let sizes : SameSizes a b = same_sizes a b is_a.valid is_b.valid same in
    let fields : HasFields (header_bytes a) b = header_has_fields (header_bytes a) b same in
    let crc : a.crc ≡ b.crc = same_u32 a.crc b.crc is_a.fits is_b.fits (sym (spelling_has_fields a).crc ∙ fields.crc) in
    λ i. record { flags = sizes.flags i; key_size = sizes.key_size i; value_size = sizes.value_size i; crc = crc i }
