-- What the headers of a log's live records add up to.
use Rattle.std.proofs.Common.{◌≡◌, ◌⊎◌, ℕ, zero, suc, ◌+◌, ◌-◌, ◌<◌, ◌≤◌, ◌^◌, min, true, false, List, [], ◌∷◌, ◌++◌, length, take, inl, inr, refl, sym, ◌∙◌, ap, subst, arith}
use Rattle.std.specs.Prelude.{nat_le, Option, Some, Result, Ok, Err, IsErrAnd, MatchResult}
use Rattle.std.specs.Option.{ForSome}
use Rattle.std.proofs.lemmas.Bool.Decides.{nat_tests}
use Rattle.std.proofs.lemmas.List.{take_all, take_more}
use Rattle.flash_core.specs.declared.geometry.Geometry.{Geometry}
use Rattle.flash_core.specs.Sizes.{IsValid, area_size}
use Rattle.flash_core.specs.State.{FlashState}
use Rattle.flash_core.proofs.GeometryLaws.{prog_positive, size-areas}
use Rattle.flash_core.proofs.KeptLaws.{OnlyReads-trans}
use Rattle.kv_model.specs.declared.error.KvError.{KvError}
use Rattle.kv_model.specs.declared.error.KvError.TheVariants.{MediaFull}
use Rattle.kv_model.specs.LogStep.{spent}
use Rattle.kv_model.specs.Sizes.{room_of, used}
use Rattle.kv_model.specs.Write.{Write}
use Rattle.record_core.specs.declared.header.Header.{Header}
use Rattle.record_core.specs.Log.{IsRecordAt, extent}
use Rattle.area_log.specs.Areas.{end_of, first_place}
use Rattle.ram_table.specs.declared.table.Entry.{Entry}
use Rattle.ram_table.specs.Table.{entry_at}
use Rattle.tdb_mount.specs.Keys.{keys_in}
use Rattle.tdb_read.specs.Reads.{IsReadRefusal, OfRecord, SaysOf, map_in, offset_in}
use Rattle.tdb_read.specs.Records.{record_at}
use Rattle.tdb_read.specs.Views.{HasOnlyRead, IsReady, LogPart, LogView, area_in, records_in}
use Rattle.tdb_read.proofs.RecordLemmas.{record_is}
use Rattle.tdb_read.proofs.TableLemmas.{all_records, holds_at}
use Rattle.tdb_write.specs.Changes.{HasSpaceFor, IsFull}
use Rattle.tdb_write.specs.Space.{IsLiveSize}
use Rattle.tdb_write.proofs.CollectedLemmas.{end_takes}
use Rattle.tdb_write.proofs.EntryLemmas.{log_entries}
use Rattle.tdb_write.proofs.LiveLemmas.{live_of, live_used, used_most}

spent_more : (prog : ℕ) (image : List ℕ) (es : List Entry) (e : Entry) → spent prog (live_of prog image (es ++ e ∷ [])) ≡ spent prog (live_of prog image es) + extent prog (record_at prog image e.offset)
spent_more prog image [] e = omega arith
spent_more prog image (f ∷ es) e = omega (arith, spent_more prog image es e)

spent_part : (prog : ℕ) (image : List ℕ) (n : ℕ) (es : List Entry) → spent prog (live_of prog image (take n es)) ≤ spent prog (live_of prog image es)
spent_part prog image zero es = omega arith
spent_part prog image (suc n) [] = omega arith
spent_part prog image (suc n) (e ∷ es) = omega (arith, spent_part prog image n es)

-- what the first entries' records take is the sum so far
pub IsSum : LogView → ℕ → ℕ → Type 0
IsSum v at sum = ForSome v.device.image (λ image. sum ≡ spent v.device.geometry.prog (live_of v.device.geometry.prog image (take at v.log.table.entries)))

module _ (v : LogView) (ready : IsReady v) where
  prog : ℕ
  prog = v.device.geometry.prog

  all_used : (image : List ℕ) → v.device.image ≡ Some image → spent v.device.geometry.prog (live_of v.device.geometry.prog image v.log.table.entries) ≡ used v.device.geometry.prog (map_in v.device.geometry v.log image)
  all_used image told = live_used v.device.geometry.prog (prog_positive v.device.geometry ready.safe.valid) v.log.hash_bits image v.log.end (keys_in v.device.geometry (area_in v.device.geometry v.log) image)
      (map_in v.device.geometry v.log image) v.log.table.entries (log_entries v.device.geometry image v.log ready.safe (ready.stands image told))

  -- no map uses more than an area has
  pub used_small : (image : List ℕ) → v.device.image ≡ Some image → used v.device.geometry.prog (map_in v.device.geometry v.log image) ≤ room_of v.device.geometry.prog (area_size v.device.geometry)
  used_small image told =
      omega (arith, used_most v.device.geometry.prog (records_in v.device.geometry v.log image), end_takes v ready 0 image told, (all_records v.device.geometry v.log image ready.safe (ready.stands image told)).inside)

  pub area_small : area_size v.device.geometry ≤ 16777216
  area_small = omega (arith, size-areas v.device.geometry, ready.safe.valid.size_limit)

  pub sum_more : (at size sum : ℕ) → at < length v.log.table.entries → OfRecord v.device (offset_in v.log at) (λ r. size ≡ extent v.device.geometry.prog r) → IsSum v at sum → IsSum v (at + 1) (min (sum + size) (2 ^ 32 - 1))
  unfolding IsSum
  sum_more at size sum lt is was image told =
      let p : ℕ = v.device.geometry.prog in
      let here = holds_at v.device.geometry v.log image ready.safe (ready.stands image told) at lt in
      let rest : take (at + 1) v.log.table.entries ≡ take at v.log.table.entries ++ entry_at v.log.table.entries at ∷ [] = take_more v.log.table.entries at (record { hash = 0; offset = 0 }) lt in
      let size_is : size ≡ extent p (record_at p image (offset_in v.log at)) =
      is image told here.this here.stands ∙ sym (ap (extent p) (record_is p (prog_positive v.device.geometry ready.safe.valid) image (offset_in v.log at) here.this here.stands)) in
      let more = spent_more p image (take at v.log.table.entries) (entry_at v.log.table.entries at) in
      let next : spent p (live_of p image (take (at + 1) v.log.table.entries)) ≡ sum + size = ap (λ (es : List Entry). spent p (live_of p image es)) rest ∙ omega (arith, more, was image told, size_is) in
      omega (arith, next, spent_part p image (at + 1) v.log.table.entries, all_used image told, used_small image told, area_small)

  pub sum_none : IsSum v 0 0
  unfolding IsSum
  sum_none image told = refl

  pub sum_all : (n sum : ℕ) → n ≡ length v.log.table.entries → IsSum v n sum → IsLiveSize v sum
  unfolding IsSum
  sum_all n sum is was image told = was image told ∙ ap (λ (k : ℕ). spent v.device.geometry.prog (live_of v.device.geometry.prog image (take k v.log.table.entries))) is
      ∙ ap (λ (es : List Entry). spent v.device.geometry.prog (live_of v.device.geometry.prog image es)) (take_all (length v.log.table.entries) v.log.table.entries (omega arith)) ∙ all_used image told

  -- ---- the answers

  pub space_behind : (size : ℕ) → nat_le (v.log.end + size) (end_of (area_in v.device.geometry v.log)) ≡ true → HasSpaceFor v size
  space_behind size is image told =
      omega (arith, is_le (v.log.end + size) (end_of (area_in v.device.geometry v.log)) is, used_most v.device.geometry.prog (records_in v.device.geometry v.log image), end_takes v ready 0 image told)
    where
      is_le : (a b : ℕ) → nat_le a b ≡ true → a ≤ b
      is_le a b is = grind (arith, nat_tests)

  -- a count that may not fit
  pub need_is : (size live need : ℕ) → size < 2 ^ 31 → IsLiveSize v live → need ≡ min (live + size) (2 ^ 32 - 1) → ForSome v.device.image (λ image. need ≡ used v.device.geometry.prog (map_in v.device.geometry v.log image) + size)
  need_is size live need small is by image told = omega (arith, is image told, used_small image told, area_small, by, small)

  pub space_by_count : (size live need room : ℕ) → size < 2 ^ 31 → IsLiveSize v live → need ≡ min (live + size) (2 ^ 32 - 1) → room ≡ room_of v.device.geometry.prog (area_size v.device.geometry) → need ≤ room → HasSpaceFor v size
  space_by_count size live need room small is need_by room_is fits image told = omega (arith, need_is size live need small is need_by image told, room_is, fits)

  pub full_by_count : (size live need room : ℕ) → size < 2 ^ 31 → IsLiveSize v live → need ≡ min (live + size) (2 ^ 32 - 1) → room ≡ room_of v.device.geometry.prog (area_size v.device.geometry) → room < need → IsFull v size (MediaFull need room)
  full_by_count size live need room small is need_by room_is more = record {
    need = need;
    is = ap (MediaFull need) room_is;
    over = omega (arith, room_is, more);
    told = need_is size live need small is need_by;
  }

-- what was read of a record behind other reads
pub size_since : (old mid : LogView) → HasOnlyRead old mid → (at size : ℕ) → OfRecord mid.device (offset_in mid.log at) (λ r. size ≡ extent mid.device.geometry.prog r) → OfRecord old.device (offset_in old.log at) (λ r. size ≡ extent old.device.geometry.prog r)
size_since old mid reads at size is image told r stands =
    let same : mid.device.geometry ≡ old.device.geometry = reads.device.geometry in
    let place : offset_in mid.log at ≡ offset_in old.log at = ap (λ (l : LogPart). offset_in l at) reads.log in
    is image (reads.device.image ∙ told) r (subst (λ (x : Geometry). IsRecordAt x.prog image (offset_in mid.log at) r) (sym same) (subst (λ (p : ℕ). IsRecordAt old.device.geometry.prog image p r) (sym place) stands))
    ∙ ap (λ (x : Geometry). extent x.prog r) same

pub reads_more : (a b c : LogView) → HasOnlyRead a b → HasOnlyRead b c → HasOnlyRead a c
reads_more a b c first second = record { device = OnlyReads-trans first.device second.device; log = second.log ∙ first.log }

pub match_handed : {U : Type 0} (P : U → Type 0) (Q : KvError → Type 0) (result : Result U KvError) (e : KvError) → IsErrAnd result (λ x. x ≡ e) → Q e → MatchResult result P Q
match_handed P Q (Ok x) e is holds = absurd is
match_handed P Q (Err x) e is holds = subst Q (sym is) holds
