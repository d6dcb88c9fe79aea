-- What a remove finds, and what its copies leave.
use Rattle.std.proofs.Common.{◌≡◌, ℕ, ◌<◌, ◌≤◌, ◌+◌, ◌%◌, ◌==◌, ◌||◌, Bool, true, false, not, nat_lt, List, length, refl, sym, ◌∙◌, ap, subst, arith}
use Rattle.std.specs.Prelude.{IsTrue, MatchBool, Option, Some, None, Ok, is_none}
use Rattle.std.specs.Option.{option_map_or}
use Rattle.std.specs.FinMap as map
use Rattle.std.proofs.lemmas.Bool.Decides.{nat_tests}
use mathlib.Core.Bool.{false≢true}
use Rattle.base_core.specs.Sizes.{record_size}
use Rattle.flash_core.specs.declared.geometry.Geometry.{Geometry}
use Rattle.flash_core.specs.Runs.{Done}
use Rattle.flash_core.proofs.KeptLaws.{told_before}
use Rattle.kv_model.specs.FlaggedMap.{Stored}
use Rattle.kv_model.specs.Flags.{is_write_once}
use Rattle.kv_model.specs.Keys.{is_key}
use Rattle.kv_model.specs.LogStep.{SameButOther, removal}
use Rattle.kv_model.specs.Opening.{Log}
use Rattle.kv_model.specs.Write.{Write}
use Rattle.record_core.specs.declared.header.Header.{Header}
use Rattle.record_core.specs.Log.{IsRecordAt}
use Rattle.area_log.specs.Areas.{end_of, first_place}
use Rattle.area_log.specs.Listing.{listed}
use Rattle.ram_table.specs.declared.table.Place.{Place}
use Rattle.tdb_mount.specs.Index.{IsTableOf, places_of, record_of}
use Rattle.tdb_mount.specs.Keys.{keys_in}
use Rattle.tdb_read.specs.Reads.{GivesHeader, HasAt, IsFound, IsLocated, map_in, offset_in}
use Rattle.tdb_read.specs.Views.{HasOnlyRead, IsLogOf, IsReady, IsSafe, LogPart, LogView, area_in, records_in}
use Rattle.tdb_read.proofs.TableLemmas.{located, told_table}
use Rattle.tdb_write.specs.Changes.{Changes, LogStands, unchanged}
use Rattle.tdb_write.specs.Copying.{IsPrepared, IsRenewed, SameButSpare, without}
use Rattle.tdb_write.specs.Writing.{IsAppended}
use Rattle.tdb_write.proofs.CollectedLemmas.{renewed_then, step_more}
use Rattle.tdb_write.proofs.StayLemmas.{KeysStay, keys_stay, place_stays}
use Rattle.plain_store.specs.Begun.{IsRemoveBegun, must_collect}
use Rattle.plain_store.specs.Removing.{IsMissing, IsThere, Readies, RemovesFrom}
use Rattle.plain_store.proofs.FeedLemmas.{nothing_done}

-- ---- what is found

of_true : (b : Bool) (P Q : Type 0) → b ≡ true → MatchBool b P Q → P
of_true true P Q is one = one
of_true false P Q is one = absurd (false≢true is)

of_false : (b : Bool) (P Q : Type 0) → not b ≡ true → MatchBool b P Q → Q
of_false false P Q is one = one
of_false true P Q is one = absurd (false≢true is)

so : (b : Bool) → not b ≡ false → b ≡ true
so true is = refl
so false is = absurd (false≢true (sym is))

pub placed_so : (place : Place) → not place.found ≡ false → place.found ≡ true
placed_so place is = so place.found is

-- whether a value may be set once only, by its flags
pub once_if : (flags : ℕ) → flags % 2 ≡ 1 → is_write_once flags ≡ true
once_if flags is = grind (arith, nat_tests, is)

pub never_if : (flags : ℕ) → (flags % 2 ≡ 1 → ⊥) → is_write_once flags ≡ false
never_if flags not = by_test (flags % 2 == 1) refl
  where
    is_one : (n : ℕ) → (n == 1) ≡ true → n ≡ 1
    is_one n is = grind (arith, nat_tests)

    by_test : (b : Bool) → (flags % 2 == 1) ≡ b → (flags % 2 == 1) ≡ false
    by_test true is = absurd (not (is_one (flags % 2) is))
    by_test false is = is

pub missing_if : (v : LogView) (key : List ℕ) (place : Place) → IsFound v key place → not place.found ≡ true → IsMissing v key
missing_if v key place found none = λ image told. of_false place.found _ _ none (found.located image told).map_is

pub there_if : (old mid new : LogView) (key : List ℕ) (place : Place) (header : Header) (once : Bool) → HasOnlyRead old mid → IsFound old key place → place.found ≡ true
    → GivesHeader mid new (offset_in mid.log place.at) (Ok header) → is_write_once header.flags ≡ once → IsThere old key once
there_if old mid new key place header once read found there gives is = λ image told.
    let has : HasAt old.device.geometry image old.log key (offset_in old.log place.at) = of_true place.found _ _ there (found.located image told).map_is in
    let r : Write = record_of key has.stored in
    let stands : IsRecordAt mid.device.geometry.prog image (offset_in mid.log place.at) r =
    subst (λ (g : Geometry). IsRecordAt g.prog image (offset_in mid.log place.at) r) (sym read.device.geometry)
    (subst (λ (l : LogPart). IsRecordAt old.device.geometry.prog image (offset_in l place.at) r) (sym read.log) has.kept.stands) in
    let says = gives image (read.device.image ∙ told) r stands in (
      ap is_none has.present,
      ap (λ (o : Option Stored). is_write_once (option_map_or (λ (s : Stored). s.flags) o 0)) has.present ∙ ap is_write_once (sym says.flags) ∙ is,
    )

pub there_since : (old new : LogView) (key : List ℕ) (once : Bool) → HasOnlyRead old new → IsThere old key once → IsThere new key once
there_since old new key once read is = λ image told.
    subst (λ (g : Geometry). (is_none (map.get (map_in g new.log image) key) ≡ false) × (is_write_once (option_map_or (λ (s : Stored). s.flags) (map.get (map_in g new.log image) key) 0) ≡ once)) (sym read.device.geometry)
    (subst (λ (l : LogPart). (is_none (map.get (map_in old.device.geometry l image) key) ≡ false) × (is_write_once (option_map_or (λ (s : Stored). s.flags) (map.get (map_in old.device.geometry l image) key) 0) ≡ once)) (sym read.log)
    (is image (sym read.device.image ∙ told)))

-- ---- what copies leave

module _ (old new : LogView) (ready : IsReady old) (changes : Changes old new unchanged SameButOther Done) (same : SameButSpare old.log new.log) where
  abbrev g : Geometry
  g = old.device.geometry

  abbrev left_log : LogPart
  left_log = record old.log { spare = new.log.spare }

  geometry : new.device.geometry ≡ g
  geometry = changes.runs.kept.geometry

  safe_now : IsSafe g left_log
  safe_now = subst (λ (x : Geometry). IsSafe x left_log) geometry (subst (λ (l : LogPart). IsSafe new.device.geometry l) same changes.ready.safe)

  located_left : (image left : List ℕ) → old.device.image ≡ Some image → new.device.image ≡ Some left → (key : List ℕ) (place : Place) → IsFound old key place → IsLocated g left left_log key place
  located_left image left told now key place found =
      let is_now : IsLogOf g left left_log = subst (λ (x : Geometry). IsLogOf x left left_log) geometry (subst (λ (l : LogPart). IsLogOf new.device.geometry left l) same (changes.ready.stands left now)) in
      let records : records_in g left_log left ≡ records_in g old.log image =
      ap (λ (l : LogPart). records_in g l left) (sym same) ∙ ap (λ (l : Log). l.records) (changes.log_is image told left now) in
      let keys : KeysStay (keys_in g (area_in g old.log) image) old.log.table.entries (keys_in g (area_in g old.log) left) old.log.table.entries =
      keys_stay old.log.hash_bits (keys_in g (area_in g old.log) image) (keys_in g (area_in g old.log) left) (places_of (listed g.prog (first_place g (area_in g old.log)) (records_in g old.log image))) old.log.table.entries
      (told_table g old.log image ready.safe (ready.stands image told))
      (subst (λ (rs : List Write). IsTableOf old.log.hash_bits (keys_in g (area_in g old.log) left) (places_of (listed g.prog (first_place g (area_in g old.log)) rs)) old.log.table.entries) records
      (told_table g left_log left safe_now is_now)) in
      located g left_log left safe_now is_now key place
      (place_stays old.log.hash_bits (keys_in g (area_in g old.log) image) old.log.table.entries (keys_in g (area_in g old.log) left) old.log.table.entries key place refl keys found.inside found.there
      (found.located image told).place_is) found.there

  -- each key stands in the table where it stood
  pub found_left : (key : List ℕ) (place : Place) → IsFound old key place → IsFound new key place
  found_left key place found = record {
    inside = subst (λ (l : LogPart). place.at ≤ length l.table.entries) (sym same) found.inside;
    there = subst (λ (l : LogPart). place.found ≡ true → place.at < length l.table.entries) (sym same) found.there;
    located = λ left now.
        let was = told_before changes.runs.kept now in
        subst (λ (x : Geometry). IsLocated x left new.log key place) (sym geometry)
        (subst (λ (l : LogPart). IsLocated g left l key place) (sym same) (located_left was.0 left was.1 now key place found));
  }

  collects_left : (key : List ℕ) (b : Bool) → must_collect old key ≡ b → must_collect new key ≡ b
  collects_left key b is =
      subst (λ (x : Geometry). (not new.log.is_clean || nat_lt (end_of (area_in x new.log)) (new.log.end + record_size x.prog (length key) 0)) ≡ b) (sym geometry)
      (subst (λ (l : LogPart). (not l.is_clean || nat_lt (end_of (area_in g l)) (l.end + record_size g.prog (length key) 0)) ≡ b) (sym same) is)

  -- a remove whose copies were made
  pub copied_begun : (key : List ℕ) (place : Place) (end : ℕ) → IsTrue (is_key key) → IsFound old key place → place.found ≡ true → must_collect old key ≡ true → IsPrepared new end key
      → IsRemoveBegun new key place (Some end)
  copied_begun key place end valid found there collects prepared =
      record { valid = valid; found = found_left key place found; there = there; readied = (collects_left key true collects, prepared) }

-- a remove that collects nothing
pub uncopied_begun : (v : LogView) (key : List ℕ) (place : Place) → IsTrue (is_key key) → IsFound v key place → place.found ≡ true → must_collect v key ≡ false → IsRemoveBegun v key place None
uncopied_begun v key place valid found there short = record { valid = valid; found = found; there = there; readied = short }

-- ---- what readying a remove does to the log

pub readies_none : (v : LogView) → IsReady v → (key : List ℕ) → must_collect v key ≡ false → Changes v v unchanged (Readies v key) Done
readies_none v ready key short = step_more v v LogStands (Readies v key) unchanged Done
    (λ a b is. subst (λ (c : Bool). MatchBool c (SameButOther a b) (LogStands a b)) (sym short) is) (nothing_done v ready)

pub readies_copies : (v w : LogView) (key : List ℕ) → must_collect v key ≡ true → Changes v w unchanged SameButOther Done → Changes v w unchanged (Readies v key) Done
readies_copies v w key collects changes = step_more v w SameButOther (Readies v key) unchanged Done
    (λ a b is. subst (λ (c : Bool). MatchBool c (SameButOther a b) (LogStands a b)) (sym collects) is) changes

-- the other area alone may have changed
pub readied_stays : (v : LogView) (key : List ℕ) (a b : Log) → Readies v key a b → SameButOther a b
readied_stays v key a b = by_test (must_collect v key)
  where
    by_test : (t : Bool) → MatchBool t (SameButOther a b) (LogStands a b) → SameButOther a b
    by_test true same = same
    by_test false stands = stands ∙ (λ i. record a { other = (sym stands i).other })

-- a remove that was readied and then finished
pub readied_then : (v : LogView) (key : List ℕ) (a b c : Log) → Readies v key a b → RemovesFrom v key b c → RemovesFrom v key a c
readied_then v key a b c = by_test (must_collect v key)
  where
    by_test : (t : Bool) → MatchBool t (SameButOther a b) (LogStands a b) → MatchBool t (IsRenewed v.log.hash_bits (without key) b c) (IsAppended (removal key) b c)
        → MatchBool t (IsRenewed v.log.hash_bits (without key) a c) (IsAppended (removal key) a c)
    by_test true same step = renewed_then v.log.hash_bits (without key) a b c same step
    by_test false stands step = subst (λ (l : Log). IsAppended (removal key) l c) stands step
