-- What the parts of a finish do to map and log.
use Rattle.std.proofs.Common.{rules, ◌≡◌, ℕ, ◌+◌, ◌-◌, ◌≤◌, ◌<◌, ◌==◌, ◌||◌, if◌then◌else◌, Bool, true, false, not, nat_lt, List, [], length, inr, refl, sym, ◌∙◌, ap, subst, arith}
use Rattle.std.specs.Prelude.{IsTrue, MatchBool, Option, Some, None}
use Rattle.std.specs.FinMap as map
use Rattle.std.proofs.lemmas.Bool.Decides.{nat_tests}
use Rattle.base_core.specs.Sizes.{master_size, record_size}
use Rattle.flash_core.specs.Runs.{Ending}
use Rattle.flash_core.specs.Sizes.{area_size}
use Rattle.flash_core.specs.State.{FlashState}
use Rattle.inc_set.specs.declared.open_set.OpenSet.{OpenSet as Writer}
use Rattle.inc_set.specs.Sets.{record_of}
use Rattle.kv_model.specs.FlaggedMap.{FlaggedMap}
use Rattle.kv_model.specs.Flags.{is_plain_flags, remove_flags}
use Rattle.kv_model.specs.Keys.{is_key, is_prefix}
use Rattle.kv_model.specs.LogStep.{IsCollected, LogSteps, appended, collects, removal, spent}
use Rattle.kv_model.specs.Opening.{Log}
use Rattle.kv_model.specs.Operations.{Finish}
use Rattle.kv_model.specs.Write.{applied}
use Rattle.area_log.specs.Areas.{end_of}
use Rattle.ram_table.specs.declared.table.Place.{Place}
use Rattle.record_core.specs.Header.{IsHeader}
use Rattle.store_note.specs.declared.noted.NotedBytes.{NotedBytes}
use Rattle.tdb_read.specs.States.{constants_of, log_in, state_in}
use Rattle.tdb_read.specs.Views.{IsReady, LogPart, LogView, area_in, records_in}
use Rattle.tdb_write.specs.Changes.{Changes}
use Rattle.tdb_write.specs.Copying.{IsPrepared, IsRenewed, without}
use Rattle.tdb_write.specs.Writing.{IsAppended, SameButUnit}
use Rattle.tdb_write.proofs.CollectedLemmas.{end_takes}
use Rattle.plain_store.specs.Begun.{IsBegunBy, IsReadied}
use Rattle.plain_store.specs.Sets.{open_of, opened_by}
use Rattle.plain_store.specs.Steps.{FinishesTo, finished_by}
use Rattle.plain_store.specs.declared.active.ActiveSet.{ActiveSet}
use Rattle.plain_store.specs.declared.active.Begun.{Begun}
use Rattle.plain_store.specs.declared.active.Begun.TheVariants.{Remove, Set}

-- ---- whether a log is collected before a record

same_test : (a b c d : ℕ) → (a < b → c < d) → (c < d → a < b) → nat_lt a b ≡ nat_lt c d
same_test a b c d to from = by_test (nat_lt a b) (nat_lt c d) refl refl
  where
    is_less : (x y : ℕ) → nat_lt x y ≡ true → x < y
    is_less x y is = grind (arith, nat_tests)

    no_less : (x y : ℕ) → nat_lt x y ≡ false → y ≤ x
    no_less x y is = grind (arith, nat_tests)

    by_test : (s t : Bool) → nat_lt a b ≡ s → nat_lt c d ≡ t → nat_lt a b ≡ nat_lt c d
    by_test true true first second = first ∙ sym second
    by_test false false first second = first ∙ sym second
    by_test true false first second = absurd (omega (arith, to (is_less a b first), no_less c d second))
    by_test false true first second = absurd (omega (arith, from (is_less c d second), no_less a b first))

-- the rules' test for a record of this size is that of the place behind it
pub collects_by_end : (v : LogView) → IsReady v → (image : List ℕ) → v.device.image ≡ Some image → (key : List ℕ) (size : ℕ)
    → collects (constants_of v.device.geometry v.log) (log_in v.device.geometry v.log image) key size
    ≡ (not v.log.is_clean || nat_lt (end_of (area_in v.device.geometry v.log)) (v.log.end + record_size v.device.geometry.prog (length key) size))
collects_by_end v ready image told key size =
    let end = end_takes v ready 0 image told in
    let fits = ready.safe.valid.master_fits in
    ap (λ (b : Bool). not v.log.is_clean || b)
    (same_test (area_size v.device.geometry - master_size v.device.geometry.prog) (spent v.device.geometry.prog (records_in v.device.geometry v.log image) + record_size v.device.geometry.prog (length key) size)
    (end_of (area_in v.device.geometry v.log)) (v.log.end + record_size v.device.geometry.prog (length key) size)
    (λ less. omega (arith, less, end, fits)) (λ less. omega (arith, less, end, fits)))

-- ---- a finish, to the log

module _ (v : LogView) (ready : IsReady v) (image : List ℕ) (told : v.device.image ≡ Some image) where
  abbrev now : Log
  now = log_in v.device.geometry v.log image

  -- the log follows as the rules say
  follows : (owner : ℕ) (begun : Begun) → IsBegunBy v begun → (l : Log) → FinishesTo v begun now l
      → LogSteps (constants_of v.device.geometry v.log) (state_in v.device.geometry v.log (Some (opened_by owner begun)) image) now l Finish
  follows owner (Set set place fed) is l step = step
  follows owner (Remove key place None) is l step =
      subst (λ (b : Bool). MatchBool b (IsCollected v.log.hash_bits (map.remove (state_in v.device.geometry v.log None image).primary key) [] now l) (l ≡ appended now (removal key)))
      (sym (collects_by_end v ready image told key 0 ∙ is.readied)) step
  follows owner (Remove key place (Some end)) is l step =
      subst (λ (b : Bool). MatchBool b (IsCollected v.log.hash_bits (map.remove (state_in v.device.geometry v.log None image).primary key) [] now l) (l ≡ appended now (removal key)))
      (sym (collects_by_end v ready image told key 0 ∙ is.readied.0)) step

  pub finish_follows : (active : ActiveSet) → IsBegunBy v active.begun → (l : Log) → FinishesTo v active.begun now l
      → LogSteps (constants_of v.device.geometry v.log) (state_in v.device.geometry v.log (Some (open_of active)) image) now l Finish
  finish_follows active is l step = follows active.owner active.begun is l step

-- ---- a finish, to the map

same_flags : (flags : ℕ) → is_plain_flags flags ≡ true → (flags == remove_flags) ≡ false
same_flags flags plain = grind (arith, nat_tests)

-- the record of a set that is whole has the effect of its finish
pub applied_set : (flags : ℕ) (key value : List ℕ) → is_plain_flags flags ≡ true
    → applied (record { flags = flags; key = key; value = value }) ≡ (λ (m : FlaggedMap). map.insert m key (record { flags = flags; bytes = value }))
applied_set flags key value plain = λ i m. if same_flags flags plain i then map.remove m key else map.insert m key (record { flags = flags; bytes = value })

module _ (v w : LogView) (owner : ℕ) (begun : Begun) (ending : Ending) where
  abbrev Finishes : Type 0
  Finishes = Changes v w (finished_by (record { owner = owner; begun = begun })) (FinishesTo v begun) ending

  -- of what was begun so
  as_begun : (b : Begun) → begun ≡ b → Changes v w (finished_by (record { owner = owner; begun = b })) (FinishesTo v b) ending → Finishes
  as_begun b is changes = subst (λ (x : Begun). Changes v w (finished_by (record { owner = owner; begun = x })) (FinishesTo v x) ending) (sym is) changes

  pub finishes_set : (set : Writer) (place : Place) (fed : NotedBytes) → begun ≡ Set set place fed → IsBegunBy v begun
      → Changes v w (applied (record_of set fed.bytes)) (IsAppended (record_of set fed.bytes)) ending → Finishes
  finishes_set set place fed is begun_is changes =
      let its = subst (IsBegunBy v) is begun_is in
      as_begun (Set set place fed) is
      (subst (λ (f : FlaggedMap → FlaggedMap). Changes v w f (IsAppended (record_of set fed.bytes)) ending) (applied_set set.flags set.key fed.bytes its.flags) changes)

  pub finishes_copied : (key : List ℕ) (place : Place) (copied : Option ℕ) (end : ℕ) → copied ≡ Some end → begun ≡ Remove key place copied
      → Changes v w (without key) (IsRenewed v.log.hash_bits (without key)) ending → Finishes
  finishes_copied key place copied end copied_is is changes = as_begun (Remove key place (Some end)) (is ∙ ap (Remove key place) copied_is) changes

  pub finishes_removed : (key : List ℕ) (place : Place) (copied : Option ℕ) → copied ≡ None → begun ≡ Remove key place copied
      → Changes v w (applied (removal key)) (IsAppended (removal key)) ending → Finishes
  finishes_removed key place copied copied_is is changes = as_begun (Remove key place None) (is ∙ ap (Remove key place) copied_is) changes

-- ---- a record that was begun, which changes nothing but a buffer

module _ {F : Type 0} (state : F → FlashState) (f h : F) (log mid : LogPart) (same_flash : h ≡ f) (same : SameButUnit log mid)
    (w : LogView) (after : FlaggedMap → FlaggedMap) (Step : Log → Log → Type 0) (ending : Ending) where
  without_unit : Changes (record { device = state f; log = record log { unit = mid.unit } }) w after Step ending → Changes (record { device = state f; log = log }) w after Step ending
  without_unit is = record { runs = is.runs; callers = record { hash_bits = is.callers.hash_bits; iterators = is.callers.iterators }; ready = is.ready; map_is = is.map_is; log_is = is.log_is }

  pub since_begun : Changes (record { device = state h; log = mid }) w after Step ending → Changes (record { device = state f; log = log }) w after Step ending
  since_begun is = without_unit
      (subst (λ (l : LogPart). Changes (record { device = state f; log = l }) w after Step ending) same
      (subst (λ (x : F). Changes (record { device = state x; log = mid }) w after Step ending) same_flash is))

-- ---- a remove

-- the sizes of a key
pub key_sizes : (bytes : List ℕ) → IsTrue (is_key bytes) → (1 ≤ length bytes) × (length bytes ≤ 128)
unfolding is_key is_prefix
key_sizes bytes valid = search rules

pub remove_header : (key : List ℕ) → IsTrue (is_key key) → IsHeader remove_flags (length key) 0
remove_header key valid = record {
  kind = inr (inr refl);
  key_least = (key_sizes key valid).0;
  key_most = (key_sizes key valid).1;
  value_most = omega arith;
  remove_is_empty = λ removed. refl;
}

pub valid_by : (v : LogView) (begun : Begun) (key : List ℕ) (place : Place) (copied : Option ℕ) → begun ≡ Remove key place copied → IsBegunBy v begun → IsTrue (is_key key)
valid_by v begun key place copied is begun_is = (subst (IsBegunBy v) is begun_is).valid

pub prepared_by : (v : LogView) (begun : Begun) (key : List ℕ) (place : Place) (copied : Option ℕ) (end : ℕ) → copied ≡ Some end → begun ≡ Remove key place copied → IsBegunBy v begun
    → IsPrepared v end key
prepared_by v begun key place copied end copied_is is begun_is = (subst (IsReadied v key) copied_is (subst (IsBegunBy v) is begun_is).readied).1
