-- A log that is collected: copies, and then their master record.
use Rattle.std.proofs.Common.{◌≡◌, ◌≢◌, ◌⊎◌, ℕ, ◌+◌, ◌-◌, ◌%◌, ◌^◌, ◌<◌, ◌≤◌, Bool, true, false, List, [], ◌∷◌, ◌++◌, length, inl, inr, ⊎_elim, refl, sym, ◌∙◌, ap, subst, arith, append-nil}
use Rattle.std.specs.Prelude.{◌||◌, not, nat_le, nat_lt, IsTrue, MatchBool, Option, Some, None, Result, Ok, Err, IsErrAnd, OnOk}
use Rattle.std.specs.FinMap as map
use Rattle.std.specs.Option.{ForSome}
use Rattle.std.proofs.lemmas.List.Elements.{All-nil}
use Rattle.std.proofs.lemmas.Bool.Decides.{nat_tests}
use Rattle.flash_core.specs.declared.geometry.Geometry.{Geometry}
use Rattle.flash_core.specs.Runs.{Done, Ending, OutOfMemory, ReadFailed, Refused, RunsBy, WriteFailed}
use Rattle.flash_core.specs.Sizes.{IsValid, area_size}
use Rattle.flash_core.specs.State.{FlashState}
use Rattle.flash_core.proofs.GeometryLaws.{prog_positive}
use Rattle.flash_core.proofs.KeptLaws.{told_after}
use Rattle.flash_core.proofs.RunLaws.{runs_end, runs_none, runs_weakened}
use Rattle.kv_model.specs.declared.error.KvError.{KvError}
use Rattle.kv_model.specs.declared.error.KvError.TheVariants.{Memory, ReadFault, WriteFault}
use Rattle.kv_model.specs.FlaggedMap.{FlaggedMap}
use Rattle.kv_model.specs.LogStep.{AreLive, SameButOther, spent}
use Rattle.kv_model.specs.Opening.{Log}
use Rattle.kv_model.specs.Sizes.{room_of, used}
use Rattle.kv_model.specs.Write.{Write, map_of}
use Rattle.kv_model.specs.Flags.{remove_flags}
use Rattle.kv_model.proofs.UsedLemmas.{used-empty}
use Rattle.record_core.specs.CutMoments.{MountsToOne}
use Rattle.record_core.proofs.LogLemmas.{extent-positive}
use Rattle.record_core.proofs.RenewalCuts.{cut_weakened}
use Rattle.ram_table.specs.Table.{KeepsRoom, TableState}
use Rattle.record_core.specs.Endings.{kv_ended, kv_ending}
use Rattle.area_log.specs.Areas.{end_of, first_place}
use Rattle.tdb_read.specs.Reads.{map_in}
use Rattle.tdb_read.specs.States.{log_in}
use Rattle.tdb_read.specs.Views.{IsLogOf, IsReady, LogPart, LogView, area_in, records_in}
use Rattle.tdb_read.proofs.LawLemmas.{log_mounts}
use Rattle.tdb_read.proofs.TableLemmas.{all_records}
use Rattle.tdb_write.specs.Changes.{ByEnding, Changes, HasSpaceFor, IsEmptied, LeavesOneOf, MakesRoom, unchanged}
use Rattle.tdb_write.specs.Copying.{HasTurned, IsRenewed, SameButSpare, completed, emptied}
use Rattle.tdb_write.proofs.JoinLemmas.{callers_then, changes_then}
use Rattle.tdb_write.proofs.LiveLemmas.{live_spent, records_spent}

-- ---- what is said of a call by how it ended

by_more : (ending : Ending) {P Q P2 Q2 : Type 0} → (P → P2) → (Q → Q2) → ByEnding ending P Q → ByEnding ending P2 Q2
by_more Done f q is = f is
by_more ReadFailed f q is = q is
by_more WriteFailed f q is = is
by_more OutOfMemory f q is = q is
by_more Refused f q is = q is

no_done : (e : KvError) → kv_ending e ≡ Done → ⊥
no_done ReadFault is = cc
no_done WriteFault is = cc
no_done Memory is = cc
no_done e is = cc

undone : (ending : Ending) (P P2 Q : Type 0) → (ending ≡ Done → ⊥) → ByEnding ending P Q → ByEnding ending P2 Q
undone Done P P2 Q never is = absurd (never refl)
undone ReadFailed P P2 Q never is = is
undone WriteFailed P P2 Q never is = is
undone OutOfMemory P P2 Q never is = is
undone Refused P P2 Q never is = is

-- of a refused call, which leaves the map, any step may be said
pub any_step : {T : Type 0} (old new : LogView) (First Second : Log → Log → Type 0) (after : FlaggedMap → FlaggedMap) (result : Result T KvError) (e : KvError) → IsErrAnd result (λ x. x ≡ e)
    → Changes old new unchanged First (kv_ending e) → Changes old new after Second (kv_ended result)
any_step old new First Second after (Ok x) e is changes = absurd is
any_step old new First Second after (Err x) e is changes = subst (λ (y : KvError). Changes old new after Second (kv_ending y)) (sym is) (record {
  runs = runs_weakened (LeavesOneOf old after) (λ image told call now cut.
      let m : FlaggedMap = map_in old.device.geometry old.log image in
      cut_weakened old.device.geometry (MountsToOne old.device.geometry m m) (MountsToOne old.device.geometry m (after m)) (λ left is. ⊎_elim (λ mounts. inl mounts) (λ mounts. inl mounts) is) call now cut) changes.runs;
  callers = changes.callers;
  ready = changes.ready;
  map_is = λ image told left told_left. undone (kv_ending e) (map_in old.device.geometry new.log left ≡ map_in old.device.geometry old.log image) (map_in old.device.geometry new.log left ≡ after (map_in old.device.geometry old.log image)) (Unit {0})
      (no_done e) (changes.map_is image told left told_left);
  log_is = λ image told left told_left. undone (kv_ending e) (First (log_in old.device.geometry old.log image) (log_in old.device.geometry new.log left)) (Second (log_in old.device.geometry old.log image) (log_in old.device.geometry new.log left))
      (SameButOther (log_in old.device.geometry old.log image) (log_in old.device.geometry new.log left)) (no_done e) (changes.log_is image told left told_left);
})

-- what a call that was done did, said in other words
pub step_more : (old new : LogView) (First Second : Log → Log → Type 0) (after : FlaggedMap → FlaggedMap) (ending : Ending) → ((a b : Log) → First a b → Second a b) → Changes old new after First ending → Changes old new after Second ending
step_more old new First Second after ending implies changes = record {
  runs = changes.runs;
  callers = changes.callers;
  ready = changes.ready;
  map_is = changes.map_is;
  log_is = λ image told left told_left. by_more ending (implies (log_in old.device.geometry old.log image) (log_in old.device.geometry new.log left)) (λ (is : SameButOther (log_in old.device.geometry old.log image) (log_in old.device.geometry new.log left)). is) (changes.log_is image told left told_left);
}

-- the live records of no key are none
no_live : (bits : ℕ) (live : List Write) → AreLive bits map.empty live → live ≡ []
no_live bits [] is = refl
no_live bits (r ∷ live) is = absurd (omega (arith, live_spent 1 bits map.empty (r ∷ live) is, used-empty 1, extent-positive 1 (omega arith) r))

pub emptied_step : (bits : ℕ) (a b : Log) → IsRenewed bits emptied a b → IsEmptied a b
emptied_step bits a b is = (
  [],
  record { ascend = tt; no_removes = All-nil (λ (r : Write). r.flags ≢ remove_flags); map_is = refl },
  subst (λ (l : List Write). b ≡ record { active = 1 - a.active; version = (a.version + 1) % 2 ^ 16; records = l ++ []; is_clean = true; other = b.other }) (no_live bits is.0 is.1) is.2,
)

-- what stands but for the other area twice does once
pub other_twice : (a b c : Log) → SameButOther a b → SameButOther b c → SameButOther a c
other_twice a b c first second = second ∙ (λ i. record (first i) { other = c.other })

-- a collection sees nothing of the other area
pub renewed_then : (bits : ℕ) (after : FlaggedMap → FlaggedMap) (a b c : Log) → SameButOther a b → IsRenewed bits after b c → IsRenewed bits after a c
renewed_then bits after a b c same step = subst (λ (l : Log). IsRenewed bits after l c) same step

-- ---- tables

pub turned_log : (old mid : LogPart) (end : ℕ) → SameButSpare old mid → KeepsRoom old.spare mid.spare → length mid.spare.entries ≡ length mid.table.entries → HasTurned old (completed mid end)
turned_log old mid end same room count =
    let table : mid.table ≡ old.table = ap (λ (l : LogPart). l.table) same in
    let long : length mid.table.entries ≡ length old.table.entries = ap (λ (t : TableState). length t.entries) table in
    let more : mid.table.spare ≡ old.table.spare = ap (λ (t : TableState). t.spare) table in
    record {
      clean = refl;
      count = count ∙ long;
      reserved = λ reserved. record {
        table = omega (arith, reserved.spare, room, count, long);
        spare = omega (arith, reserved.table, count, more);
      };
    }

pub on_ok : {T E P Q : Type 0} (result : Result T E) → (P → Q) → OnOk result P → OnOk result Q
on_ok (Ok x) f is = f is
on_ok (Err e) f is = tt

-- ---- a call that leaves the log, maybe but for the other area, and then one

pub stands_then : (a b c : LogView) (after : FlaggedMap → FlaggedMap) (First Second Step : Log → Log → Type 0) (ending : Ending) → ((x y : Log) → First x y → SameButOther x y)
    → ((x y z : Log) → First x y → Second y z → Step x z) → Changes a b unchanged First Done → Changes b c after Second ending → Changes a c after Step ending
stands_then a b c after First Second Step ending stays joins first second = record {
  runs = changes_then a b c after First Second ending first second;
  callers = callers_then a b c first.callers second.callers;
  ready = second.ready;
  map_is = λ image told left told_left.
      let mid = told_after first.runs.kept told in
      let same : map_in a.device.geometry b.log mid.0 ≡ map_in a.device.geometry a.log image = first.map_is image told mid.0 mid.1 in
      by_more ending (λ (is : map_in b.device.geometry c.log left ≡ after (map_in b.device.geometry b.log mid.0)).
      subst (λ (g : Geometry). map_in g c.log left ≡ after (map_in g b.log mid.0)) first.runs.kept.geometry is ∙ ap after same)
      (λ none. none) (second.map_is mid.0 mid.1 left told_left);
  log_is = λ image told left told_left.
      let mid = told_after first.runs.kept told in
      let before : Log = log_in a.device.geometry a.log image in
      let between : Log = log_in a.device.geometry b.log mid.0 in
      let now : Log = log_in a.device.geometry c.log left in
      let one : First before between = first.log_is image told mid.0 mid.1 in
      by_more ending
      (λ (is : Second (log_in b.device.geometry b.log mid.0) (log_in b.device.geometry c.log left)).
      joins before between now one (subst (λ (g : Geometry). Second (log_in g b.log mid.0) (log_in g c.log left)) first.runs.kept.geometry is))
      (λ (is : SameButOther (log_in b.device.geometry b.log mid.0) (log_in b.device.geometry c.log left)).
      other_twice before between now (stays before between one) (subst (λ (g : Geometry). SameButOther (log_in g b.log mid.0) (log_in g c.log left)) first.runs.kept.geometry is))
      (second.log_is mid.0 mid.1 left told_left);
}

-- ---- room

abbrev fits : LogView → ℕ → Bool
fits v size = nat_le (v.log.end + size) (end_of (area_in v.device.geometry v.log))

module _ (v : LogView) (ready : IsReady v) (size : ℕ) (image : List ℕ) (told : v.device.image ≡ Some image) where
  abbrev takes : ℕ
  takes = spent v.device.geometry.prog (records_in v.device.geometry v.log image)

  pub end_takes : v.log.end ≡ first_place v.device.geometry (area_in v.device.geometry v.log) + spent v.device.geometry.prog (records_in v.device.geometry v.log image)
  end_takes = records_spent v.device.geometry.prog image (first_place v.device.geometry (area_in v.device.geometry v.log)) v.log.end (records_in v.device.geometry v.log image)
      (all_records v.device.geometry v.log image ready.safe (ready.stands image told)).each

  enough : nat_le (v.log.end + size) (end_of (area_in v.device.geometry v.log)) ≡ true
      → nat_lt (room_of v.device.geometry.prog (area_size v.device.geometry)) (spent v.device.geometry.prog (records_in v.device.geometry v.log image) + size) ≡ false
  enough is =
      let less : v.log.end + size ≤ end_of (area_in v.device.geometry v.log) = is_le _ _ is in
      not_less _ _ (omega (arith, less, end_takes))
    where
      is_le : (a b : ℕ) → nat_le a b ≡ true → a ≤ b
      is_le a b is = grind (arith, nat_tests)

      not_less : (a b : ℕ) → b ≤ a → nat_lt a b ≡ false
      not_less a b le = grind (arith, nat_tests)

  short : nat_le (v.log.end + size) (end_of (area_in v.device.geometry v.log)) ≡ false
      → nat_lt (room_of v.device.geometry.prog (area_size v.device.geometry)) (spent v.device.geometry.prog (records_in v.device.geometry v.log image) + size) ≡ true
  short is =
      let more : end_of (area_in v.device.geometry v.log) < v.log.end + size = is_gt _ _ is in
      let inside = (all_records v.device.geometry v.log image ready.safe (ready.stands image told)).inside in
      less _ _ (omega (arith, more, end_takes, ready.safe.valid.master_fits))
    where
      is_gt : (a b : ℕ) → nat_le a b ≡ false → b < a
      is_gt a b is = grind (arith, nat_tests)

      less : (a b : ℕ) → a < b → nat_lt a b ≡ true
      less a b lt = grind (arith, nat_tests)

-- where the tail is clean and long enough nothing is done
pub has_room : (v : LogView) (ready : IsReady v) (size : ℕ) → v.log.is_clean ≡ true → nat_le (v.log.end + size) (end_of (area_in v.device.geometry v.log)) ≡ true → Changes v v unchanged (MakesRoom v size) Done
has_room v ready size clean room = record {
  runs = runs_none v.device (LeavesOneOf v unchanged) Done tt (λ image told. inl (log_mounts v.device.geometry image v.log (ready.stands image told)));
  callers = record { hash_bits = refl; iterators = refl };
  ready = ready;
  map_is = λ image told left told_left. ap (map_in v.device.geometry v.log) (list_is left image (sym told_left ∙ told));
  log_is = λ image told left told_left.
      let before : Log = log_in v.device.geometry v.log image in
      let now : Log = log_in v.device.geometry v.log left in
      let stands : now ≡ before = ap (log_in v.device.geometry v.log) (list_is left image (sym told_left ∙ told)) in
      subst (λ (b : Bool). MatchBool b (IsRenewed v.log.hash_bits unchanged before now) (now ≡ before))
      (sym (no_collection v.log.is_clean _ clean (enough v ready size image told room))) stands;
}
  where
    list_is : (a b : List ℕ) → Some a ≡ Some b → a ≡ b
    list_is a b same = cc

    no_collection : (clean less : Bool) → clean ≡ true → less ≡ false → (not clean || less) ≡ false
    no_collection true less is none = none
    no_collection false less is none = absurd (cc (is))

-- and else the log is collected
pub makes_room : (old new : LogView) (ready : IsReady old) (size : ℕ) → (old.log.is_clean ≡ false) ⊎ (nat_le (old.log.end + size) (end_of (area_in old.device.geometry old.log)) ≡ false)
    → Changes old new unchanged (IsRenewed old.log.hash_bits unchanged) Done → Changes old new unchanged (MakesRoom old size) Done
makes_room old new ready size why changes = record {
  runs = changes.runs;
  callers = changes.callers;
  ready = changes.ready;
  map_is = changes.map_is;
  log_is = λ image told left told_left.
      let before : Log = log_in old.device.geometry old.log image in
      let now : Log = log_in old.device.geometry new.log left in
      subst (λ (b : Bool). MatchBool b (IsRenewed old.log.hash_bits unchanged before now) (now ≡ before))
      (sym (collection old.log.is_clean _ (by_why why (short old ready size image told)))) (changes.log_is image told left told_left);
}
  where
    collection : (clean less : Bool) → (clean ≡ false) ⊎ (less ≡ true) → (not clean || less) ≡ true
    collection true true is = refl
    collection false less is = refl
    collection true false (inl is) = absurd (cc (is))
    collection true false (inr is) = absurd (cc (is))

    by_why : {A B C : Type 0} → A ⊎ B → (B → C) → A ⊎ C
    by_why (inl a) f = inl a
    by_why (inr b) f = inr (f b)

-- a collected log has the room, where the map's records and this one fit
pub collected_fits : (old new : LogView) (size : ℕ) → HasSpaceFor old size → Changes old new unchanged (IsRenewed old.log.hash_bits unchanged) Done
    → (image : List ℕ) → old.device.image ≡ Some image → nat_le (new.log.end + size) (end_of (area_in new.device.geometry new.log)) ≡ false → ⊥
collected_fits old new size space changes image told is =
    let left = told_after changes.runs.kept told in
    let live = changes.log_is image told left.0 left.1 in
    let same : new.device.geometry ≡ old.device.geometry = changes.runs.kept.geometry in
    let takes : spent old.device.geometry.prog live.0 ≡ used old.device.geometry.prog (map_in old.device.geometry old.log image) = live_spent old.device.geometry.prog old.log.hash_bits (map_in old.device.geometry old.log image) live.0 live.1 in
    let records : records_in old.device.geometry new.log left.0 ≡ live.0 = ap (λ (l : Log). l.records) live.2 ∙ append-nil live.0 in
    let end : new.log.end ≡ first_place old.device.geometry (area_in old.device.geometry new.log) + spent old.device.geometry.prog (records_in old.device.geometry new.log left.0) =
    subst (λ (g : Geometry). new.log.end ≡ first_place g (area_in g new.log) + spent g.prog (records_in g new.log left.0)) same (end_takes new changes.ready size left.0 left.1) in
    let more : end_of (area_in old.device.geometry new.log) < new.log.end + size = is_gt _ _ (subst (λ (g : Geometry). nat_le (new.log.end + size) (end_of (area_in g new.log)) ≡ false) same is) in
    let valid : IsValid old.device.geometry = subst IsValid same changes.ready.safe.valid in
    let fits : used old.device.geometry.prog (map_in old.device.geometry old.log image) + size ≤ room_of old.device.geometry.prog (area_size old.device.geometry) = space image told in
    omega (arith, more, end, takes, ap (spent old.device.geometry.prog) records, fits, valid.master_fits)
  where
    is_gt : (a b : ℕ) → nat_le a b ≡ false → b < a
    is_gt a b is = grind (arith, nat_tests)

-- only a device that tells nothing leaves less
pub left_short : (old new : LogView) (size : ℕ) → HasSpaceFor old size → Changes old new unchanged (IsRenewed old.log.hash_bits unchanged) Done
    → nat_le (new.log.end + size) (end_of (area_in new.device.geometry new.log)) ≡ false → Changes old new unchanged (MakesRoom old size) Refused × (old.device.image ≡ None)
left_short old new size space changes short = (
  record {
    runs = runs_end Refused tt changes.runs;
    callers = changes.callers;
    ready = changes.ready;
    map_is = λ image told left told_left. tt;
    log_is = λ image told left told_left. absurd (collected_fits old new size space changes image told short);
  },
  none_if old.device.image (λ image told. collected_fits old new size space changes image told short),
)
  where
    none_if : (o : Option (List ℕ)) → ((x : List ℕ) → o ≡ Some x → ⊥) → o ≡ None
    none_if None never = refl
    none_if (Some x) never = absurd (never x refl)
