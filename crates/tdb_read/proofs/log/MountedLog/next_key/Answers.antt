use Rattle.std.proofs.Common.{◌≡◌, ℕ, List, [], inr, sym, ◌∙◌, ap, subst}
use Rattle.std.specs.Prelude.{if◌then◌else◌, is_some, not, IsTrue, Option, Some, None, Result, Ok, Err, MatchResult}
use Rattle.std.specs.Option.{ForSome, option_copied, unwrap_or}
use Rattle.std.specs.FinMap.{contains_key, get}
use Rattle.flash_core.specs.declared.geometry.Geometry.{Geometry}
use Rattle.flash_core.specs.Calls.{OnlyReads}
use Rattle.flash_core.specs.State.{FlashState}
use Rattle.kv_model.specs.declared.error.KvError.{KvError}
use Rattle.kv_model.specs.NextKey.{IsNext}
use Rattle.kv_model.specs.StoreState.{Iterators, Position}
use Rattle.kv_model.specs.declared.error.KvError.TheVariants.{NoIterator}
use Rattle.area_log.specs.declared.area.Area.{Area}
use Rattle.kv_iters.specs.Calls.{at_the_start, position_of, use_refusal}
use Rattle.ram_table.specs.Find.{IsIndexOf}
use Rattle.ram_table.specs.Table.{entry_at}
use Rattle.tdb_mount.specs.Keys.{keys_in}
use Rattle.tdb_read.specs.Reads.{GivesNext, IsBehind, IsFirstOrNone, IsReadRefusal, map_in}
use Rattle.tdb_read.specs.Views.{IsReady, LogView, area_in, view_of}
use Rattle.tdb_read.proofs.GetLemmas.{refusal_since}
use Rattle.tdb_read.proofs.NextLemmas.{is_next}
use Rattle.tdb_read.proofs.TableLemmas.{told_table}
use Rattle.tdb_read.proofs.log.MountedLog.next_key.Goals as goal

pub place_behind-requires-clause-index : goal.place_behind-requires-clause-index
place_behind-requires-clause-index g c image told =
    let v = view_of g.F.Flash.state c.args.self.now in
    subst (λ (a : Area). IsIndexOf v.log.hash_bits (keys_in v.device.geometry a image) v.log.table.entries) (sym c.area-area.ensures.area)
    (told_table v.device.geometry v.log image c.requires.ready.safe (c.requires.ready.stands image told)).index

pub first_with_prefix-requires-clause-keys : goal.first_with_prefix-requires-clause-keys
first_with_prefix-requires-clause-keys g c image told i inside =
    let v = view_of g.F.Flash.state c.args.self.now in
    let reads = c.in_ok-from.ensures.reads in
    let index = (told_table v.device.geometry v.log image c.requires.ready.safe (c.requires.ready.stands image (sym reads.image ∙ told))).index in
    subst (λ (x : Geometry). IsTrue (contains_key (keys_in x c.area-area.result image) (entry_at v.log.table.entries i).offset)) (sym reads.geometry)
    (subst (λ (a : Area). IsTrue (contains_key (keys_in v.device.geometry a image) (entry_at v.log.table.entries i).offset)) (sym c.area-area.ensures.area) (index.has i inside))

next_given : (old : LogView) (mid new : FlashState) (ready : IsReady old) (reads : OnlyReads old.device mid) (who n from : ℕ) (position : Position)
    → position_of old.log.iterators who n ≡ position → use_refusal old.log.iterators who n ≡ None
    → ForSome old.device.image (λ image. IsBehind old.log.hash_bits (keys_in old.device.geometry (area_in old.device.geometry old.log) image) old.log.table.entries position.last from)
    → (result : Result (Option (List ℕ)) KvError)
    → MatchResult result (λ found. ForSome mid.image (λ image. IsFirstOrNone (keys_in mid.geometry (area_in old.device.geometry old.log) image) old.log.table.entries position.prefix from found)) (IsReadRefusal mid new)
    → GivesNext old (record { device = new; log = old.log }) who n result
next_given old mid new ready reads who n from position is active behind (Ok found) first = (
  active,
  λ image told.
      let g = old.device.geometry in
      let here = subst (λ (x : Geometry). IsFirstOrNone (keys_in x (area_in g old.log) image) old.log.table.entries position.prefix from found) reads.geometry (first image (reads.image ∙ told)) in
      subst (λ (p : Position). IsNext old.log.hash_bits (map_in g old.log image) p found) (sym is)
      (is_next g old.log image ready.safe (ready.stands image told) position from found (behind image told) here),
)
next_given old mid new ready reads who n from position is active behind (Err e) refusal = inr (active, refusal_since new e reads refusal)

granted : (iterators : Iterators) (who n : ℕ) (position : Position) → get iterators (who, n) ≡ Some position → use_refusal iterators who n ≡ None
granted iterators who n position found = ap (λ (o : Option Position). if not (is_some o) then Some NoIterator else None) found

pub returns-clause-gives : goal.returns-clause-gives
returns-clause-gives g c =
    let v = view_of g.F.Flash.state c.args.self.now in
    let mid = g.F.Flash.state c.place_behind.new.flash in
    let new = g.F.Flash.state c.first_with_prefix.new.flash in
    let from = c.in_ok-from.ensures in
    let found = c.in_ok-iter.ensures.found in
    let position = c.in_ok-iter.iter.now in
    let area = area_in v.device.geometry v.log in
    next_given v mid new c.requires.ready from.reads c.args.who c.args.n c.in_ok-from.from position
    (ap (λ (o : Option Position). unwrap_or o (at_the_start [])) found)
    (granted c.args.self.now.iterators c.args.who c.args.n position found)
    (subst (λ (o : Option (List ℕ)). ForSome v.device.image (λ image. IsBehind v.log.hash_bits (keys_in v.device.geometry area image) v.log.table.entries o c.in_ok-from.from)) c.last_key.ensures
    (subst (λ (a : Area). ForSome v.device.image (λ image. IsBehind v.log.hash_bits (keys_in v.device.geometry a image) v.log.table.entries (option_copied c.last_key.result) c.in_ok-from.from)) c.area-area.ensures.area from.behind))
    c.first_with_prefix.result
    (subst (λ (p : List ℕ). MatchResult c.first_with_prefix.result (λ found. ForSome mid.image (λ image. IsFirstOrNone (keys_in mid.geometry area image) v.log.table.entries p c.in_ok-from.from found)) (IsReadRefusal mid new)) c.prefix.ensures
    (subst (λ (a : Area). MatchResult c.first_with_prefix.result (λ found. ForSome mid.image (λ image. IsFirstOrNone (keys_in mid.geometry a image) v.log.table.entries c.prefix.result.now c.in_ok-from.from found)) (IsReadRefusal mid new)) c.area-area.ensures.area
    c.first_with_prefix.ensures.first))
