-- What a look-up in the table says of a key's record.
use Rattle.std.proofs.Common.{◌≡◌, ℕ, ◌-◌, Bool, true, false, List, sym, ◌∙◌, subst}
use Rattle.std.specs.Prelude.{Option, Some, None, MatchBool, MatchOption, Result, Ok, Err, IsErrAnd}
use Rattle.std.specs.Option.{ForSome}
use Rattle.std.specs.FinMap.{get}
use mathlib.Core.Bool.{false≢true}
use Rattle.flash_core.specs.declared.geometry.Geometry.{Geometry}
use Rattle.flash_core.specs.Calls.{OnlyReads}
use Rattle.flash_core.specs.State.{FlashState}
use Rattle.kv_model.specs.declared.error.KvError.{KvError}
use Rattle.record_core.specs.Lookup.{KeyedSeen}
use Rattle.area_log.specs.declared.area.Area.{Area}
use Rattle.area_log.specs.declared.read.PlacedHeader.{PlacedHeader}
use Rattle.area_log.specs.Areas.{end_of}
use Rattle.ram_table.specs.Find.{IsInside, IsPlaceOf}
use Rattle.ram_table.specs.Reader.{IsRefusal}
use Rattle.tdb_mount.specs.declared.lookup.Seen.{Seen}
use Rattle.tdb_mount.specs.Keys.{HasHead, IsHeadAt, keys_in, keys_of}
use Rattle.tdb_read.specs.Reads.{HasAt, IsHeadOf, IsLocated, Lacks, LooksUp, map_in, offset_in}
use Rattle.tdb_read.specs.Views.{IsReady, LogView, area_in}
use Rattle.tdb_read.proofs.ReadLemmas.{from_reader}
use Rattle.tdb_read.proofs.TableLemmas.{located}

is_there : (found : Bool) (P Q : Type 0) → found ≡ true → MatchBool found P Q → P
is_there true P Q there is = is
is_there false P Q there is = absurd (false≢true there)

is_absent : (found : Bool) (P Q : Type 0) → found ≡ false → MatchBool found P Q → Q
is_absent true P Q absent is = absurd (false≢true (sym absent))
is_absent false P Q absent is = is

module _ (old : LogView) (device : FlashState) (ready : IsReady old) (key : List ℕ) (seen : Seen) (only : OnlyReads old.device device) (inside : IsInside old.log.table.entries seen.place)
    (place_is : ForSome old.device.image (λ image. IsPlaceOf old.log.hash_bits (keys_in old.device.geometry (area_in old.device.geometry old.log) image) old.log.table.entries key seen.place)) where
  abbrev g : Geometry
  g = old.device.geometry

  abbrev at : ℕ
  at = offset_in old.log seen.place.at

  here : (image : List ℕ) → old.device.image ≡ Some image → IsLocated g image old.log key seen.place
  here image told = located g old.log image ready.safe (ready.stands image told) key seen.place (place_is image told) inside.there

  abbrev Is : PlacedHeader → Type 0
  Is head = (seen.place.found ≡ true) × IsHeadAt device (area_in g old.log) at key head

  head_of : (head : PlacedHeader) → Is head → IsHeadOf (record { device = device; log = old.log }) key head
  head_of head is = record {
    entry = seen.place.at;
    inside = inside.there is.0;
    at = is.1.at;
    seen = subst (λ (x : Geometry). KeyedSeen device head.at (end_of (area_in x old.log) - head.at) head.header key) (sym only.geometry)
        (subst (λ (p : ℕ). KeyedSeen device p (end_of (area_in g old.log) - p) head.header key) (sym is.1.at) is.1.seen);
    has = λ image told.
        subst (λ (x : Geometry). HasAt x image old.log key head.at) (sym only.geometry)
        (subst (HasAt g image old.log key) (sym is.1.at)
        (is_there seen.place.found (HasAt g image old.log key at) (get (map_in g old.log image) key ≡ None) is.0 (here image (sym only.image ∙ told)).map_is));
  }

  looked : (head : Option PlacedHeader) → MatchOption head (seen.place.found ≡ false) Is → MatchOption head (Lacks old key) (IsHeadOf (record { device = device; log = old.log }) key)
  looked None absent = λ image told.
      is_absent seen.place.found (HasAt g image old.log key at) (get (map_in g old.log image) key ≡ None) absent (here image told).map_is
  looked (Some head) is = head_of head is

  pub looked_up : HasHead device (area_in g old.log) old.log.table.entries key seen → LooksUp old (record { device = device; log = old.log }) key (Ok seen.head)
  looked_up has = looked seen.head has

-- a look-up that was refused
pub look_refused : (old : LogView) (device : FlashState) (area : Area) (key : List ℕ) (result : Result (Option PlacedHeader) KvError) (e : KvError) → IsErrAnd result (λ x. x ≡ e)
    → IsRefusal (keys_of old.device area old.log.hash_bits 0) (keys_of device area old.log.hash_bits 0) e → LooksUp old (record { device = device; log = old.log }) key result
look_refused old device area key (Ok found) e is cause = absurd is
look_refused old device area key (Err x) e is cause =
    from_reader old.device device area old.log.hash_bits 0 0 x (subst (IsRefusal (keys_of old.device area old.log.hash_bits 0) (keys_of device area old.log.hash_bits 0)) (sym is) cause)
