use Rattle.std.proofs.Common.{List, ℕ, sym, subst}
use Rattle.std.specs.Prelude.{Result, Ok, Err, IfOk, IfErr}
use Rattle.area_log.specs.declared.area.Area.{Area}
use Rattle.ram_table.specs.Find.{CanFind, IsInside, IsPlaceOf}
use Rattle.ram_table.specs.Reader.{IsRefusal}
use Rattle.ram_table.specs.declared.table.Place.{Place}
use Rattle.kv_model.specs.declared.error.KvError.{KvError}
use Rattle.tdb_mount.specs.Keys.{keys_in, keys_of}
use Rattle.tdb_read.specs.Reads.{Finds}
use Rattle.tdb_read.specs.Views.{IsReady, LogView, area_in, view_of}
use Rattle.std.specs.Option.{ForSome}
use Rattle.tdb_read.proofs.ReadLemmas.{from_reader}
use Rattle.tdb_read.proofs.TableLemmas.{can_find, located}
use Rattle.tdb_read.proofs.log.MountedLog.find.Goals as goal

pub place_of-requires-clause-can : goal.place_of-requires-clause-can
place_of-requires-clause-can g c =
    let v = view_of g.F.Flash.state c.args.self.now in
    subst (λ (a : Area). CanFind (keys_of v.device a v.log.hash_bits 0) v.log.table.entries) (sym c.area-area.ensures.area) (can_find v c.requires.ready)

found : (old new : LogView) (ready : IsReady old) (key : List ℕ) (result : Result Place KvError)
    → IfOk result (IsInside old.log.table.entries)
    → ForSome old.device.image (λ image. IfOk result (λ place. IsPlaceOf old.log.hash_bits (keys_in old.device.geometry (area_in old.device.geometry old.log) image) old.log.table.entries key place))
    → IfErr result (IsRefusal (keys_of old.device (area_in old.device.geometry old.log) old.log.hash_bits 0) (keys_of new.device (area_in old.device.geometry old.log) old.log.hash_bits 0))
    → Finds old new key result
found old new ready key (Ok place) inside is cause = record {
  inside = inside.most;
  there = inside.there;
  located = λ image told. located old.device.geometry old.log image ready.safe (ready.stands image told) key place (is image told) inside.there;
}
found old new ready key (Err e) inside is cause =
    from_reader old.device new.device (area_in old.device.geometry old.log) old.log.hash_bits 0 0 e cause

pub returns-clause-finds : goal.returns-clause-finds
returns-clause-finds g c =
    let v = view_of g.F.Flash.state c.args.self.now in
    let is = c.place_of.ensures in
    found v (record { device = g.F.Flash.state c.place_of.new.flash; log = v.log }) c.requires.ready c.args.key.now c.place_of.result is.inside
    (subst (λ (a : Area). ForSome v.device.image (λ image. IfOk c.place_of.result (λ place. IsPlaceOf v.log.hash_bits (keys_in v.device.geometry a image) v.log.table.entries c.args.key.now place))) c.area-area.ensures.area is.place)
    (subst (λ (a : Area). IfErr c.place_of.result (IsRefusal (keys_of v.device a v.log.hash_bits 0) (keys_of (g.F.Flash.state c.place_of.new.flash) a v.log.hash_bits 0))) c.area-area.ensures.area is.cause)
