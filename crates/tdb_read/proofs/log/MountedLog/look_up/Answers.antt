use Rattle.std.proofs.Common.{sym, subst}
use Rattle.area_log.specs.declared.area.Area.{Area}
use Rattle.ram_table.specs.Find.{CanFind, IsPlaceOf}
use Rattle.tdb_mount.specs.Keys.{HasHead, keys_in, keys_of}
use Rattle.tdb_read.specs.Views.{view_of}
use Rattle.std.specs.Option.{ForSome}
use Rattle.tdb_read.proofs.LookupLemmas.{looked_up, look_refused}
use Rattle.tdb_read.proofs.TableLemmas.{can_find}
use Rattle.tdb_read.proofs.log.MountedLog.look_up.Goals as goal

pub look_up-requires-clause-can : goal.look_up-requires-clause-can
look_up-requires-clause-can g c =
    let v = view_of g.F.Flash.state c.args.self.now in
    subst (λ (a : Area). CanFind (keys_of v.device a v.log.hash_bits 0) v.log.table.entries) (sym c.area-area.ensures.area) (can_find v c.requires.ready)

pub returns-in_err-seen-clause-looks_up : goal.returns-in_err-seen-clause-looks_up
returns-in_err-seen-clause-looks_up g c =
    let v = view_of g.F.Flash.state c.args.self.now in
    look_refused v (g.F.Flash.state c.look_up.new.flash) c.area-area.result c.args.key.now c.from_residual.result c.in_err-seen.field-0.0 c.from_residual.ensures.1 c.in_err-seen.ensures.cause

pub returns-clause-looks_up : goal.returns-clause-looks_up
returns-clause-looks_up g c =
    let v = view_of g.F.Flash.state c.args.self.now in
    let s = g.F.Flash.state c.look_up.new.flash in
    let seen = c.in_ok-seen.seen in
    let is = c.in_ok-seen.ensures in
    looked_up v s c.requires.ready c.args.key.now seen is.reads.kept is.inside
    (subst (λ (a : Area). ForSome v.device.image (λ image. IsPlaceOf v.log.hash_bits (keys_in v.device.geometry a image) v.log.table.entries c.args.key.now seen.place)) c.area-area.ensures.area is.place)
    (subst (λ (a : Area). HasHead s a v.log.table.entries c.args.key.now seen) c.area-area.ensures.area is.head)
