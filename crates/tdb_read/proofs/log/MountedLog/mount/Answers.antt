use Rattle.std.proofs.Common.{◌≡◌, length, sym, ◌∙◌, ap, subst}
use Rattle.std.specs.Prelude.{Result, Ok, Err}
use Rattle.flash_core.specs.declared.geometry.Geometry.{Geometry}
use Rattle.kv_model.specs.StoreState.{Iterators}
use Rattle.tdb_mount.specs.declared.mount.MountError.{MountError}
use Rattle.tdb_mount.specs.declared.mount.MountError.TheVariants.{BadGeometry}
use Rattle.tdb_mount.specs.declared.mount.Parts.{Parts}
use Rattle.tdb_read.specs.Mounting.{IsMounted}
use Rattle.tdb_read.proofs.MountLemmas.{is_mounted, log_of, valid_if}
use Rattle.tdb_read.proofs.log.MountedLog.mount.Goals as goal

abbrev mounted : Parts → Result Parts MountError
mounted parts = Ok parts

not_both : (parts : Parts) → mounted parts ≡ Err BadGeometry → ⊥
not_both parts same = cc

pub returns-in-Ok-buffers-clause-mounted : goal.returns-in-Ok-buffers-clause-mounted
returns-in-Ok-buffers-clause-mounted g c =
    let old = g.F.Flash.state c.args.flash in
    let new = g.F.Flash.state c.mount_parts.new.flash in
    let is = c.in-Ok.ensures in
    let parts = c.in-Ok.parts in
    let work = length c.in-Ok-buffers.work.items in
    let unit = c.in-Ok-buffers.unit.items in
    subst (λ (its : Iterators). IsMounted old c.args.hash_bits (record { device = new; log = record (log_of c.args.hash_bits parts work unit) { iterators = its } })) (sym c.new.ensures)
    (is_mounted old new is.runs c.args.hash_bits c.requires.bits parts
    (valid_if old.geometry (λ bad. not_both parts (is.bad_geometry.1 bad))) is.safe is.mounted is.cuts is.leaves
    work unit c.in-Ok-buffers.ensures.work (c.in-Ok-buffers.ensures.unit ∙ ap (λ (x : Geometry). x.prog) c.geometry.ensures))
