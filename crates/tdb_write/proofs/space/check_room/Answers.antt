use Rattle.std.proofs.Common.{◌≡◌, ◌⊎◌, ℕ, ◌-◌, inl, sym, ◌∙◌, ap, arith}
use Rattle.base_core.specs.Sizes.{record_size}
use Rattle.flash_core.specs.declared.geometry.Geometry.{Geometry}
use Rattle.flash_core.specs.Sizes.{area_size}
use Rattle.area_log.specs.declared.area.Area.{Area}
use Rattle.tdb_read.specs.Views.{view_of}
use Rattle.tdb_write.proofs.SpaceLemmas.{full_by_count, space_behind}
use Rattle.tdb_write.proofs.space.check_room.Goals as goal

pub returns-then-fits_behind-clause-room : goal.returns-then-fits_behind-clause-room
returns-then-fits_behind-clause-room g c =
    space_behind (view_of g.F.Flash.state c.args.log.now) c.requires.ready c.args.size (sym c.fits_behind.ensures ∙ c.if-fits_behind.true)

pub returns-else-need-room-clause-room : goal.returns-else-need-room-clause-room
returns-else-need-room-clause-room g c =
    let old = view_of g.F.Flash.state c.args.log.now in
    let is = c.in_ok-live_size.ensures in
    let same = is.reads.device.geometry in
    let size_is : c.area.result.size ≡ area_size old.device.geometry = ap (λ (a : Area). a.size) c.area.ensures.area ∙ ap area_size same in
    let prog_is : c.geometry-prog.result.prog ≡ old.device.geometry.prog = ap (λ (x : Geometry). x.prog) (c.geometry-prog.ensures ∙ same) in
    let master : c.size_of_record.result ≡ record_size old.device.geometry.prog 4 8 = c.size_of_record.ensures ∙ ap (λ (p : ℕ). record_size p 4 8) prog_is in
    inl (full_by_count old c.requires.ready c.args.size c.in_ok-live_size.field-0 c.saturating_add-need.result (c.area.result.size - c.size_of_record.result) c.requires.size is.size c.saturating_add-need.ensures
    (λ i. size_is i - master i) (omega (arith, c.if-need-room.false)))
