use Rattle.std.proofs.Common.{◌≡◌, ◌⊎◌, ℕ, ◌+◌, Bool, false, inl, inr, sym, ◌∙◌, arith}
use Rattle.std.specs.Prelude.{nat_le}
use Rattle.area_log.specs.Areas.{end_of}
use Rattle.tdb_read.specs.Views.{area_in, view_of}
use Rattle.tdb_write.proofs.CollectedLemmas.{has_room, left_short, makes_room}
use Rattle.tdb_write.proofs.room.make_room.Goals.{else-log-via-then-log+else-fits_behind, else-log-via-else-log}
use Rattle.tdb_write.proofs.room.make_room.Goals as goal

pub returns-then-fits_behind-clause-changes : goal.returns-then-fits_behind-clause-changes
returns-then-fits_behind-clause-changes g c =
    has_room (view_of g.F.Flash.state c.args.log.now) c.requires.ready c.args.size c.if-log.true (sym c.fits_behind.ensures ∙ c.if-fits_behind.true)

pub returns-then-fits_behind-2-clause-changes : goal.returns-then-fits_behind-2-clause-changes
returns-then-fits_behind-2-clause-changes g c =
    let old = view_of g.F.Flash.state c.args.log.now in
    let why : (old.log.is_clean ≡ false) ⊎ (nat_le (old.log.end + c.args.size) (end_of (area_in old.device.geometry old.log)) ≡ false) =
    elim c.else-log.branch [
      | else-log-via-then-log+else-fits_behind w ↦ inr (sym w.fits_behind.ensures ∙ w.if-fits_behind.false)
      | else-log-via-else-log w ↦ inl w.if-log.false
    ] in
    makes_room old (view_of g.F.Flash.state c.collect_log.new.log) c.requires.ready c.args.size why c.in_ok-collect_log.ensures.changes

pub returns-else-fits_behind-2-clause-changes : goal.returns-else-fits_behind-2-clause-changes
returns-else-fits_behind-2-clause-changes g c =
    (left_short (view_of g.F.Flash.state c.args.log.now) (view_of g.F.Flash.state c.collect_log.new.log) c.args.size c.requires.space c.in_ok-collect_log.ensures.changes
    (sym c.fits_behind-2.ensures ∙ c.if-fits_behind-2.false)).0

pub returns-else-fits_behind-2-clause-refusal : goal.returns-else-fits_behind-2-clause-refusal
returns-else-fits_behind-2-clause-refusal g c =
    inr (
      (λ same. omega (arith, same)),
      (left_short (view_of g.F.Flash.state c.args.log.now) (view_of g.F.Flash.state c.collect_log.new.log) c.args.size c.requires.space c.in_ok-collect_log.ensures.changes
          (sym c.fits_behind-2.ensures ∙ c.if-fits_behind-2.false)).1,
    )
