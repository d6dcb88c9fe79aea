use Rattle.std.proofs.Common.{ℕ, subst}
use Rattle.flash_core.specs.Runs.{Done}
use Rattle.tdb_read.specs.Views.{view_of}
use Rattle.tdb_write.specs.Changes.{Changes, MakesRoom, unchanged}
use Rattle.tdb_write.proofs.CollectedLemmas.{any_step}
use Rattle.plain_store.specs.Setting.{size_at}
use Rattle.plain_store.proofs.StartLemmas.{plain_header, set_begun, then_begun}
use Rattle.plain_store.proofs.setting.begin_set.Goals as goal

pub begin-requires-clause-header : goal.begin-requires-clause-header
begin-requires-clause-header g c =
    plain_header c.args.flags.bits c.args.size c.args.key.now c.requires.plain c.size_for-wanted.ensures.valid c.requires.small

pub returns-in_err-make_room-clause-changes : goal.returns-in_err-make_room-clause-changes
returns-in_err-make_room-clause-changes g c =
    let v = view_of g.F.Flash.state c.args.log.now in
    let w = view_of g.F.Flash.state c.make_room.new.log in
    any_step v w (MakesRoom v c.size_for-wanted.result) (MakesRoom v (size_at v c.args.key.now c.args.size)) unchanged c.from_residual.result c.in_err-make_room.field-0.0 c.from_residual.ensures.1
    c.in_err-make_room.ensures.changes

pub returns-clause-changes : goal.returns-clause-changes
returns-clause-changes g c =
    let v = view_of g.F.Flash.state c.args.log.now in
    let w = view_of g.F.Flash.state c.make_room.new.log in
    let x = view_of g.F.Flash.state c.begin.new.log in
    then_begun g.F.Flash.state c.make_room.new.log.flash c.begin.new.log.flash w.log x.log c.begin.ensures.flash c.begin.ensures.memory c.begin.ensures.ready v unchanged
    (MakesRoom v (size_at v c.args.key.now c.args.size))
    (subst (λ (n : ℕ). Changes v w unchanged (MakesRoom v n) Done) c.size_for-wanted.ensures.size c.in_ok-make_room.ensures.changes)

pub returns-clause-begun : goal.returns-clause-begun
returns-clause-begun g c =
    let w = view_of g.F.Flash.state c.make_room.new.log in
    let x = view_of g.F.Flash.state c.begin.new.log in
    set_begun w x c.begin.result c.args.place c.args.key.now c.args.flags.bits c.args.size c.make_room.new.log.end c.begin.ensures.set c.requires.plain c.begin.ensures.writing
    (c.in_ok-make_room.ensures.places c.args.key.now c.args.place c.requires.can.found) c.begin.ensures.places (c.in_ok-make_room.ensures.reserved c.requires.can.reserved) c.begin.ensures.memory
