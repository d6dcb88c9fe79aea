use Rattle.std.proofs.Common.{refl, arith}
use Rattle.tdb_read.specs.Views.{view_of}
use Rattle.tdb_write.proofs.ReserveLemmas.{reserved_ready}
use Rattle.tdb_write.proofs.reserving.reserve.Goals as goal

pub returns-then-is_err-clause-ready : goal.returns-then-is_err-clause-ready
returns-then-is_err-clause-ready g c =
    let s = g.F.Flash.state c.args.log.now.flash in
    let log = (view_of g.F.Flash.state c.args.log.now).log in
    reserved_ready s log c.requires.ready c.reserve_one.new.self log.spare c.reserve_one.ensures.entries refl (omega arith)

pub returns-in-Ok-clause-ready : goal.returns-in-Ok-clause-ready
returns-in-Ok-clause-ready g c =
    let s = g.F.Flash.state c.args.log.now.flash in
    let log = (view_of g.F.Flash.state c.args.log.now).log in
    reserved_ready s log c.requires.ready c.reserve_one.new.self c.reserve.new.self c.reserve_one.ensures.entries c.reserve.ensures.entries c.reserve.ensures.room

pub returns-in-Err-clause-ready : goal.returns-in-Err-clause-ready
returns-in-Err-clause-ready g c =
    let s = g.F.Flash.state c.args.log.now.flash in
    let log = (view_of g.F.Flash.state c.args.log.now).log in
    reserved_ready s log c.requires.ready c.reserve_one.new.self c.reserve.new.self c.reserve_one.ensures.entries c.reserve.ensures.entries c.reserve.ensures.room
